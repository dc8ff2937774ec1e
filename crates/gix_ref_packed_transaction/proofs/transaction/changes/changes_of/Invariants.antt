use Rattle.std.proofs.Common.{[], take, drop}
use Rattle.gix_ref_packed_transaction.specs.Changes.{change_values}
use Rattle.gix_ref_transaction.specs.declared.prepare.packed.Error.{Error}
use Rattle.gix_ref_packed_transaction.specs.RecordChanges.{AreChangesOf, IsFirstNotTaken}
use Rattle.gix_ref_packed_transaction.proofs.transaction.changes.changes_of.Given as goal

-- the changes so far are those of the edits so far, and the rest gives the fault of all
abbrev pub invariant-loop-edit : goal.invariant-loop-edit
invariant-loop-edit g l =
    let claims = g.T.Find.claims l.objects in
    let meaning = g.T.Find.meaning l.objects in
    record {
      made : AreChangesOf claims meaning l.kind (take l.edit-index l.edits) (change_values l.changes.items);
      fault : claims → (error : Error) → IsFirstNotTaken l.kind meaning (take l.edit-index l.edits) (drop l.edit-index l.edits) error → IsFirstNotTaken l.kind meaning [] l.edits error;
    }
