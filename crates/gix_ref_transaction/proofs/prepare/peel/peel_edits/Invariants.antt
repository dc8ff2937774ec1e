use Rattle.std.proofs.Common.{◌≡◌, [], take, drop}
use Rattle.gix_ref_transaction.specs.Packing.{OfFinder, ends_of, mode_in}
use Rattle.gix_ref_transaction.specs.Peels.{ArePut, IsFirstUnpeeled}
use Rattle.gix_ref_transaction.specs.PrepareSteps.{all_asked, ids_in, setting_of, updates}
use Rattle.gix_ref_transaction.specs.declared.prepare.error.Error.{Error}
use Rattle.gix_ref_transaction.proofs.prepare.peel.peel_edits.Given as goal

-- what the edits that were seen put is decided, and the rest gives the result of all
abbrev pub invariant-loop-edit : goal.invariant-loop-edit
invariant-loop-edit g l =
    let s = setting_of l.settings in
    let mode = mode_in l.packed_refs in
    let kind = l.settings.kind in
    let meaning = ends_of g.T.Find.meaning l.packed_refs in
    let claims = OfFinder g.T.Find.claims l.packed_refs in
    let all = updates l.fn.edits in
    record {
      same : all_asked l.edits ≡ all_asked l.fn.edits;
      ids : ids_in l.edits ≡ ids_in l.fn.edits;
      put : ArePut claims meaning s mode kind (take l.edit-index l.edits);
      fault : claims → (error : Error) → IsFirstUnpeeled s mode kind meaning (take l.edit-index all) (drop l.edit-index all) error → IsFirstUnpeeled s mode kind meaning [] all error;
    }
