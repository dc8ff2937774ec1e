use Rattle.std.proofs.Common.{List}
use Rattle.gix_ref_edits.specs.declared.transaction.RefEdit.{RefEdit}
use Rattle.gix_ref_queries.specs.Resolving.{targets_in}
use Rattle.gix_ref_store.specs.Lookup.{AreRecordsIn, LooksUp}
use Rattle.gix_ref_target.specs.PackedRecords.{Record}
use Rattle.gix_ref_session.specs.Clashes.{AreNamesOf, IsFreeBefore, SeesFreeBefore}
use Rattle.gix_ref_session.proofs.clash.is_below_one.Given as goal

-- no folder that ended before is taken
abbrev pub invariant-loop-at : goal.invariant-loop-at
invariant-loop-at g l =
    let F = g.F.Files in
    record {
      looked : LooksUp F.honest F.means l.fn.store l.store;
      none : F.honest → (records : List Record) → AreRecordsIn F.means l.fn.store records → (edits : List RefEdit) → AreNamesOf edits l.edited → IsFreeBefore (targets_in F.means l.fn.store records) edits l.from l.name → IsFreeBefore (targets_in F.means l.fn.store records) edits l.at l.name;
      seen : F.honest → (edits : List RefEdit) → AreNamesOf edits l.edited → SeesFreeBefore F.means l.fn.store edits l.from l.name → SeesFreeBefore F.means l.fn.store edits l.at l.name;
    }
