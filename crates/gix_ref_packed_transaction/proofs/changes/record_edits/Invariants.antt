use Rattle.std.proofs.Common.{◌≡◌, take}
use Rattle.gix_ref_packed_transaction.specs.Changes.{change_values, edit_values}
use Rattle.gix_ref_packed_transaction.proofs.changes.record_edits.Given as goal

-- the edits so far make the changes so far
abbrev pub invariant-loop-change : goal.invariant-loop-change
invariant-loop-change l = edit_values l.edits.items ≡ change_values (take l.change-index l.changes)
