use Rattle.std.proofs.Common.{◌≡◌, ◌≤◌, ◌+◌, List, ◌++◌, reverse, vec_len}
use Rattle.std.specs.Vec.{vec_capacity}
use Rattle.gix_ref_transaction.specs.PrepareSteps.{updates}
use Rattle.gix_ref_transaction.specs.declared.edit.Edit.{Edit}
use Rattle.gix_ref_transaction.proofs.release.move_updates.Given as goal

-- what the edits so far ask for is moved
abbrev pub invariant-loop-edits : goal.invariant-loop-edits
invariant-loop-edits l = record {
  moved : (tail : List Edit) × (l.fn.edits.items ≡ l.edits.items ++ tail) × (l.given.items ≡ l.fn.given.items ++ reverse (updates tail));
  within : l.taken ≤ vec_len l.edits;
  room : vec_capacity l.given ≡ vec_capacity l.fn.given;
  len : vec_len l.edits + vec_len l.given ≡ vec_len l.fn.edits + vec_len l.fn.given;
}

abbrev pub decreases-loop-edits : goal.decreases-loop-edits
decreases-loop-edits l = vec_len l.edits
