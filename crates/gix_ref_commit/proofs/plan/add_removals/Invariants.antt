use Rattle.std.proofs.Common.{◌≡◌, ◌++◌, drop}
use Rattle.gix_ref_commit.specs.Entries.{entries, each, removal_entry}
use Rattle.gix_ref_commit.proofs.plan.add_removals.Given as goal

-- with what is still to come, the plan is whole
abbrev pub invariant-loop-at : goal.invariant-loop-at
invariant-loop-at l = entries l.plan.items ++ each removal_entry l.at (drop l.at l.edits) ≡ entries l.fn.plan.items ++ each removal_entry 0 l.edits
