use Rattle.std.proofs.Common.{◌≡◌, ◌++◌, drop}
use Rattle.gix_ref_commit.specs.Entries.{entries, each, update_entries}
use Rattle.gix_ref_commit.proofs.plan.add_updates.Given as goal

-- with what is still to come, the plan is whole
abbrev pub invariant-loop-at : goal.invariant-loop-at
invariant-loop-at l = entries l.plan.items ++ each (update_entries l.dirs) l.at (drop l.at l.edits) ≡ entries l.fn.plan.items ++ each (update_entries l.dirs) 0 l.edits
