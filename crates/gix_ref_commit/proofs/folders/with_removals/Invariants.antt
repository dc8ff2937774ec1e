use Rattle.std.proofs.Common.{◌≡◌, ◌++◌, drop}
use Rattle.gix_ref_commit.specs.Cleared.{cleared, folder_lists}
use Rattle.gix_ref_commit.specs.Entries.{entries}
use Rattle.gix_ref_commit.proofs.folders.with_removals.Given as goal

-- with what is still to come, the steps are whole
abbrev pub invariant-loop-at : goal.invariant-loop-at
invariant-loop-at l = entries l.steps.items ++ cleared (folder_lists (drop l.at l.ways)) (entries (drop l.at l.plan)) ≡ cleared (folder_lists l.ways) (entries l.plan)
