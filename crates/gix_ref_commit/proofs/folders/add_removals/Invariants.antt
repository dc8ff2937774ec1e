use Rattle.std.proofs.Common.{◌≡◌, ◌++◌, drop}
use Rattle.gix_ref_transaction.specs.OwnLocks.{paths_of}
use Rattle.gix_ref_commit.specs.Cleared.{removals}
use Rattle.gix_ref_commit.specs.Entries.{entries}
use Rattle.gix_ref_commit.proofs.folders.add_removals.Given as goal

-- with what is still to come, all removals are there
abbrev pub invariant-loop-folder : goal.invariant-loop-folder
invariant-loop-folder l = entries l.steps.items ++ removals l.about (paths_of (drop l.folder-index l.folders)) ≡ entries l.fn.steps.items ++ removals l.about (paths_of l.folders)
