use Rattle.std.proofs.Common.{◌≡◌, ◌++◌, drop}
use Rattle.gix_ref_transaction.specs.OwnLocks.{paths_of}
use Rattle.gix_ref_commit.specs.Cleared.{all_removed}
use Rattle.gix_ref_commit.proofs.tidy.removed_paths.Given as goal

-- with what is still to come, all are there
abbrev pub invariant-loop-edit : goal.invariant-loop-edit
invariant-loop-edit l = paths_of l.paths.items ++ all_removed (drop l.edit-index l.edits) ≡ all_removed l.edits
