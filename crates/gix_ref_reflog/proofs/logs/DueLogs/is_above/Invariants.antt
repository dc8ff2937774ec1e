use Rattle.std.proofs.Common.{◌≡◌, take, drop}
use Rattle.std.specs.List.{list_any}
use Rattle.gix_ref_files.specs.Tree.{fronts, fronts_after}
use Rattle.gix_ref_reflog.specs.internal.SeenLogs.{due_paths}
use Rattle.gix_ref_reflog.proofs.logs.DueLogs.is_above.Given as goal
use Rattle.gix_ref_transaction.specs.OwnLocks.{is_in}

-- one of the fronts is such a log only if one of those to come is
abbrev pub invariant-loop-i : goal.invariant-loop-i
invariant-loop-i l = list_any (is_in (due_paths l.self)) (fronts l.path) ≡ list_any (is_in (due_paths l.self)) (fronts_after (take l.i l.path) (drop l.i l.path))
