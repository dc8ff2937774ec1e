use Rattle.std.proofs.Common.{◌≡◌, ◌++◌, take}
use Rattle.gix_ref_program.specs.Outcomes.{lock_lines}
use Rattle.gix_ref_program.proofs.outcome.push_locks.Given as goal

-- the lines of the locks that were seen
abbrev pub invariant-loop-lock : goal.invariant-loop-lock
invariant-loop-lock l = record { text : l.text.items ≡ l.fn.text.items ++ lock_lines (take l.lock-index l.locks) }
