use Rattle.std.proofs.Common.{◌≤◌}
use Rattle.gix_ref_memory.proofs.memory.births.number_of.Given as goal

-- no more than were looked at
abbrev pub invariant-loop-other : goal.invariant-loop-other
invariant-loop-other l = l.number ≤ l.other-index
