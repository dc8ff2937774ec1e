use Rattle.std.proofs.Common.{[], take}
use Rattle.gix_ref_memory.specs.internal.Power.{Fills, IsChoice, IsNamedByChange}
use Rattle.gix_ref_memory.proofs.memory.power.left_entries.Given as goal

-- the paths that were named so far hold what is left
abbrev pub invariant-loop-change : goal.invariant-loop-change
invariant-loop-change l = Fills (IsChoice l.changes l.pick) (IsNamedByChange (take l.change-index l.changes)) [] l.left.items
