use Rattle.std.proofs.Common.{[], take}
use Rattle.gix_ref_files.specs.Tree.{no_tree}
use Rattle.gix_ref_memory.specs.Changes.{after_changes, IsChangedPath}
use Rattle.gix_ref_memory.specs.internal.Power.{Fills, IsReachable}
use Rattle.gix_ref_memory.proofs.memory.power.reachable_entries.Given as goal

-- the paths so far hold what can be reached
abbrev pub invariant-loop-entry : goal.invariant-loop-entry
invariant-loop-entry l = Fills (IsReachable (after_changes l.entries no_tree)) (IsChangedPath (take l.entry-index l.entries)) [] l.left.items
