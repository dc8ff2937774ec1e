use Rattle.gix_ref_reflog.specs.internal.Leaves.{AreLeaves}
use Rattle.gix_ref_reflog.proofs.leaves.leaves_of.Given as goal

-- the leaves among the edits from the place on that was reached
abbrev pub invariant-loop-i : goal.invariant-loop-i
invariant-loop-i l = AreLeaves l.edits l.i l.leaves.items

abbrev pub decreases-loop-i : goal.decreases-loop-i
decreases-loop-i l = l.i
