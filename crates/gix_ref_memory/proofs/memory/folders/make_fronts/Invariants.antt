use Rattle.gix_ref_memory.proofs.Fronts.{Walk}
use Rattle.gix_ref_memory.proofs.memory.folders.make_fronts.Given as goal

-- the fronts so far are folders, and those that are left lead to the same tree
abbrev pub invariant-loop-i : goal.invariant-loop-i
invariant-loop-i l = Walk l.synced l.fn.changes.items l.changes.items l.path l.most l.left l.i
