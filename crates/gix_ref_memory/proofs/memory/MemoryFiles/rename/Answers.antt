use Rattle.gix_ref_memory.proofs.Leaving.{renaming_leaves}
use Rattle.gix_ref_memory.proofs.memory.MemoryFiles.rename.Goals as goal

pub returns-in-Ok-Some-clause-leaves : goal.returns-in-Ok-Some-clause-leaves
returns-in-Ok-Some-clause-leaves c = renaming_leaves _ _ _ _ c.rename_now.ensures.passes

pub returns-in-Ok-clause-leaves : goal.returns-in-Ok-clause-leaves
returns-in-Ok-clause-leaves c = renaming_leaves _ _ _ _ c.rename_now-in-Stop.ensures.passes
