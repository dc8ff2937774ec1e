use Rattle.gix_ref_memory.proofs.Leaving.{creating_leaves}
use Rattle.gix_ref_memory.proofs.memory.MemoryFiles.create_new.Goals as goal

pub returns-in-Ok-Some-clause-leaves : goal.returns-in-Ok-Some-clause-leaves
returns-in-Ok-Some-clause-leaves c = creating_leaves _ _ _ c.create_now.ensures.passes
