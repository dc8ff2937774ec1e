use Rattle.gix_ref_memory.proofs.Leaving.{removing_file_leaves}
use Rattle.gix_ref_memory.proofs.memory.MemoryFiles.remove_file.Goals as goal

pub returns-in-Ok-clause-leaves : goal.returns-in-Ok-clause-leaves
returns-in-Ok-clause-leaves c = removing_file_leaves _ _ _ c.remove_file_now.ensures.passes

pub returns-in-Ok-remove_file_now-clause-leaves : goal.returns-in-Ok-remove_file_now-clause-leaves
returns-in-Ok-remove_file_now-clause-leaves c = removing_file_leaves _ _ _ c.remove_file_now-in-Stop.ensures.passes
