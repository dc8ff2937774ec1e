use Rattle.gix_ref_memory.proofs.Leaving.{removing_folder_leaves}
use Rattle.gix_ref_memory.proofs.memory.MemoryFiles.remove_folder.Goals as goal

pub returns-in-Ok-clause-leaves : goal.returns-in-Ok-clause-leaves
returns-in-Ok-clause-leaves c = removing_folder_leaves _ _ _ c.remove_folder_now.ensures.passes

pub returns-in-Ok-remove_folder_now-clause-leaves : goal.returns-in-Ok-remove_folder_now-clause-leaves
returns-in-Ok-remove_folder_now-clause-leaves c = removing_folder_leaves _ _ _ c.remove_folder_now-in-Stop.ensures.passes
