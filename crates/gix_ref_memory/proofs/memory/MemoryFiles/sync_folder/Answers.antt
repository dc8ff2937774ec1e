use Rattle.gix_ref_memory.proofs.Leaving.{syncing_folder_leaves}
use Rattle.gix_ref_memory.proofs.memory.MemoryFiles.sync_folder.Goals as goal

pub returns-in-Ok-clause-leaves : goal.returns-in-Ok-clause-leaves
returns-in-Ok-clause-leaves c = syncing_folder_leaves _ _ _ _ c.sync_folder_now.ensures.passes

pub returns-in-Err-clause-leaves : goal.returns-in-Err-clause-leaves
returns-in-Err-clause-leaves c = syncing_folder_leaves _ _ _ _ c.sync_folder_now.ensures.passes
