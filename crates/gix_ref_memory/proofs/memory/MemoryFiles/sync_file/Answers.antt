use Rattle.gix_ref_memory.proofs.Leaving.{syncing_file_leaves}
use Rattle.gix_ref_memory.proofs.memory.MemoryFiles.sync_file.Goals as goal

pub returns-in-Ok-clause-leaves : goal.returns-in-Ok-clause-leaves
returns-in-Ok-clause-leaves c = syncing_file_leaves _ _ _ _ c.sync_file_now.ensures.passes

pub returns-in-Err-clause-leaves : goal.returns-in-Err-clause-leaves
returns-in-Err-clause-leaves c = syncing_file_leaves _ _ _ _ c.sync_file_now.ensures.passes
