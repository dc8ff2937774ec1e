use Rattle.gix_ref_memory.specs.Changes.{meaning_after}
use Rattle.gix_ref_memory.proofs.Leaving.{making_leaves, making_folders_adds}
use Rattle.gix_ref_memory.proofs.memory.MemoryFiles.make_folders.Goals as goal

pub returns-in-Ok-clause-leaves : goal.returns-in-Ok-clause-leaves
returns-in-Ok-clause-leaves c = record {
  leaves = making_leaves _ _ _ c.make_folders_now.ensures.passes.passes;
  adds = making_folders_adds (meaning_after c.args.self.now.changes.items) (meaning_after c.make_folders_now.new.changes.items) c.args.path.now c.in-Ok.ensures.passes.adds;
}

pub returns-in-Err-clause-leaves : goal.returns-in-Err-clause-leaves
returns-in-Err-clause-leaves c = record { leaves = making_leaves _ _ _ c.make_folders_now.ensures.passes.passes; adds = tt }

pub returns-in-Ok-make_some_folders-clause-leaves : goal.returns-in-Ok-make_some_folders-clause-leaves
returns-in-Ok-make_some_folders-clause-leaves c = record { leaves = making_leaves _ _ _ c.make_some_folders.ensures.passes; adds = tt }

pub returns-in-Err-make_some_folders-clause-leaves : goal.returns-in-Err-make_some_folders-clause-leaves
returns-in-Err-make_some_folders-clause-leaves c = record { leaves = making_leaves _ _ _ c.make_some_folders.ensures.passes; adds = tt }
