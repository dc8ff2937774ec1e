use Rattle.gix_ref_memory.specs.Changes.{meaning_after}
use Rattle.gix_ref_memory.proofs.Leaving.{appending_leaves, appending_adds}
use Rattle.gix_ref_memory.proofs.memory.MemoryFiles.append.Goals as goal

pub returns-in-Ok-clause-leaves : goal.returns-in-Ok-clause-leaves
returns-in-Ok-clause-leaves c = record {
  leaves = appending_leaves _ _ _ _ c.append_now.ensures.passes.passes;
  adds = appending_adds (meaning_after c.args.self.now.changes.items) (meaning_after c.append_now.new.changes.items) c.args.path.now c.args.bytes.now c.in-Ok.ensures.passes.adds;
}

pub returns-in-Err-clause-leaves : goal.returns-in-Err-clause-leaves
returns-in-Err-clause-leaves c = record { leaves = appending_leaves _ _ _ _ c.append_now.ensures.passes.passes; adds = tt }

pub returns-in-Ok-append_some-clause-leaves : goal.returns-in-Ok-append_some-clause-leaves
returns-in-Ok-append_some-clause-leaves c = record { leaves = appending_leaves _ _ _ _ c.append_some.ensures.passes; adds = tt }

pub returns-in-Err-append_some-clause-leaves : goal.returns-in-Err-append_some-clause-leaves
returns-in-Err-append_some-clause-leaves c = record { leaves = appending_leaves _ _ _ _ c.append_some.ensures.passes; adds = tt }
