use Rattle.std.proofs.Common.{◌≡◌, drop}
use Rattle.gix_ref_files.specs.Disk.{nothing}
use Rattle.gix_ref_memory.specs.Changes.{items, found_item}
use Rattle.gix_ref_memory.proofs.memory.changes.item_at.Given as goal

-- what is known so far leads to what is there in the end
abbrev pub invariant-loop-change : goal.invariant-loop-change
invariant-loop-change l = items (drop l.change-index l.changes) l.path (found_item l.known) ≡ items l.changes l.path nothing
