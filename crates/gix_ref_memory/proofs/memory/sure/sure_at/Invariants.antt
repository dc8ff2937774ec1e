use Rattle.std.proofs.Common.{◌≡◌, drop}
use Rattle.gix_ref_memory.specs.internal.Power.{disk_entry, no_entry, sure_entry}
use Rattle.gix_ref_memory.proofs.memory.sure.sure_at.Given as goal

-- what is known so far leads to what is known in the end
abbrev pub invariant-loop-change : goal.invariant-loop-change
invariant-loop-change l = disk_entry (drop l.change-index l.changes) l.path (sure_entry l.sure) ≡ disk_entry l.changes l.path no_entry
