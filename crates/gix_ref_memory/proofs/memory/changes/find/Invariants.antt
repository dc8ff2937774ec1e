use Rattle.std.proofs.Common.{◌≡◌, drop}
use Rattle.std.specs.Prelude.{None}
use Rattle.gix_ref_memory.specs.Changes.{contents_after, found_content}
use Rattle.gix_ref_memory.proofs.memory.changes.find.Given as goal

-- what is found so far leads to what is there in the end
abbrev pub invariant-loop-change : goal.invariant-loop-change
invariant-loop-change l = contents_after (drop l.change-index l.changes) l.path (found_content l.found) ≡ contents_after l.changes l.path None
