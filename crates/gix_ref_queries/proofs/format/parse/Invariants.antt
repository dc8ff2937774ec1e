use Rattle.std.proofs.Common.{◌≡◌, length}
use Rattle.gix_ref_queries.specs.Formats.{format_parts, parts_after}
use Rattle.gix_ref_queries.proofs.Parts.{after_parts}
use Rattle.gix_ref_queries.proofs.format.parse.Given as goal

-- the parts so far and those of what is left
abbrev pub invariant-loop-first : goal.invariant-loop-first
invariant-loop-first l = after_parts l.parts.items (parts_after 0 l.rest) ≡ format_parts l.format

abbrev pub decreases-loop-first : goal.decreases-loop-first
decreases-loop-first l = length l.rest
