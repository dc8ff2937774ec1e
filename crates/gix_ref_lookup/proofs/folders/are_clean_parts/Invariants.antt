use Rattle.std.proofs.Common.{◌≡◌, length}
use Rattle.std.specs.List.{list_all}
use Rattle.gix_ref_hash.specs.Bytes.{components}
use Rattle.gix_ref_lookup.specs.CleanPaths.{is_clean_component}
use Rattle.gix_ref_lookup.proofs.folders.are_clean_parts.Given as goal

-- the rest gives the result of all
abbrev pub invariant-loop-part : goal.invariant-loop-part
invariant-loop-part l = list_all is_clean_component (components l.rest) ≡ list_all is_clean_component (components l.initial.rest)

abbrev pub decreases-loop-part : goal.decreases-loop-part
decreases-loop-part l = length l.rest
