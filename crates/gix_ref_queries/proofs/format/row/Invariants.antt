use Rattle.std.proofs.Common.{◌≡◌, take}
use Rattle.std.specs.List.{flat_map}
use Rattle.gix_ref_queries.specs.Formats.{part_text}
use Rattle.gix_ref_queries.proofs.format.row.Given as goal

-- the parts so far
abbrev pub invariant-loop-part : goal.invariant-loop-part
invariant-loop-part l = l.text.items ≡ flat_map (part_text (record { name = l.name; short = l.short; id = l.id; symref = l.symref })) (take l.part-index l.parts)
