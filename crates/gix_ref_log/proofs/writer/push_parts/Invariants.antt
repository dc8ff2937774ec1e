-- The parts so far are added.
use Rattle.std.proofs.Common.{◌≡◌, ◌≤◌, ◌++◌, take, vec_capacity}
use Rattle.gix_ref_log.specs.internal.Parts.{concat_slices}
use Rattle.gix_ref_log.proofs.writer.push_parts.Given as goal

abbrev pub invariant-loop-part : goal.invariant-loop-part
invariant-loop-part l = (l.text.items ≡ l.initial.text.items ++ concat_slices (take l.part-index l.parts)) × (vec_capacity l.initial.text ≤ vec_capacity l.text)
