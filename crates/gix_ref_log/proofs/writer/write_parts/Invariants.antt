-- The parts so far are written.
use Rattle.std.proofs.Common.{take}
use Rattle.std.specs.Io.KnownBytes.{Appends}
use Rattle.gix_ref_log.specs.internal.Parts.{concat_slices}
use Rattle.gix_ref_log.proofs.writer.write_parts.Given as goal

abbrev pub invariant-loop-part : goal.invariant-loop-part
invariant-loop-part g l = Appends (g.W.Write.contents l.initial.out) (g.W.Write.contents l.out) (concat_slices (take l.part-index l.parts))
