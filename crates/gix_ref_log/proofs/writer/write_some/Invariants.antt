-- Nothing is written so far.
use Rattle.std.specs.Io.KnownBytes.{Keeps}
use Rattle.gix_ref_log.proofs.writer.write_some.Given as goal

abbrev pub invariant-loop : goal.invariant-loop
invariant-loop g l = Keeps (g.W.Write.contents l.initial.out) (g.W.Write.contents l.out)
