use Rattle.std.proofs.Common.{length}
use Rattle.gix_ref_packed.proofs.OrderLemmas.{ReadsOn}
use Rattle.gix_ref_packed.proofs.packed.order.read_records.Given as goal

abbrev pub invariant-loop-rest : goal.invariant-loop-rest
invariant-loop-rest l = ReadsOn l.kind l.text l.rest l.fn.before l.read

abbrev pub decreases-loop-rest : goal.decreases-loop-rest
decreases-loop-rest l = length l.rest
