use Rattle.std.proofs.Common.{length}
use Rattle.gix_ref_packed.proofs.UnsortedLemmas.{Left}
use Rattle.gix_ref_packed.proofs.packed.unsorted.first_named.Given as goal

abbrev pub invariant-loop-name : goal.invariant-loop-name
invariant-loop-name l = Left l.kind l.text l.rest l.wanted

abbrev pub decreases-loop-name : goal.decreases-loop-name
decreases-loop-name l = length l.rest
