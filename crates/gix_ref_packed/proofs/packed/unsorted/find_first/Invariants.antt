use Rattle.std.proofs.Common.{◌≡◌, ◌-◌, drop}
use Rattle.gix_ref_packed.proofs.UnsortedLemmas.{Left}
use Rattle.gix_ref_packed.proofs.packed.unsorted.find_first.Given as goal

abbrev pub invariant-loop-place : goal.invariant-loop-place
invariant-loop-place g l = record {
  same : g.R.ReadAt.bytes l.reader ≡ g.R.ReadAt.bytes l.fn.reader;
  size : g.R.ReadAt.size l.reader ≡ g.R.ReadAt.size l.fn.reader;
  no_fault : g.R.ReadAt.faults l.reader ≡ g.R.ReadAt.faults l.fn.reader;
  left : g.R.ReadAt.honest → Left l.kind (drop l.start (g.R.ReadAt.bytes l.fn.reader)) (drop l.place (g.R.ReadAt.bytes l.fn.reader)) l.wanted;
}

abbrev pub decreases-loop-place : goal.decreases-loop-place
decreases-loop-place g l = g.R.ReadAt.size l.reader - l.place
