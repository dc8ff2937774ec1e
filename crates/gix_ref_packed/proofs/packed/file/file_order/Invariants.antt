use Rattle.std.proofs.Common.{◌≡◌, ◌≤◌, ◌+◌, ◌-◌, ◌*◌, drop}
use Rattle.gix_ref_packed.proofs.OrderLemmas.{Reads}
use Rattle.gix_ref_packed.proofs.packed.file.file_order.Given as goal

abbrev pub invariant-loop-place : goal.invariant-loop-place
invariant-loop-place g l = record {
  same : g.R.ReadAt.bytes l.reader ≡ g.R.ReadAt.bytes l.fn.reader;
  size : g.R.ReadAt.size l.reader ≡ g.R.ReadAt.size l.fn.reader;
  fits : 3 * l.line + (g.R.ReadAt.size l.fn.reader - l.place) ≤ 3 * l.first + g.R.ReadAt.size l.fn.reader;
  reads : g.R.ReadAt.honest → Reads l.kind (drop l.start (g.R.ReadAt.bytes l.fn.reader)) (drop l.place (g.R.ReadAt.bytes l.fn.reader)) l.last.items l.rises l.first l.line;
}

abbrev pub decreases-loop-place : goal.decreases-loop-place
decreases-loop-place g l = g.R.ReadAt.size l.reader - l.place
