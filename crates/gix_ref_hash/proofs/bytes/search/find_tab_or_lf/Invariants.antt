use Rattle.std.proofs.Common.{◌≤◌, ◌-◌, length}
use Rattle.memchr.specs.Find.{Nowhere, Passes}
use Rattle.gix_ref_hash.specs.Bytes.{is_break}
use Rattle.gix_ref_hash.proofs.bytes.search.find_tab_or_lf.Given as goal

abbrev pub invariant-loop-start : goal.invariant-loop-start
invariant-loop-start l = (l.start ≤ length l.text) × Nowhere (Passes is_break l.text) 0 l.start

abbrev pub decreases-loop-start : goal.decreases-loop-start
decreases-loop-start l = length l.text - l.start
