use Rattle.std.proofs.Common.{◌≤◌}
use Rattle.memchr.specs.Find.{Nowhere, Passes, is_byte}
use Rattle.gix_ref_hash.proofs.bytes.search.last_by_one.Given as goal

abbrev pub invariant-loop-i : goal.invariant-loop-i
invariant-loop-i l = (l.i ≤ l.end) × Nowhere (Passes (is_byte l.byte) l.text) l.i l.end

abbrev pub decreases-loop-i : goal.decreases-loop-i
decreases-loop-i l = l.i
