use Rattle.std.proofs.Common.{◌≤◌, length}
use Rattle.memchr.specs.Find.{Nowhere, Passes, is_byte}
use Rattle.gix_ref_hash.proofs.bytes.search.last_place.Given as goal

abbrev pub invariant-loop-end : goal.invariant-loop-end
invariant-loop-end l = (l.end ≤ length l.text) × Nowhere (Passes (is_byte l.byte) l.text) l.end (length l.text)

abbrev pub decreases-loop-end : goal.decreases-loop-end
decreases-loop-end l = l.end
