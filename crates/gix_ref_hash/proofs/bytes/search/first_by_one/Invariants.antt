use Rattle.memchr.specs.Find.{Nowhere, Passes, is_byte}
use Rattle.gix_ref_hash.proofs.bytes.search.first_by_one.Given as goal

abbrev pub invariant-loop-i : goal.invariant-loop-i
invariant-loop-i l = Nowhere (Passes (is_byte l.byte) l.text) l.start l.i
