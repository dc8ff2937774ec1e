use Rattle.std.proofs.Common.{◌≡◌, length}
use Rattle.gix_ref_hash.proofs.WrittenDigits.{AreSplit, ArePlaced}
use Rattle.gix_ref_hash.proofs.hash.digits.digits_of_sha1.Given as goal

abbrev pub invariant-loop-i : goal.invariant-loop-i
invariant-loop-i l = (length l.high ≡ 20) × (length l.low ≡ 20) × AreSplit l.bytes l.high l.low l.i

abbrev pub invariant-loop-i-2 : goal.invariant-loop-i-2
invariant-loop-i-2 l = (length l.digits ≡ 40) × AreSplit l.bytes l.high l.low 20 × ArePlaced l.bytes l.digits l.i
