use Rattle.std.proofs.Common.{◌≡◌, ℕ, ◌+◌, ◌*◌, ◌<◌, length, slice_index}
use Rattle.gix_ref_hash.specs.Digits.{IsPair}
use Rattle.gix_ref_hash.proofs.hash.digits.sha1_of_digits.Given as goal

abbrev pub invariant-loop-i : goal.invariant-loop-i
invariant-loop-i l = (length l.bytes ≡ 20) × ((k : ℕ) → k < l.i → IsPair (slice_index l.digits (2 * k)) (slice_index l.digits (2 * k + 1)) (slice_index l.bytes k))
