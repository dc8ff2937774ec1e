use Rattle.std.proofs.Common.{◌≡◌, ℕ, ◌<◌, length, get_or}
use Rattle.std.specs.Char.{to_ascii_lowercase}
use Rattle.gix_ref_hash.proofs.hash.digits.lower_sha1_digits.Given as goal

abbrev pub invariant-loop-i : goal.invariant-loop-i
invariant-loop-i l = (length l.lower ≡ 40) × ((k : ℕ) → k < l.i → get_or l.lower k 0 ≡ to_ascii_lowercase (get_or l.digits k 0))
