-- The hex digits of bytes, each by the digits of its high and its low four bits.
use Rattle.std.proofs.Common.{◌≡◌, ℕ, suc, ◌+◌, ◌*◌, ◌/◌, ◌%◌, ◌<◌, List, [], ◌∷◌, length, slice_index, refl, sym, ◌∙◌, ap, arith}
use Rattle.hex.specs.Hex.{encode_with, encode_lower, lower_digits}

-- the digits of the high and of the low four bits of a byte
abbrev pub high_digit : ℕ → ℕ
high_digit b = slice_index lower_digits (b / 16)

abbrev pub low_digit : ℕ → ℕ
low_digit b = slice_index lower_digits (b % 16)

-- the digits of the first n bytes are at their places
abbrev pub ArePlaced : (bytes digits : List ℕ) → ℕ → Type 0
ArePlaced bytes digits n =
    (k : ℕ) → k < n → (slice_index digits (2 * k) ≡ high_digit (slice_index bytes k)) × (slice_index digits (2 * k + 1) ≡ low_digit (slice_index bytes k))

next : (a b : ℕ) (text : List ℕ) (k j : ℕ) → j ≡ suc (suc k) → slice_index (a ∷ b ∷ text) j ≡ slice_index text k
next a b text k j is = ap (slice_index (a ∷ b ∷ text)) is

pub written_is : (bytes digits : List ℕ) → length digits ≡ 2 * length bytes → ArePlaced bytes digits (length bytes) → digits ≡ encode_lower bytes
unfolding encode_with
written_is [] [] len placed = refl
written_is [] (d ∷ digits) len placed = absurd (omega arith)
written_is (b ∷ bytes) [] len placed = absurd (omega arith)
written_is (b ∷ bytes) (d ∷ []) len placed = absurd (omega arith)
written_is (b ∷ bytes) (d ∷ e ∷ digits) len placed =
    let first = placed 0 (omega arith) in
    let rest : digits ≡ encode_lower bytes = written_is bytes digits (omega (arith, len))
    (λ k l. let here = placed (suc k) (omega arith) in
    (sym (next d e digits (2 * k) (2 * suc k) (omega arith)) ∙ here.0, sym (next d e digits (2 * k + 1) (2 * suc k + 1) (omega arith)) ∙ here.1)) in
    ap (λ (x : ℕ). x ∷ e ∷ digits) first.0 ∙ (ap (λ (x : ℕ). high_digit b ∷ x ∷ digits) first.1 ∙ ap (λ (xs : List ℕ). high_digit b ∷ low_digit b ∷ xs) rest)

-- the digits of the first n bytes, the high and the low ones apart
abbrev pub AreSplit : (bytes high low : List ℕ) → ℕ → Type 0
AreSplit bytes high low n = (k : ℕ) → k < n → (slice_index high k ≡ high_digit (slice_index bytes k)) × (slice_index low k ≡ low_digit (slice_index bytes k))
