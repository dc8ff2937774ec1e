-- Pairs of hex digits.
use Rattle.std.proofs.Common.{◌≡◌, ℕ, suc, ◌+◌, ◌*◌, ◌<◌, true, false, Bool, ◌&&◌, List, [], ◌∷◌, length, slice_index, refl, ◌∙◌, ap, subst, arith, Ok, Result}
use Rattle.std.specs.List.{list_all}
use Rattle.hex.specs.Hex.{is_hex_digit, pair_value, decode_pairs, ◌>>=◌}
use Rattle.hex.specs.declared.error.FromHexError.{FromHexError}
use Rattle.gix_ref_hash.specs.Digits.{IsPair}

-- pairs of hex digits, one after the other
both : (a b : Bool) → (a && b) ≡ true → (a ≡ true) × (b ≡ true)
both true b h = (refl, h)
both false b h = absurd (cc)

next : (a b : ℕ) (text : List ℕ) (k j : ℕ) → j ≡ suc (suc k) → slice_index (a ∷ b ∷ text) j ≡ slice_index text k
next a b text k j is = ap (slice_index (a ∷ b ∷ text)) is

pub pairs_decode : (text out : List ℕ) (j : ℕ) → length text ≡ 2 * length out → list_all is_hex_digit text ≡ true
    → ((k : ℕ) → k < length out → IsPair (slice_index text (2 * k)) (slice_index text (2 * k + 1)) (slice_index out k)) → decode_pairs j text ≡ Ok out
unfolding decode_pairs
pairs_decode [] [] j len digits pairs = refl
pairs_decode [] (o ∷ out) j len digits pairs = absurd (omega arith)
pairs_decode (a ∷ []) out j len digits pairs = absurd (omega arith)
pairs_decode (a ∷ b ∷ text) [] j len digits pairs = absurd (omega arith)
pairs_decode (a ∷ b ∷ text) (o ∷ out) j len digits pairs =
    let first = both (is_hex_digit a) (is_hex_digit b && list_all is_hex_digit text) digits in
    let second = both (is_hex_digit b) (list_all is_hex_digit text) first.1 in
    let byte : pair_value a b j ≡ Ok o = pairs 0 (omega arith) first.0 second.0 j in
    let rest : decode_pairs (j + 2) text ≡ Ok out = pairs_decode text out (j + 2) (omega (arith, len)) second.1
    (λ k l. subst (λ (c : ℕ). IsPair c (slice_index text (2 * k + 1)) (slice_index out k)) (next a b text (2 * k) (2 * suc k) (omega arith))
    (subst (λ (c : ℕ). IsPair (slice_index (a ∷ b ∷ text) (2 * suc k)) c (slice_index out k)) (next a b text (2 * k + 1) (2 * suc k + 1) (omega arith)) (pairs (suc k) (omega arith)))) in
    ap (λ (r : Result ℕ FromHexError). r >>= (λ byte'. decode_pairs (j + 2) text >>= (λ bytes. Ok (byte' ∷ bytes)))) byte
    ∙ ap (λ (r : Result (List ℕ) FromHexError). r >>= (λ bytes. Ok (o ∷ bytes))) rest
