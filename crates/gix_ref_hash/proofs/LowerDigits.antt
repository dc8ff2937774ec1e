-- Hex digits in lower case are the digits of the bytes that they are.
use Rattle.std.proofs.Common.{◌≡◌, ℕ, ◌+◌, ◌*◌, ◌/◌, ◌%◌, ◌<◌, ◌==◌, Bool, true, false, cond, List, [], ◌∷◌, length, get_or, slice_index, map, Option, Some, None, Result, Ok, Err, refl, sym, ◌∙◌, ap, subst, arith}
use Rattle.std.specs.List.{list_all, range_with_len}
use Rattle.std.proofs.lemmas.Bool.{eqb-true}
use Rattle.std.proofs.lemmas.List.Elements.{All-get_or}
use Rattle.std.proofs.lemmas.List.FromFn.{get_or-range_with_len}
use Rattle.std.proofs.lemmas.List.Sums.{AllPass-from_list_all}
use Rattle.std.specs.Char.{to_ascii_lowercase}
use Rattle.std.specs.Result.{result_unwrap_or}
use Rattle.hex.specs.Hex.{is_hex_digit, hex_digit_value, digit_or_error, value_at, decode_of, decode_pairs, encode_with, encode_lower, lower_digits, pair_value, ◌>>=◌}
use Rattle.hex.specs.declared.error.FromHexError.{FromHexError}
use Rattle.hex.proofs.HexLemmas.{decode_of-even, decode_of-ok}
use Rattle.gix_ref_hash.specs.declared.hash.ObjectId.{ObjectId}
use Rattle.gix_ref_hash.specs.Digits.{lower_hex}
use Rattle.gix_ref_hash.specs.Ids.{id_bytes, ReadsId}

-- a digit in lower case is that of its value, as each of the first 103 bytes shows
abbrev is_of_value : ℕ → Option ℕ → Bool
is_of_value c (Some v) = slice_index lower_digits v == to_ascii_lowercase c
is_of_value c None = true

all_agree : list_all (λ c. is_of_value c (hex_digit_value c)) (range_with_len 0 103) ≡ true
all_agree = refl

digit_bound : (c v : ℕ) → hex_digit_value c ≡ Some v → c < 103
digit_bound c v is = grind arith

value_bound : (c v : ℕ) → hex_digit_value c ≡ Some v → v < 16
value_bound c v is = grind arith

lower_digit : (c v : ℕ) → hex_digit_value c ≡ Some v → to_ascii_lowercase c ≡ slice_index lower_digits v
lower_digit c v is =
    let test = λ (c : ℕ). is_of_value c (hex_digit_value c) in
    let plain : 0 + c ≡ c = omega arith in
    let at : get_or (range_with_len 0 103) c 0 ≡ c = get_or-range_with_len 0 103 c 0 (digit_bound c v is) ∙ plain in
    let here : test c ≡ true = subst (λ (n : ℕ). test n ≡ true) at (All-get_or (λ (b : ℕ). test b ≡ true) (range_with_len 0 103) c 0 (digit_bound c v is) (AllPass-from_list_all test (range_with_len 0 103) all_agree)) in
    sym (eqb-true (slice_index lower_digits v) (to_ascii_lowercase c) (subst (λ (o : Option ℕ). is_of_value c o ≡ true) is here))

-- what two digits read as
digit_read : (c i : ℕ) (o : Option ℕ) (v : ℕ) → digit_or_error c i o ≡ Ok v → o ≡ Some v
digit_read c i (Some w) v h = ap (λ (n : ℕ). Some n) (ap (λ (r : Result ℕ FromHexError). result_unwrap_or r 0) h)
digit_read c i None v h = absurd (cc)

pair_read : (r s : Result ℕ FromHexError) (v : ℕ) → (r >>= (λ h. s >>= (λ l. Ok (h * 16 + l)))) ≡ Ok v
    → (h : ℕ) × (l : ℕ) × (r ≡ Ok h) × (s ≡ Ok l) × (v ≡ h * 16 + l)
pair_read (Ok h) (Ok l) v is = (h, l, refl, refl, sym (ap (λ (r : Result ℕ FromHexError). result_unwrap_or r 0) is))
pair_read (Ok h) (Err e) v is = absurd (cc)
pair_read (Err e) s v is = absurd (cc)

list_read : (r : Result ℕ FromHexError) (s : Result (List ℕ) FromHexError) (bytes : List ℕ) → (r >>= (λ b. s >>= (λ bs. Ok (b ∷ bs)))) ≡ Ok bytes
    → (b : ℕ) × (bs : List ℕ) × (r ≡ Ok b) × (s ≡ Ok bs) × (bytes ≡ b ∷ bs)
list_read (Ok b) (Ok bs) bytes is = (b, bs, refl, refl, sym (ap (λ (r : Result (List ℕ) FromHexError). result_unwrap_or r []) is))
list_read (Ok b) (Err e) bytes is = absurd (cc)
list_read (Err e) s bytes is = absurd (cc)

lower_pair : (a b i byte : ℕ) → pair_value a b i ≡ Ok byte → (to_ascii_lowercase a ≡ slice_index lower_digits (byte / 16)) × (to_ascii_lowercase b ≡ slice_index lower_digits (byte % 16))
lower_pair a b i byte is =
    let read = pair_read (value_at a i) (value_at b (i + 1)) byte is in
    let high = digit_read a i (hex_digit_value a) read.0 read.2 in
    let low = digit_read b (i + 1) (hex_digit_value b) read.1 read.3 in
    let top : read.0 ≡ byte / 16 = omega (arith, read.4, value_bound a read.0 high, value_bound b read.1 low) in
    let rest : read.1 ≡ byte % 16 = omega (arith, read.4, value_bound a read.0 high, value_bound b read.1 low) in
    (lower_digit a read.0 high ∙ ap (slice_index lower_digits) top, lower_digit b read.1 low ∙ ap (slice_index lower_digits) rest)

lowered : (i : ℕ) (text bytes : List ℕ) → decode_pairs i text ≡ Ok bytes → map to_ascii_lowercase text ≡ encode_lower bytes
unfolding decode_pairs encode_with
lowered i [] [] h = refl
lowered i [] (b ∷ bytes) h = absurd (cc)
lowered i (a ∷ []) bytes h = absurd (cc)
lowered i (a ∷ b ∷ text) bytes h =
    let read = list_read (pair_value a b i) (decode_pairs (i + 2) text) bytes h in
    let pair = lower_pair a b i read.0 read.2 in
    let rest = lowered (i + 2) text read.1 read.3 in
    ap (λ (x : ℕ). x ∷ to_ascii_lowercase b ∷ map to_ascii_lowercase text) pair.0
    ∙ (ap (λ (x : ℕ). slice_index lower_digits (read.0 / 16) ∷ x ∷ map to_ascii_lowercase text) pair.1
    ∙ (ap (λ (xs : List ℕ). slice_index lower_digits (read.0 / 16) ∷ slice_index lower_digits (read.0 % 16) ∷ xs) rest ∙ ap encode_lower (sym read.4)))

-- the digits of an id, in lower case, are those that are written of it
pub lower_is_written : (text : List ℕ) (id : ObjectId) → ReadsId text id → lower_hex text ≡ encode_lower (id_bytes id)
lower_is_written text id reads = lowered 0 text (id_bytes id) (sym (decode_of-even text (decode_of-ok text (id_bytes id) reads.digits).0) ∙ reads.digits)
