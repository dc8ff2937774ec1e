-- Pairs of hex digits, sixteen at a time.
use Rattle.std.proofs.Common.{◌≡◌, ◌⊎◌, inl, inr, ℕ, ◌+◌, ◌-◌, ◌*◌, ◌/◌, ◌%◌, ◌^◌, ◌<◌, ◌≤◌, true, List, ◌++◌, Option, Some, Ok, length, get_or, map, replicate, take, drop, set, sym, ◌∙◌, ap, subst, arith, bit_and, Fits, w8}
use Rattle.std.specs.Simd.Lanes.{zip2, Each1}
use Rattle.std.specs.List.{range_with_len}
use Rattle.std.proofs.lemmas.List.{get_or-map, length-map, length-drop, get_or-take, get_or-drop, take_all, take-append-drop, length-set, get_or-set_other}
use Rattle.std.proofs.lemmas.Grind.{get_or-set_at}
use Rattle.std.proofs.Math.Nat.{eq-or-lt_of_le}
use Rattle.std.proofs.lemmas.List.FromFn.{get_or-map-range_with_len}
use Rattle.std.proofs.lemmas.Nat.{and_mask}
use Rattle.std.proofs.lemmas.Simd.{zip2_splat, zip2_of_maps, splat_is_map, get_or-zip2, Each1-get_or}
use Rattle.hex.specs.Hex.{is_hex_digit, hex_digit_value, digit_or_error, value_at, pair_value, ◌>>=◌}
use Rattle.gix_ref_hash.specs.Digits.{IsPair}

-- the number of a hex digit
abbrev pub value : ℕ → ℕ
value x = (bit_and x 15 + x / 64 * 9 % 256) % 256

abbrev pub values : List ℕ → List ℕ
values xs = zip2 (λ a b. (a + b) % 256) (zip2 bit_and xs (replicate 16 15)) (zip2 (λ a b. a * b % 256) (zip2 (λ a b. a / 2 ^ b) xs (replicate 16 6)) (replicate 16 9))

values_are : (xs : List ℕ) → length xs ≡ 16 → values xs ≡ map value xs
values_are xs len =
    zip2_of_maps (λ a b. (a + b) % 256) (λ x. bit_and x 15) (λ x. x / 64 * 9 % 256) xs (zip2_splat bit_and xs 16 15 len)
    (zip2_of_maps (λ a b. a * b % 256) (λ x. x / 64) (λ x. 9) xs (zip2_splat (λ a b. a / 2 ^ b) xs 16 6 len) (splat_is_map xs 16 9 len))

value_is : (x : ℕ) → value x ≡ (x % 16 + x / 64 * 9 % 256) % 256
value_is x = ap (λ (n : ℕ). (n + x / 64 * 9 % 256) % 256) (and_mask x 4)

-- a vector has sixteen bytes
abbrev pub IsVector : List ℕ → Type 0
IsVector xs = (length xs ≡ 16) × Each1 (Fits w8) xs

byte_at : (xs : List ℕ) → IsVector xs → (k : ℕ) → k < 16 → get_or xs k 0 < 256
byte_at xs fits k within = (Each1-get_or (Fits w8) xs k 0 (omega (arith, fits.0)) fits.1).fits

digit : (c : ℕ) → c < 256 → is_hex_digit c ≡ true → hex_digit_value c ≡ Some (value c)
digit c byte hex = let is = value_is c in grind arith

-- the values of sixteen digits
pub value_lane : (digits : List ℕ) → IsVector digits → (k : ℕ) → k < 16 → is_hex_digit (get_or digits k 0) ≡ true → hex_digit_value (get_or digits k 0) ≡ Some (get_or (values digits) k 0)
value_lane digits vector k within hex =
    digit (get_or digits k 0) (byte_at digits vector k within) hex
    ∙ ap (λ (v : ℕ). Some v) (sym (ap (λ (vs : List ℕ). get_or vs k 0) (values_are digits vector.0) ∙ get_or-map value digits k 0 0 (omega (arith, vector.0))))

small : (c v : ℕ) → hex_digit_value c ≡ Some v → v < 16
small c v is = grind arith

pair_of : (high low i h l : ℕ) → hex_digit_value high ≡ Some h → hex_digit_value low ≡ Some l → pair_value high low i ≡ Ok (h * 16 + l)
pair_of high low i h l first second = ap (λ (o : Option ℕ). digit_or_error high i o >>= (λ a. value_at low (i + 1) >>= (λ b. Ok (a * 16 + b)))) first ∙ ap (λ (o : Option ℕ). digit_or_error low (i + 1) o >>= (λ b. Ok (h * 16 + b))) second

wraps_not : (h l : ℕ) → h < 16 → l < 16 → h * 16 + l ≡ (h * 16 % 256 + l) % 256
wraps_not h l a b = omega arith

-- the bytes of sixteen pairs, of the values of their digits
pub pair_lane : (high low : List ℕ) → length high ≡ 16 → length low ≡ 16 → (k : ℕ) → k < 16 → (first second : ℕ)
    → (is_hex_digit first ≡ true → hex_digit_value first ≡ Some (get_or high k 0)) → (is_hex_digit second ≡ true → hex_digit_value second ≡ Some (get_or low k 0))
    → IsPair first second (get_or (zip2 (λ a b. (a + b) % 256) (zip2 (λ a b. a * b % 256) high (replicate 16 16)) low) k 0)
pair_lane high low one two k within first second is_high is_low hex other i =
    let h = is_high hex in
    let l = is_low other in
    let shifted : zip2 (λ a b. a * b % 256) high (replicate 16 16) ≡ map (λ x. x * 16 % 256) high = zip2_splat (λ a b. a * b % 256) high 16 16 one in
    let here : get_or (zip2 (λ a b. (a + b) % 256) (zip2 (λ a b. a * b % 256) high (replicate 16 16)) low) k 0 ≡ (get_or high k 0 * 16 % 256 + get_or low k 0) % 256 =
    ap (λ (xs : List ℕ). get_or (zip2 (λ a b. (a + b) % 256) xs low) k 0) shifted
    ∙ get_or-zip2 (λ a b. (a + b) % 256) (map (λ x. x * 16 % 256) high) low k 0 0 0 (omega (arith, length-map high (λ x. x * 16 % 256), one)) (omega (arith, two))
    ∙ ap (λ (a : ℕ). (a + get_or low k 0) % 256) (get_or-map (λ x. x * 16 % 256) high k 0 0 (omega (arith, one))) in
    pair_of first second i (get_or high k 0) (get_or low k 0) h l
    ∙ ap (λ n. Ok n) (wraps_not (get_or high k 0) (get_or low k 0) (small first (get_or high k 0) h) (small second (get_or low k 0) l) ∙ sym here)

-- thirty-two digits, of which the first and the second of each pair are looked at
module _ (text : List ℕ) (len : length text ≡ 32) where
  joined : take 16 text ++ take 16 (drop 16 text) ≡ text
  joined = ap (λ (t : List ℕ). take 16 text ++ t) (take_all 16 (drop 16 text) (omega (arith, length-drop 16 text))) ∙ take-append-drop 16 text

  pub first_lane : (k : ℕ) → k < 16 → get_or (map (λ (j : ℕ). get_or (take 16 text ++ take 16 (drop 16 text)) (2 * j) 0) (range_with_len 0 16)) k 0 ≡ get_or text (2 * k) 0
  first_lane k within =
      get_or-map-range_with_len (λ (j : ℕ). get_or (take 16 text ++ take 16 (drop 16 text)) (2 * j) 0) 0 16 k k 0 within (omega arith) ∙ ap (λ (t : List ℕ). get_or t (2 * k) 0) joined

  pub second_lane : (k : ℕ) → k < 16 → get_or (map (λ (j : ℕ). get_or (take 16 text ++ take 16 (drop 16 text)) (2 * j + 1) 0) (range_with_len 0 16)) k 0 ≡ get_or text (2 * k + 1) 0
  second_lane k within =
      get_or-map-range_with_len (λ (j : ℕ). get_or (take 16 text ++ take 16 (drop 16 text)) (2 * j + 1) 0) 0 16 k k 0 within (omega arith) ∙ ap (λ (t : List ℕ). get_or t (2 * k + 1) 0) joined

  pub pair_at : (k : ℕ) → k < 16 → (byte : ℕ)
      → IsPair (get_or (map (λ (j : ℕ). get_or (take 16 text ++ take 16 (drop 16 text)) (2 * j) 0) (range_with_len 0 16)) k 0)
      (get_or (map (λ (j : ℕ). get_or (take 16 text ++ take 16 (drop 16 text)) (2 * j + 1) 0) (range_with_len 0 16)) k 0) byte
      → IsPair (get_or text (2 * k) 0) (get_or text (2 * k + 1) 0) byte
  pair_at k within byte is = subst (λ (b : ℕ). IsPair (get_or text (2 * k) 0) b byte) (second_lane k within)
      (subst (λ (a : ℕ). IsPair a (get_or (map (λ (j : ℕ). get_or (take 16 text ++ take 16 (drop 16 text)) (2 * j + 1) 0) (range_with_len 0 16)) k 0) byte) (first_lane k within) is)

-- forty digits, as two runs of 32
module _ (text : List ℕ) (i byte : ℕ) where
  pub pair_in_front : i < 16 → IsPair (get_or (take 32 text) (2 * i) 0) (get_or (take 32 text) (2 * i + 1) 0) byte → IsPair (get_or text (2 * i) 0) (get_or text (2 * i + 1) 0) byte
  pair_in_front within is = subst (λ (b : ℕ). IsPair (get_or text (2 * i) 0) b byte) (get_or-take 32 text (2 * i + 1) 0 (omega arith))
      (subst (λ (a : ℕ). IsPair a (get_or (take 32 text) (2 * i + 1) 0) byte) (get_or-take 32 text (2 * i) 0 (omega arith)) is)

  at : (j k : ℕ) → j < 32 → 8 + j ≡ k → get_or (take 32 (drop 8 text)) j 0 ≡ get_or text k 0
  at j k within is = get_or-take 32 (drop 8 text) j 0 within ∙ get_or-drop 8 text j 0 ∙ ap (λ (n : ℕ). get_or text n 0) is

  pub pair_in_back : 4 ≤ i → i < 20 → IsPair (get_or (take 32 (drop 8 text)) (2 * (i - 4)) 0) (get_or (take 32 (drop 8 text)) (2 * (i - 4) + 1) 0) byte → IsPair (get_or text (2 * i) 0) (get_or text (2 * i + 1) 0) byte
  pair_in_back behind within is = subst (λ (b : ℕ). IsPair (get_or text (2 * i) 0) b byte) (at (2 * (i - 4) + 1) (2 * i + 1) (omega arith) (omega arith))
      (subst (λ (a : ℕ). IsPair a (get_or (take 32 (drop 8 text)) (2 * (i - 4) + 1) 0) byte) (at (2 * (i - 4)) (2 * i) (omega arith) (omega arith)) is)

-- the bytes of the first pairs
abbrev pub ArePairs : (text bytes : List ℕ) → ℕ → Type 0
ArePairs text bytes n = (length bytes ≡ 20) × ((k : ℕ) → k < n → IsPair (get_or text (2 * k) 0) (get_or text (2 * k + 1) 0) (get_or bytes k 0))

pub pairs_more : (text bytes : List ℕ) (i byte : ℕ) → i < 20 → ArePairs text bytes i → IsPair (get_or text (2 * i) 0) (get_or text (2 * i + 1) 0) byte → ArePairs text (set bytes i byte) (i + 1)
pairs_more text bytes i byte within are pair = (length-set bytes i byte ∙ are.0, λ k small. by_cases k (eq-or-lt_of_le {n = k} {m = i} (omega (arith, small))))
  where
    by_cases : (k : ℕ) → (k ≡ i) ⊎ (k < i) → IsPair (get_or text (2 * k) 0) (get_or text (2 * k + 1) 0) (get_or (set bytes i byte) k 0)
    by_cases k (inl same) =
        subst (IsPair (get_or text (2 * k) 0) (get_or text (2 * k + 1) 0)) (sym (get_or-set_at bytes i k byte 0 same (omega (arith, are.0))))
        (subst (λ (j : ℕ). IsPair (get_or text (2 * j) 0) (get_or text (2 * j + 1) 0) byte) (sym same) pair)
    by_cases k (inr less) =
        subst (IsPair (get_or text (2 * k) 0) (get_or text (2 * k + 1) 0)) (sym (get_or-set_other bytes i k byte 0 (omega (arith, less)))) (are.1 k less)
