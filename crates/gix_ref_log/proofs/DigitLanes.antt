-- Sixteen bytes looked at as lanes: which of them are digits, and the numbers of their pairs.
use Rattle.std.proofs.Common.{◌≡◌, ℕ, ◌+◌, ◌-◌, ◌*◌, ◌/◌, ◌%◌, ◌^◌, ◌<◌, ◌≤◌, Bool, true, false, cond, List, ◌∷◌, length, get_or, map, replicate, take, drop, refl, sym, ◌∙◌, ap, subst, arith, ltb, bit_and, w8}
use Rattle.std.specs.Int.{bit_at}
use Rattle.std.specs.Simd.Lanes.{zip2, mask_l, top, chunk, number_l, digits_l, Each1}
use Rattle.std.proofs.lemmas.Bool.{ltb-true}
use Rattle.std.proofs.lemmas.List.{get_or-map, get_or-drop, length-map, length-drop, take_all, drop_more}
use Rattle.std.proofs.lemmas.Nat.{and_mask}
use Rattle.std.proofs.lemmas.Simd.{zip2_splat, bitmask_splat, bit_mask_l, get_or_wider, Each1-from_get_or}
use Rattle.gix_ref_log.specs.Signatures.{IsDigit}

by : (A : Type 0) → A → A
by A a = a

module _ (text : List ℕ) (len : length text ≡ 18) where
  loaded_is : take 16 (drop 2 text) ≡ drop 2 text
  loaded_is = take_all 16 (drop 2 text) (omega (arith, length-drop 2 text))

  loaded_len : length (take 16 (drop 2 text)) ≡ 16
  loaded_len = ap length loaded_is ∙ length-drop 2 text ∙ by (length text - 2 ≡ 16) (omega arith)

  loaded_at : (k : ℕ) → get_or (take 16 (drop 2 text)) k 0 ≡ get_or text (k + 2) 0
  loaded_at k = ap (λ (t : List ℕ). get_or t k 0) loaded_is ∙ get_or-drop 2 text k 0 ∙ ap (λ (j : ℕ). get_or text j 0) (by (2 + k ≡ k + 2) (omega arith))

  -- each byte less `0`
  module _ (fits : (i : ℕ) → get_or text i 0 < 256) where
    value_at : (k : ℕ) → k < 16 → get_or (map (λ x. (x + 208) % 256) (take 16 (drop 2 text))) k 0 ≡ (get_or text (k + 2) 0 + 208) % 256
    value_at k within = get_or-map (λ x. (x + 208) % 256) (take 16 (drop 2 text)) k 0 0 (omega (arith, loaded_len)) ∙ ap (λ x. (x + 208) % 256) (loaded_at k)

    values_len : length (map (λ x. (x + 208) % 256) (take 16 (drop 2 text))) ≡ 16
    values_len = length-map (take 16 (drop 2 text)) (λ x. (x + 208) % 256) ∙ loaded_len

    set_tells : (b : Bool) → cond {A = ℕ} b 1 0 ≡ 1 → b ≡ true
    set_tells true h = refl
    set_tells false h = absurd (omega arith)

    digit : (x : ℕ) → x < 256 → (x + 208) % 256 < 10 → IsDigit x
    digit x byte low = (omega arith, omega arith)

    pub marked_digit : (m k : ℕ) → m ≡ mask_l (map (top 7) (zip2 (λ a b. cond (ltb a b) 255 0) (zip2 (λ a b. (a + (256 - b)) % 256) (take 16 (drop 2 text)) (replicate 16 48)) (replicate 16 10))) % 2 ^ 64
        → k < 16 → bit_at m k ≡ 1 → IsDigit (get_or text (k + 2) 0)
    marked_digit m k is within set =
        let less : zip2 (λ a b. (a + (256 - b)) % 256) (take 16 (drop 2 text)) (replicate 16 48) ≡ map (λ x. (x + 208) % 256) (take 16 (drop 2 text)) =
        zip2_splat (λ a b. (a + (256 - b)) % 256) (take 16 (drop 2 text)) 16 48 loaded_len in
        let vs = map (λ x. (x + 208) % 256) (take 16 (drop 2 text)) in
        let mask : m ≡ mask_l (map (λ x. ltb x 10) vs) =
        is ∙ ap (λ (l : List ℕ). mask_l (map (top 7) (zip2 (λ a b. cond (ltb a b) 255 0) l (replicate 16 10))) % 2 ^ 64) less ∙ bitmask_splat w8 ltb vs 16 10 values_len (omega arith) in
        let bit : cond {A = ℕ} (get_or (map (λ x. ltb x 10) vs) k false) 1 0 ≡ 1 = sym (bit_mask_l (map (λ x. ltb x 10) vs) k) ∙ ap (λ (n : ℕ). bit_at n k) (sym mask) ∙ set in
        let low : ltb (get_or vs k 0) 10 ≡ true = sym (get_or-map (λ x. ltb x 10) vs k 0 false (omega (arith, values_len))) ∙ set_tells _ bit in
        digit (get_or text (k + 2) 0) (fits (k + 2)) (subst (λ (x : ℕ). x < 10) (value_at k within) (ltb-true (get_or vs k 0) 10 low))

    -- the number of a pair in one lane of 16 bits
    pair_is : (a b w : ℕ) → IsDigit a → IsDigit b → w ≡ (a + 208) % 256 + 256 * ((b + 208) % 256) → (bit_and w 255 * 10 % 65536 + w / 256) % 65536 ≡ 10 * (a - 48) + (b - 48)
    pair_is a b w first second is =
        let low : bit_and w 255 ≡ w % 256 = and_mask w 8 in
        let x : a - 48 ≤ 9 = omega arith in
        let y : b - 48 ≤ 9 = omega arith in
        let w_is : w ≡ (a - 48) + 256 * (b - 48) = omega arith in
        let ones : w % 256 ≡ a - 48 = omega arith in
        let tens : w / 256 ≡ b - 48 = omega arith in
        ap (λ (n : ℕ). (n * 10 % 65536 + w / 256) % 65536) (low ∙ ones) ∙ ap (λ (n : ℕ). ((a - 48) * 10 % 65536 + n) % 65536) tens ∙ by (((a - 48) * 10 % 65536 + (b - 48)) % 65536 ≡ 10 * (a - 48) + (b - 48)) (omega arith)

    two : (xs : List ℕ) (i : ℕ) → i + 2 ≤ length xs → number_l 256 (chunk i 2 xs) ≡ get_or xs i 0 + 256 * get_or xs (i + 1) 0
    two xs i room =
        let first = drop_more xs i 0 (omega arith) in
        let second = drop_more xs (i + 1) 0 (omega arith) in
        ap (λ (t : List ℕ). number_l 256 (take 2 t)) (first ∙ ap (λ (t : List ℕ). get_or xs i 0 ∷ t) second) ∙ by (get_or xs i 0 + 256 * (get_or xs (i + 1) 0 + 256 * 0) ≡ get_or xs i 0 + 256 * get_or xs (i + 1) 0) (omega arith)

    pub pair_lane : (k : ℕ) → k < 8 → IsDigit (get_or text (2 * k + 2) 0) → IsDigit (get_or text (2 * k + 3) 0)
        → get_or (map (λ w. (bit_and w 255 * 10 % 65536 + w / 256) % 65536) (digits_l 65536 8 (number_l 256 (zip2 (λ a b. (a + (256 - b)) % 256) (take 16 (drop 2 text)) (replicate 16 48))))) k 0
        ≡ 10 * (get_or text (2 * k + 2) 0 - 48) + (get_or text (2 * k + 3) 0 - 48)
    pair_lane k within first second =
        let less : zip2 (λ a b. (a + (256 - b)) % 256) (take 16 (drop 2 text)) (replicate 16 48) ≡ map (λ x. (x + 208) % 256) (take 16 (drop 2 text)) =
        zip2_splat (λ a b. (a + (256 - b)) % 256) (take 16 (drop 2 text)) 16 48 loaded_len in
        let vs = map (λ x. (x + 208) % 256) (take 16 (drop 2 text)) in
        let small : Each1 (λ x. x < 256) vs = Each1-from_get_or (λ x. x < 256) vs 0 (λ i l. subst (λ (x : ℕ). x < 256) (sym (value_at i (omega (arith, values_len)))) (below_256 (get_or text (i + 2) 0 + 208))) in
        let wide = get_or_wider 256 2 65536 8 vs k refl small within in
        let lane : get_or (digits_l 65536 8 (number_l 256 vs)) k 0 ≡ (get_or text (2 * k + 2) 0 + 208) % 256 + 256 * ((get_or text (2 * k + 3) 0 + 208) % 256) =
        wide ∙ two vs (2 * k) (omega (arith, values_len)) ∙ ap (λ (x : ℕ). x + 256 * get_or vs (2 * k + 1) 0) (value_at (2 * k) (omega arith))
        ∙ ap (λ (y : ℕ). (get_or text (2 * k + 2) 0 + 208) % 256 + 256 * y) (value_at (2 * k + 1) (omega arith) ∙ ap (λ (j : ℕ). (get_or text j 0 + 208) % 256) (by (2 * k + 1 + 2 ≡ 2 * k + 3) (omega arith))) in
        ap (λ (l : List ℕ). get_or (map (λ w. (bit_and w 255 * 10 % 65536 + w / 256) % 65536) (digits_l 65536 8 (number_l 256 l))) k 0) less
        ∙ get_or-map (λ w. (bit_and w 255 * 10 % 65536 + w / 256) % 65536) (digits_l 65536 8 (number_l 256 vs)) k 0 0 within
        ∙ pair_is (get_or text (2 * k + 2) 0) (get_or text (2 * k + 3) 0) _ first second lane
      where
        below_256 : (n : ℕ) → n % 256 < 256
        below_256 n = omega arith
