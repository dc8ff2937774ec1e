-- The seconds and the zone of a stamp, from the numbers of its pairs of digits.
use Rattle.std.proofs.Common.{◌≡◌, ℕ, zero, suc, ◌+◌, ◌-◌, ◌*◌, ◌%◌, ◌<◌, ◌≤◌, ◌⊎◌, ◌==◌, cond, List, [], ◌∷◌, length, get_or, take, drop, refl, sym, ◌∙◌, ap, subst, arith, ℤ, pos, neg_ℤ}
use Rattle.std.specs.Char.{digit_value}
use Rattle.std.specs.Int.{bit_at}
use Rattle.std.proofs.lemmas.List.{drop_more}
use Rattle.gix_ref_hash.specs.Digits.{IsNumber}
use Rattle.gix_ref_log.specs.Signatures.{IsDigit, IsZone, zone_seconds}
use Rattle.gix_ref_log.proofs.NumberLemmas.{digit_is}

by : (A : Type 0) → A → A
by A a = a

-- n bytes from a place on, one by one
abbrev pub elements : ℕ → ℕ → List ℕ → List ℕ
elements zero start text = []
elements (suc n) start text = get_or text start 0 ∷ elements n (start + 1) text

pub take_elements : (n start : ℕ) (text : List ℕ) → start + n ≤ length text → take n (drop start text) ≡ elements n start text
take_elements zero start text room = refl
take_elements (suc n) start text room =
    ap (take (suc n)) (drop_more text start 0 (omega arith)) ∙ ap (λ (t : List ℕ). get_or text start 0 ∷ t) (take_elements n (start + 1) text (omega arith))

worth : (c : ℕ) → IsDigit c → (digit_value c < 10) × (digit_value c ≡ c - 48)
worth c d =
    let is = digit_is c (c - 48) (omega arith) (by (c - 48 ≡ (c + 208) % 256) (omega arith)) (omega arith) in
    (omega (arith, is.0), is.0)

ten : (a b c d e f g h i j p q r s t n : ℕ) → IsDigit a → IsDigit b → IsDigit c → IsDigit d → IsDigit e → IsDigit f → IsDigit g → IsDigit h → IsDigit i → IsDigit j
    → p ≡ 10 * (a - 48) + (b - 48) → q ≡ 10 * (c - 48) + (d - 48) → r ≡ 10 * (e - 48) + (f - 48) → s ≡ 10 * (g - 48) + (h - 48) → t ≡ 10 * (i - 48) + (j - 48)
    → n ≡ (((p * 100 + q) * 100 + r) * 100 + s) * 100 + t → IsNumber (a ∷ b ∷ c ∷ d ∷ e ∷ f ∷ g ∷ h ∷ i ∷ j ∷ []) n
ten a b c d e f g h i j p q r s t n da db dc dd de df dg dh di dj pp qq rr ss tt' nn =
    let wa = worth a da in
    let wb = worth b db in
    let wc = worth c dc in
    let wd = worth d dd in
    let we = worth e de in
    let wf = worth f df in
    let wg = worth g dg in
    let wh = worth h dh in
    let wi = worth i di in
    let wj = worth j dj in
    record {
      digits = (omega arith, (wa.0, (wb.0, (wc.0, (wd.0, (we.0, (wf.0, (wg.0, (wh.0, (wi.0, (wj.0, tt)))))))))));
      value = value (a - 48) (b - 48) (c - 48) (d - 48) (e - 48) (f - 48) (g - 48) (h - 48) (i - 48) (j - 48)
          (digit_value a) (digit_value b) (digit_value c) (digit_value d) (digit_value e) (digit_value f) (digit_value g) (digit_value h) (digit_value i) (digit_value j) p q r s t n
          wa.1 wb.1 wc.1 wd.1 we.1 wf.1 wg.1 wh.1 wi.1 wj.1 pp qq rr ss tt' nn;
      small = omega arith;
    }
  where
    value : (a b c d e f g h i j a' b' c' d' e' f' g' h' i' j' p q r s t n : ℕ) → a' ≡ a → b' ≡ b → c' ≡ c → d' ≡ d → e' ≡ e → f' ≡ f → g' ≡ g → h' ≡ h → i' ≡ i → j' ≡ j
        → p ≡ 10 * a + b → q ≡ 10 * c + d → r ≡ 10 * e + f → s ≡ 10 * g + h → t ≡ 10 * i + j → n ≡ (((p * 100 + q) * 100 + r) * 100 + s) * 100 + t
        → n ≡ ((((((((((0 * 10 + a') * 10 + b') * 10 + c') * 10 + d') * 10 + e') * 10 + f') * 10 + g') * 10 + h') * 10 + i') * 10 + j')
    value a b c d e f g h i j a' b' c' d' e' f' g' h' i' j' p q r s t n ea eb ec ed ee ef eg eh ei ej pp qq rr ss tt' nn = omega arith

module _ (text pairs : List ℕ) (len : length text ≡ 18) (digit : (k : ℕ) → k < 16 → bit_at 62463 k ≡ 1 → IsDigit (get_or text (k + 2) 0))
    (pair : (k : ℕ) → k < 8 → IsDigit (get_or text (2 * k + 2) 0) → IsDigit (get_or text (2 * k + 3) 0) → get_or pairs k 0 ≡ 10 * (get_or text (2 * k + 2) 0 - 48) + (get_or text (2 * k + 3) 0 - 48)) where
  at : (k : ℕ) → k < 16 → bit_at 62463 k ≡ 1 → IsDigit (get_or text (k + 2) 0)
  at = digit

  pub seconds_number : (n : ℕ) → n ≡ (((get_or pairs 0 0 * 100 + get_or pairs 1 0) * 100 + get_or pairs 2 0) * 100 + get_or pairs 3 0) * 100 + get_or pairs 4 0 → IsNumber (take 10 (drop 2 text)) n
  seconds_number n is =
      let a = at 0 (omega arith) refl in
      let b = at 1 (omega arith) refl in
      let c = at 2 (omega arith) refl in
      let d = at 3 (omega arith) refl in
      let e = at 4 (omega arith) refl in
      let f = at 5 (omega arith) refl in
      let g = at 6 (omega arith) refl in
      let h = at 7 (omega arith) refl in
      let i = at 8 (omega arith) refl in
      let j = at 9 (omega arith) refl in
      subst (λ (t : List ℕ). IsNumber t n) (sym (take_elements 10 2 text (omega arith)))
      (ten (get_or text 2 0) (get_or text 3 0) (get_or text 4 0) (get_or text 5 0) (get_or text 6 0) (get_or text 7 0) (get_or text 8 0) (get_or text 9 0) (get_or text 10 0) (get_or text 11 0)
      (get_or pairs 0 0) (get_or pairs 1 0) (get_or pairs 2 0) (get_or pairs 3 0) (get_or pairs 4 0) n a b c d e f g h i j
      (pair 0 (omega arith) a b) (pair 1 (omega arith) c d) (pair 2 (omega arith) e f) (pair 3 (omega arith) g h) (pair 4 (omega arith) i j) is)

  pub zone_is : (n : ℤ) → ((get_or text 13 0 ≡ 43) ⊎ (get_or text 13 0 ≡ 45))
      → n ≡ cond (get_or text 13 0 == 45) (neg_ℤ (pos (get_or pairs 6 0 * 3600 + get_or pairs 7 0 * 60))) (pos (get_or pairs 6 0 * 3600 + get_or pairs 7 0 * 60)) → IsZone (take 5 (drop 13 text)) n
  zone_is n sign is =
      let a = at 12 (omega arith) refl in
      let b = at 13 (omega arith) refl in
      let c = at 14 (omega arith) refl in
      let d = at 15 (omega arith) refl in
      let hours = pair 6 (omega arith) a b in
      let minutes = pair 7 (omega arith) c d in
      let size : get_or pairs 6 0 * 3600 + get_or pairs 7 0 * 60 ≡ zone_seconds (get_or text 14 0) (get_or text 15 0) (get_or text 16 0) (get_or text 17 0) = omega arith in
      subst (λ (t : List ℕ). IsZone t n) (sym (take_elements 5 13 text (omega arith)))
      (sign, a, b, c, d, is ∙ ap (λ (k : ℕ). cond (get_or text 13 0 == 45) (neg_ℤ (pos k)) (pos k)) size)
