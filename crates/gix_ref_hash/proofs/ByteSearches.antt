-- Lemmas on searches of a byte that look at 16 places at a time: bit k of a mask is for place k.
use Rattle.std.proofs.Common.{◌≡◌, ℕ, ◌+◌, ◌-◌, ◌*◌, ◌^◌, ◌<◌, ◌≤◌, ⊎_elim, Bool, true, false, cond, List, length, get_or, map, refl, sym, ◌∙◌, ap, subst, arith, w64}
use Rattle.std.specs.Int.{bit_at, trailing_zeros}
use Rattle.std.specs.Simd.Lanes.{mask_l, chunk}
use Rattle.std.proofs.lemmas.Bool.{cases_lt}
use Rattle.std.proofs.lemmas.List.{get_or-map, get_or_past, length-map}
use Rattle.std.proofs.lemmas.Nat.Bits.{bit_at-zero, bit_at-trailing_zeros}
use Rattle.std.proofs.lemmas.Simd.{length-chunk, get_or-chunk, bit_mask_l, mask_l-lt}
use Rattle.memchr.proofs.lemmas.BitLemmas.{bit_at_top, bit_at_above}
use Rattle.memchr.specs.Find.{Nowhere, NoneBefore, NoneAfter, Passes}

-- the mask of the places, among 16, whose byte passes a test
abbrev pub marks_of : (ℕ → Bool) → List ℕ → ℕ → ℕ
marks_of test text start = mask_l (map test (chunk start 16 text))

module _ (test : ℕ → Bool) (text : List ℕ) (start : ℕ) (room : start + 16 ≤ length text) where
  lane_count : length (map test (chunk start 16 text)) ≡ 16
  lane_count = length-map (chunk start 16 text) test ∙ length-chunk start 16 text room

  bit_is : (k : ℕ) → k < 16 → bit_at (marks_of test text start) k ≡ cond (test (get_or text (start + k) 0)) 1 0
  bit_is k within =
      bit_mask_l (map test (chunk start 16 text)) k
      ∙ ap (λ (b : Bool). cond b 1 0) (get_or-map test (chunk start 16 text) k 0 false (omega (arith, length-chunk start 16 text room)) ∙ ap test (get_or-chunk start 16 text k 0 within))

  bit_past : (k : ℕ) → 16 ≤ k → bit_at (marks_of test text start) k ≡ 0
  bit_past k past = bit_mask_l (map test (chunk start 16 text)) k ∙ ap (λ (b : Bool). cond b 1 0) (get_or_past (map test (chunk start 16 text)) k false (omega (arith, lane_count)))

  within_lanes : (k : ℕ) → bit_at (marks_of test text start) k ≡ 1 → k < 16
  within_lanes k set = ⊎_elim (λ l. l) (λ past. absurd (omega (arith, bit_past k past))) (cases_lt k 16)

  set_tells : (b : Bool) → cond {A = ℕ} b 1 0 ≡ 1 → b ≡ true
  set_tells true h = refl
  set_tells false h = absurd (omega arith)

  unset_tells : (b : Bool) → cond {A = ℕ} b 1 0 ≡ 0 → b ≡ true → ⊥
  unset_tells true h same = absurd (omega arith)
  unset_tells false h same = absurd (cc)

  pub marked : (k : ℕ) → bit_at (marks_of test text start) k ≡ 1 → Passes test text (start + k)
  marked k set = set_tells _ (sym (bit_is k (within_lanes k set)) ∙ set)

  unmarked : (k : ℕ) → k < 16 → bit_at (marks_of test text start) k ≡ 0 → Passes test text (start + k) → ⊥
  unmarked k within clear = unset_tells _ (sym (bit_is k within) ∙ clear)

  -- the same of a place in the text
  unmarked_place : (p : ℕ) → start ≤ p → p < start + 16 → bit_at (marks_of test text start) (p - start) ≡ 0 → Passes test text p → ⊥
  unmarked_place p low high clear here =
      let same : p ≡ start + (p - start) = omega arith in
      unmarked (p - start) (omega arith) clear (subst (λ (q : ℕ). Passes test text q) same here)

  pub no_marks : (m : ℕ) → m ≡ marks_of test text start → m ≡ 0 → Nowhere (Passes test text) start (start + 16)
  no_marks m is none p low high = unmarked_place p low high (ap (λ (n : ℕ). bit_at n (p - start)) (sym is ∙ none) ∙ bit_at-zero (p - start))

  pub first_mark : (m : ℕ) → m ≡ marks_of test text start → 0 < m
      → NoneBefore (Passes test text) start (start + 16) (start + trailing_zeros w64 m) × Passes test text (start + trailing_zeros w64 m)
  first_mark m is some =
      let small = mask_l-lt (map test (chunk start 16 text)) in
      let few : m < 2 ^ 16 = subst (λ (n : ℕ). n < 2 ^ 16) (sym is) (subst (λ (n : ℕ). marks_of test text start < 2 ^ n) lane_count small) in
      let lowest = bit_at-trailing_zeros w64 m some (omega arith) in
      let k = trailing_zeros w64 m in
      let set : bit_at (marks_of test text start) (trailing_zeros w64 m) ≡ 1 = ap (λ (n : ℕ). bit_at n (trailing_zeros w64 m)) (sym is) ∙ lowest.1 in (
        record {
          low = omega arith;
          high = omega (arith, within_lanes (trailing_zeros w64 m) set);
          before = λ p low high. unmarked_place p low (omega (arith, within_lanes (trailing_zeros w64 m) set)) (ap (λ (n : ℕ). bit_at n (p - start)) (sym is) ∙ lowest.2 (p - start) (omega arith));
        },
        marked (trailing_zeros w64 m) set,
      )

  pub last_mark : (m k : ℕ) → m ≡ marks_of test text start → 2 ^ k ≤ m → m < 2 * 2 ^ k
      → NoneAfter (Passes test text) start (start + 16) (start + k) × Passes test text (start + k)
  last_mark m k is low high =
      let set : bit_at (marks_of test text start) k ≡ 1 = ap (λ (n : ℕ). bit_at n k) (sym is) ∙ bit_at_top m k low high in (
        record {
          low = omega arith;
          high = omega (arith, within_lanes k set);
          after = λ p above below. unmarked_place p (omega arith) below (ap (λ (n : ℕ). bit_at n (p - start)) (sym is) ∙ bit_at_above m k (p - start) high (omega arith));
        },
        marked k set,
      )
