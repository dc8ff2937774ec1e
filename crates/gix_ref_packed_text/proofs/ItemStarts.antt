-- Places where a line begins that is of no record before it.
use Rattle.std.proofs.Common.{◌≡◌, inl, inr, ⊎_elim, ℕ, ◌+◌, ◌-◌, ◌<◌, ◌≤◌, List, length, length-append, drop, get_or, refl, sym, ◌∙◌, ap, subst, arith}
use Rattle.std.proofs.lemmas.Bool.{cases_lt, cases_eq}
use Rattle.std.proofs.lemmas.List.{length-drop, get_or-drop}
use Rattle.gix_ref_hash.specs.declared.hash.Kind.{Kind}
use Rattle.gix_ref_hash.specs.Bytes.{StopsAt}
use Rattle.gix_ref_target.specs.PackedRecords.{Record}
use Rattle.gix_ref_packed_text.specs.RecordGrammar.{NoRecord, Takes, is_caret}
use Rattle.gix_ref_packed_text.specs.Positions.{BeginsLine, GoesWith, LineOf, RecordOf}
use Rattle.gix_ref_packed_text.specs.Prefixes.{CutsNoRecord, IsListStart, RecordAt}
use Rattle.gix_ref_packed_text.proofs.LineBounds.{named_of, no_caret}
use Rattle.gix_ref_packed_text.proofs.OneReading.{same_record}
use Rattle.gix_ref_packed_text.proofs.RecordPlaces.{form_of, front_of, no_caret_first, parts_of, shorter_record}

module _ (k : Kind) (text : List ℕ) where
  -- no record begins with `^`
  pub none_at_caret : (p : ℕ) (r : Record) → RecordAt k text p r → get_or text p 0 ≡ 94 → ⊥
  none_at_caret p r at = no_caret k text p r.name (named_of k text p r at)

  -- the lines of a record up to a byte of them
  module _ (p : ℕ) (r : Record) (at : RecordAt k text p r) where
    moved : (i q : ℕ) → p + i ≡ q → get_or (drop p text) i 0 ≡ get_or text q 0
    moved i q is = get_or-drop p text i 0 ∙ ap (λ j. get_or text j 0) is

    first_line : (s o : ℕ) → p + o + length at.1.0 < length text → RecordOf (drop p text) s o → s ≡ 0
    first_line s o within of =
        let front = front_of (drop p text) at.1.0 (parts_of k (drop p text) r at.1.0 (form_of k (drop p text) r at.1.0 at.1.1)) in
        let len : length (drop p text) ≡ length front.0 + length at.1.0 = ap length front.1.whole ∙ length-append front.0 at.1.0 in
        front.1.start s o (omega (arith, length-drop p text)) of

    begins_there : (q : ℕ) → p < q → BeginsLine text q → BeginsLine (drop p text) (q - p)
    begins_there q before line some = moved (q - p - 1) (q - 1) (omega arith) ∙ line (omega arith)

    line_there : (q : ℕ) → p < q → BeginsLine text q → LineOf (drop p text) (q - p) (q - p)
    line_there q before line = record { below = omega arith; begins = begins_there q before line; within = λ i low high. absurd (omega arith) }

    -- a line that begins inside of its lines begins with `^`
    pub inside : (q : ℕ) → p < q → BeginsLine text q → q + length at.1.0 < length text → get_or text q 0 ≡ 94
    inside q before line within = ⊎_elim
        (λ (caret : get_or text q 0 ≡ 94). caret)
        (λ (other : get_or text q 0 ≡ 94 → ⊥).
        let goes : GoesWith (drop p text) (q - p) (q - p) = inr (λ caret. absurd (other (sym (moved (q - p) q (omega arith)) ∙ caret)), refl) in
        let first = first_line (q - p) (q - p) (omega arith) (record { line = q - p; in_line = line_there q before line; goes = goes }) in
        absurd (omega arith))
        (cases_eq (get_or text q 0) 94)

    -- and no other line with `^` goes before that
    second : (s q : ℕ) → p < s → LineOf text s (q - 1) → 0 < q → BeginsLine text q → get_or text q 0 ≡ 94 → q + length at.1.0 < length text → ⊥
    second s q before of some line caret within =
        let below = of.below in
        let start : LineOf (drop p text) (s - p) (q - p - 1) = record {
          below = omega arith;
          begins = begins_there s before of.begins;
          within = λ i low high lf. of.within (p + i) (omega arith) (omega arith) (sym (moved i (p + i) refl) ∙ lf);
        } in
        let goes : GoesWith (drop p text) (q - p) (s - p) = inl (moved (q - p) q (omega arith) ∙ caret, omega arith, start) in
        let first = first_line (s - p) (q - p) (omega arith) (record { line = q - p; in_line = line_there q (omega arith) line; goes = goes }) in
        omega arith

  -- so is one that begins with no `^`, and the end of the text
  pub apart_plain : (q : ℕ) → IsListStart text q → StopsAt is_caret (drop q text) → CutsNoRecord k text q
  apart_plain q starts stops p r at before = ⊎_elim
      (λ (within : q + length at.1.0 < length text).
      let line : BeginsLine text q = ⊎_elim (λ (end : q ≡ length text). absurd (omega arith)) (λ (line : BeginsLine text q). line) starts.begins in
      let same : q + 0 ≡ q = omega arith in
      absurd (no_caret_first (drop q text) stops (get_or-drop q text 0 0 ∙ ap (λ i. get_or text i 0) same ∙ inside p r at q before line within)))
      (λ (past : length text ≤ q + length at.1.0). past)
      (cases_lt (q + length at.1.0) (length text))

  -- what follows a record that begins at such a place
  pub apart_after : (s t : ℕ) (x : Record) (there : RecordAt k text s x) → t + length there.1.0 ≡ length text → CutsNoRecord k text s → CutsNoRecord k text t
  apart_after s t x there len apart p r at before =
      let less = shorter_record k (drop s text) x there.1.0 there.1.1 in
      let far : s < t = omega (arith, length-drop s text) in
      ⊎_elim
      (λ (early : p < s). let old = apart p r at early in omega arith)
      (λ (late : s ≤ p). ⊎_elim
      (λ (same : p ≡ s).
      let again = same_record k (drop s text) r at.1.0 x there.1.0 (subst (λ (i : ℕ). Takes k (drop i text) r at.1.0) same at.1.1) there.1.1 in
      let rest : length at.1.0 ≡ length there.1.0 = ap length again.1 in omega arith)
      (λ (other : p ≡ s → ⊥). absurd (none_at_caret p r at (inside s x there p (omega arith) at.0 (omega arith))))
      (cases_eq p s))
      (cases_lt p s)

  -- what follows a line that is no record, and begins at such a place
  pub apart_next : (s t : ℕ) → s ≤ t → NoRecord k (drop s text) → ((i : ℕ) → s < i → i < t → BeginsLine text i → ⊥) → CutsNoRecord k text s → CutsNoRecord k text t
  apart_next s t up bad none apart p r at before = ⊎_elim
      (λ (early : p < s). let old = apart p r at early in omega arith)
      (λ (late : s ≤ p). ⊎_elim
      (λ (same : p ≡ s). absurd (bad r at.1.0 (subst (λ (i : ℕ). Takes k (drop i text) r at.1.0) same at.1.1)))
      (λ (other : p ≡ s → ⊥). absurd (none p (omega arith) before at.0))
      (cases_eq p s))
      (cases_lt p s)

  -- a line with `^` that follows another one
  pub apart_second : (s q : ℕ) → get_or text s 0 ≡ 94 → get_or text q 0 ≡ 94 → 0 < q → LineOf text s (q - 1) → BeginsLine text q → CutsNoRecord k text q
  apart_second s q first caret some of line p r at before = ⊎_elim
      (λ (within : q + length at.1.0 < length text).
      let up : p ≤ s = ⊎_elim
      (λ (far : s < p). absurd (of.within (p - 1) (omega arith) (omega arith) (at.0 (omega arith))))
      (λ (near : p ≤ s). near)
      (cases_lt s p) in
      absurd (⊎_elim
      (λ (same : p ≡ s). none_at_caret p r at (ap (λ i. get_or text i 0) same ∙ first))
      (λ (other : p ≡ s → ⊥). second p r at s q (omega arith) of some line caret within)
      (cases_eq p s)))
      (λ (past : length text ≤ q + length at.1.0). past)
      (cases_lt (q + length at.1.0) (length text))
