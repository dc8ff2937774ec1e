-- The line that is no record, where halving met one that has not the form of a record's.
use Rattle.std.proofs.Common.{◌≡◌, inr, ⊎_elim, ℕ, ◌+◌, ◌-◌, ◌<◌, ◌≤◌, List, [], ◌∷◌, length, drop, get_or, sym, ◌∙◌, ap, subst, arith, length-append}
use Rattle.std.proofs.Math.Seq.{get_or-append_seam}
use Rattle.std.proofs.lemmas.Bool.{cases_lt, cases_eq}
use Rattle.std.proofs.lemmas.List.{get_or-drop, get_or_append_left, length-drop}
use Rattle.gix_ref_hash.specs.declared.hash.Kind.{Kind}
use Rattle.gix_ref_hash.specs.Bytes.{Cuts, NoByte, StopsAt}
use Rattle.gix_ref_packed_text.specs.RecordGrammar.{is_caret}
use Rattle.gix_ref_packed_text.specs.Positions.{LineOf}
use Rattle.gix_ref_packed_text.specs.Prefixes.{IsBadLineAt, IsBadStart, IsListStart}
use Rattle.gix_ref_packed_text.proofs.Halves.{begins_line}
use Rattle.gix_ref_packed_text.proofs.RecordBytes.{no_caret_in}
use Rattle.gix_ref_packed_text.proofs.ItemStarts.{apart_plain, apart_second, none_at_caret}
use Rattle.gix_ref_packed.specs.Items.{CutsAtFeed}

module _ (k : Kind) (text : List ℕ) (place : ℕ) (bad : IsBadStart k text place) where
  list_start : IsListStart text place
  list_start = let some = bad.some in record { within = omega arith; begins = inr (begins_line text place bad.offset bad.begins) }

  -- it is that line, at the front of the text
  pub bad_first : place ≡ 0 → IsBadLineAt k text place
  bad_first first = record { begins = record { list_start = list_start; apart = λ p r at before. absurd (omega arith) }; some = bad.some; bad = bad.bad }

  -- or where it begins with no `^`
  pub bad_plain : StopsAt is_caret (drop place text) → IsBadLineAt k text place
  bad_plain stops = record { begins = record { list_start = list_start; apart = apart_plain k text place list_start stops }; some = bad.some; bad = bad.bad }

  -- else a line with `^` follows it, which is that line
  module _ (pos : 0 < place) (has : StopsAt is_caret (drop place text) → ⊥) (line rest : List ℕ) (cut : CutsAtFeed (drop place text) line rest) where
    moved : (i : ℕ) → get_or (drop place text) i 0 ≡ get_or text (place + i) 0
    moved i = get_or-drop place text i 0

    caret : get_or text place 0 ≡ 94
    caret = ⊎_elim
        (λ (is : get_or (drop place text) 0 0 ≡ 94). let same : place + 0 ≡ place = omega arith in ap (λ i. get_or text i 0) (sym same) ∙ sym (moved 0) ∙ is)
        (λ (other : get_or (drop place text) 0 0 ≡ 94 → ⊥). absurd (has (no_caret_in (drop place text) other)))
        (cases_eq (get_or (drop place text) 0 0) 94)

    -- the line up to its LF is the one before that line
    cut_before : (q : ℕ) → LineOf text place (q - 1) → 0 < q → q < length text → get_or text (q - 1) 0 ≡ 10 → length text - length rest ≡ q
    cut_before q of some within lf =
        let below = of.below in
        let place_of : place + (q - 1 - place) ≡ q - 1 = omega arith in
        let there : get_or (drop place text) (q - 1 - place) 0 ≡ 10 = moved (q - 1 - place) ∙ ap (λ i. get_or text i 0) place_of ∙ lf in
        ⊎_elim
        (λ (cut : Cuts 10 (drop place text) line rest).
        let size : length (drop place text) ≡ length line + length (10 ∷ rest) = ap length cut.whole ∙ length-append line (10 ∷ rest) in
        let early : length line ≤ q - 1 - place = ⊎_elim
        (λ (inside : q - 1 - place < length line).
        absurd (cut.none (q - 1 - place) inside (sym (get_or_append_left line (10 ∷ rest) 0 (q - 1 - place) inside) ∙ ap (λ t. get_or t (q - 1 - place) 0) (sym cut.whole) ∙ there)))
        (λ (past : length line ≤ q - 1 - place). past)
        (cases_lt (q - 1 - place) (length line)) in
        let late : q - 1 - place ≤ length line = ⊎_elim
        (λ (inside : length line < q - 1 - place).
        absurd (of.within (place + length line) (omega arith) (omega arith) (sym (moved (length line)) ∙ ap (λ t. get_or t (length line) 0) cut.whole ∙ get_or-append_seam line 10 rest 0)))
        (λ (past : q - 1 - place ≤ length line). past)
        (cases_lt (length line) (q - 1 - place)) in
        omega (arith, length-drop place text))
        (λ (none : NoByte 10 (drop place text) × (line ≡ drop place text) × (rest ≡ [])). absurd (none.0 (q - 1 - place) (omega (arith, length-drop place text)) there))
        cut

    pub bad_second : IsBadLineAt k text (length text - length rest)
    bad_second =
        let of = bad.begins in
        let below = of.in_line.below in
        let within = bad.within in
        ⊎_elim
        (λ (goes : (get_or text of.line 0 ≡ 94) × (0 < of.line) × LineOf text place (of.line - 1)).
        let some = goes.1 in
        let lf = of.in_line.begins some in
        let is = cut_before of.line goes.2 some (omega arith) lf in
        subst (IsBadLineAt k text) (sym is) (record {
          begins = record {
            list_start = record { within = omega arith; begins = inr of.in_line.begins };
            apart = apart_second k text place of.line caret goes.0 some goes.2 of.in_line.begins;
          };
          some = omega arith;
          bad = λ r rest takes. none_at_caret k text of.line r (of.in_line.begins, (rest, takes)) goes.0;
        }))
        (λ (stays : (get_or text of.line 0 ≡ 94 → of.line ≡ 0) × (place ≡ of.line)).
        let same = stays.1 in
        let zero = stays.0 (ap (λ i. get_or text i 0) (sym same) ∙ caret) in
        absurd (omega arith))
        of.goes
