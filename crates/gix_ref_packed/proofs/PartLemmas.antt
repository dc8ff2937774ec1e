-- A text that is read in parts of whole records: its records are those of a part, then those of the rest.
use Rattle.std.proofs.Common.{◌≡◌, ◌≢◌, inl, inr, ⊎_elim, ℕ, ◌+◌, ◌<◌, ◌≤◌, ◌-◌, get_or, Bool, true, false, cond, nat_eq, List, [], ◌∷◌, ◌++◌, length, take, drop, refl, sym, ◌∙◌, ap, subst, arith, append-nil, append_assoc, length-append, Some, None}
use Rattle.std.specs.Cmp.Lexicographic.{pointwise}
use Rattle.std.proofs.lemmas.List.{drop_at, drop-drop, get_or-drop, get_or-take, length-take, take_all, take-append-drop, take-take}
use Rattle.gix_ref_hash.specs.declared.hash.Kind.{Kind}
use Rattle.gix_ref_hash.specs.Bytes.{StopsAt}
use Rattle.gix_ref_target.specs.PackedRecords.{Record, record_named}
use Rattle.gix_ref_packed_text.specs.OpenedText.{Fronts, StuckAt}
use Rattle.gix_ref_packed_text.specs.RecordGrammar.{NoRecord, Records, is_caret}
use Rattle.gix_ref_packed_text.proofs.FrontTexts.{ends_rest, record_longer, record_shorter, no_record_longer}
use Rattle.gix_ref_packed_text.proofs.RecordBytes.{lines_taken, no_caret_in}
use Rattle.gix_ref_packed_text.proofs.RecordPlaces.{EndsLf}
use Rattle.gix_ref_packed.specs.internal.Parts.{IsPart}
use Rattle.gix_ref_packed.proofs.UnsortedLemmas.{Left}

-- the front ends with a LF, if it is not empty
abbrev pub Ended : List ℕ → Type 0
Ended s = s ≢ [] → EndsLf s

module _ (k : Kind) (tail : List ℕ) (stops : StopsAt is_caret tail) where
  fronts_longer : (s : List ℕ) (rs : List Record) (rest : List ℕ) → Fronts k s rs rest → Fronts k (s ++ tail) rs (rest ++ tail)
  fronts_longer s [] rest h = ap (λ u. u ++ tail) h
  fronts_longer s (r ∷ rs) rest h = (h.0 ++ tail, record_longer k s tail stops r h.0 h.1, fronts_longer h.0 rs rest h.2)

  -- the records of the whole text, cut where the front ends
  records_cut : (s : List ℕ) → Ended s → (rs : List Record) → Records k (s ++ tail) rs → (front : List Record) × (after : List Record) × (rs ≡ front ++ after) × Records k s front × Records k tail after
  records_cut [] ends rs h = ([], rs, refl, refl, h)
  records_cut (b ∷ s) ends [] h = absurd (cc)
  records_cut (b ∷ s) ends (r ∷ rs) h =
      let first = record_shorter k (b ∷ s) tail stops (ends (λ (none : b ∷ s ≡ []). cc)) r h.0 h.1 in
      let lines = lines_taken k (b ∷ s) r first.0 first.1 in
      let more = records_cut first.0 (λ some. ends_rest (b ∷ s) lines.front first.0 (ends (λ (none : b ∷ s ≡ []). cc)) lines.whole some) rs (subst (λ (u : List ℕ). Records k u rs) first.2 h.2) in
      (r ∷ more.0, more.1, ap (λ xs. r ∷ xs) more.2, (first.0, first.1, more.3), more.4)

-- what is left of a front is an end of it
fronts_end : (k : Kind) (s : List ℕ) (rs : List Record) (rest : List ℕ) → Fronts k s rs rest → (front : List ℕ) × (s ≡ front ++ rest)
fronts_end k s [] rest h = ([], h)
fronts_end k s (r ∷ rs) rest h =
    let lines = lines_taken k s r h.0 h.1 in
    let more = fronts_end k h.0 rs rest h.2 in
    (lines.front ++ more.0, lines.whole ∙ ap (λ u. lines.front ++ u) more.1 ∙ sym (append_assoc lines.front more.0 rest))

all_front : (k : Kind) (s : List ℕ) (rs : List Record) → Records k s rs → Fronts k s rs []
all_front k s [] h = h
all_front k s (r ∷ rs) h = (h.0, h.1, all_front k h.0 rs h.2)

some_byte : (t : List ℕ) → t ≢ [] → 0 < length t
some_byte [] some = absurd (some refl)
some_byte (b ∷ t) some = omega arith

filled : (t front rest : List ℕ) → t ≡ front ++ rest → rest ≢ [] → 0 < length t
filled t front rest whole some =
    let behind = some_byte rest some in
    let len : length t ≡ length front + length rest = ap length whole ∙ length-append front rest in omega arith

longer : (t more : List ℕ) → t ≢ [] → t ++ more ≢ []
longer [] more some none = some refl
longer (b ∷ t) more some none = cc

module _ (k : Kind) (text part : List ℕ) (p : IsPart text part) where
  stops_behind : StopsAt is_caret p.rest
  stops_behind = ⊎_elim (λ (none : p.rest ≡ []). subst (StopsAt is_caret) (sym none) tt) (λ ends. ends.1) p.ends

  -- the records of the part are at the front of the text
  pub part_fronts : (rs : List Record) → Records k part rs → Fronts k text rs p.rest
  part_fronts rs h = subst (λ (u : List ℕ). Fronts k u rs p.rest) (sym p.whole) (fronts_longer k p.rest stops_behind part rs [] (all_front k part rs h))

  no_record_behind : (rest : List ℕ) (front : List ℕ) → part ≡ front ++ rest → rest ≢ [] → NoRecord k rest → NoRecord k (rest ++ p.rest)
  no_record_behind rest front whole some none = ⊎_elim
      (λ (end : p.rest ≡ []). subst (NoRecord k) (sym (ap (λ u. rest ++ u) end ∙ append-nil rest)) none)
      (λ ends. no_record_longer k rest p.rest stops_behind none (ends_rest part front rest (ended ends.0) whole some))
      p.ends
    where
      ended : ((0 < length part) → get_or part (length part - 1) 0 ≡ 10) → EndsLf part
      ended last = let pos : 0 < length part = filled part front rest whole some in record { some = pos; last = last pos }

  -- a line of the part that is no record is one of the text
  pub part_stuck : (first line : ℕ) → StuckAt k first part line → StuckAt k first text line
  part_stuck first line stuck =
      let end = fronts_end k part stuck.before stuck.rest stuck.fronts in
      record {
        before = stuck.before;
        rest = stuck.rest ++ p.rest;
        fronts = subst (λ (u : List ℕ). Fronts k u stuck.before (stuck.rest ++ p.rest)) (sym p.whole) (fronts_longer k p.rest stops_behind part stuck.before stuck.rest stuck.fronts);
        some = longer stuck.rest p.rest stuck.some;
        bad = no_record_behind stuck.rest end.0 end.1 stuck.some stuck.bad;
        number = stuck.number;
      }

  -- the records of the text are those of the part, then those of the rest
  pub part_cut : (rs : List Record) → Records k text rs → (front : List Record) × (after : List Record) × (rs ≡ front ++ after) × Records k part front × Records k p.rest after
  part_cut rs h = ⊎_elim
      (λ (end : p.rest ≡ []).
      let same : text ≡ part = p.whole ∙ ap (λ u. part ++ u) end ∙ append-nil part in
      (rs, [], sym (append-nil rs), subst (λ (u : List ℕ). Records k u rs) same h, end))
      (λ ends. records_cut k p.rest stops_behind part (λ some. record { some = some_byte part some; last = ends.0 (some_byte part some) }) rs (subst (λ (u : List ℕ). Records k u rs) p.whole h))
      p.ends

-- a part that ends with the text
pub whole_is_part : (t w : List ℕ) → w ≡ take (length w) t → length w ≡ length t → IsPart t w
whole_is_part t w is len = record { rest = []; whole = sym (is ∙ take_all (length w) t (omega (arith, len))) ∙ sym (append-nil w); ends = inl refl }

-- and one that is cut where a line begins with no `^`
pub cut_is_part : (t w : List ℕ) (n : ℕ) → w ≡ take (length w) t → 0 < n → n < length w → get_or w (n - 1) 0 ≡ 10 → get_or w n 0 ≢ 94 → IsPart t (take n w)
cut_is_part t w n is some within lf other =
    let same : take n w ≡ take n t = ap (take n) is ∙ take-take n (length w) t (omega arith) in
    let size : length w ≤ length t = omega (arith, length-take (length w) t, ap length is) in
    let len : length (take n w) ≡ n = omega (arith, length-take n w) in
    record {
      rest = drop n t;
      whole = sym (take-append-drop n t) ∙ ap (λ u. u ++ drop n t) (sym same);
      ends = inr (
        λ pos. get_or-take n w (length (take n w) - 1) 0 (omega arith) ∙ ap (λ i. get_or w (i - 1) 0) len ∙ lf,
        no_caret_in (drop n t) (λ caret. other (
            ap (λ u. get_or u n 0) is ∙ get_or-take (length w) t n 0 within ∙ ap (λ i. get_or t i 0) (let e : n ≡ n + 0 = omega arith in e) ∙ sym (get_or-drop n t 0 0) ∙ caret
            )),
      );
    }

-- what is left of a text behind a part that was read at a place
pub left_behind : (t part : List ℕ) (place : ℕ) (p : IsPart (drop place t) part) → drop (place + length part) t ≡ p.rest
left_behind t part place p = sym (drop-drop (length part) place t) ∙ ap (drop (length part)) p.whole ∙ drop_at part p.rest (length part) refl

-- ---- the first record of a name

named_first : (n : List ℕ) (front after : List Record) (r : Record) → record_named n front ≡ Some r → record_named n (front ++ after) ≡ Some r
named_first n [] after r is = absurd (cc)
named_first n (x ∷ front) after r is = go (pointwise nat_eq x.name n) is (named_first n front after r)
  where
    go : (b : Bool) → cond b (Some x) (record_named n front) ≡ Some r → (record_named n front ≡ Some r → record_named n (front ++ after) ≡ Some r) → cond b (Some x) (record_named n (front ++ after)) ≡ Some r
    go true is more = is
    go false is more = more is

named_later : (n : List ℕ) (front after : List Record) → record_named n front ≡ None → record_named n (front ++ after) ≡ record_named n after
named_later n [] after none = refl
named_later n (x ∷ front) after none = go (pointwise nat_eq x.name n) none (named_later n front after)
  where
    go : (b : Bool) → cond b (Some x) (record_named n front) ≡ None → (record_named n front ≡ None → record_named n (front ++ after) ≡ record_named n after) → cond b (Some x) (record_named n (front ++ after)) ≡ record_named n after
    go true none more = absurd (cc)
    go false none more = more none

module _ (k : Kind) (t rest part n : List ℕ) (p : IsPart rest part) (left : Left k t rest n) where
  -- where the part has no record of the name, the rest has the first one
  pub left_later : ((rs : List Record) → Records k part rs → None ≡ record_named n rs) → Left k t p.rest n
  left_later none rs h =
      let was = left rs h in
      let cut = part_cut k rest part p was.0 was.1 in
      (cut.1, cut.4, was.2 ∙ ap (record_named n) cut.2 ∙ named_later n cut.0 cut.1 (sym (none cut.0 cut.3)))

  -- the first one of the part is the first one
  pub found_here : (r : Record) → ((rs : List Record) → Records k part rs → Some r ≡ record_named n rs) → (rs : List Record) → Records k t rs → record_named n rs ≡ Some r
  found_here r some rs h =
      let was = left rs h in
      let cut = part_cut k rest part p was.0 was.1 in
      was.2 ∙ ap (record_named n) cut.2 ∙ named_first n cut.0 cut.1 r (sym (some cut.0 cut.3))

-- where nothing is left, no record has the name
pub left_none : (k : Kind) (t rest n : List ℕ) → Left k t rest n → rest ≡ [] → (rs : List Record) → Records k t rs → record_named n rs ≡ None
left_none k t rest n left end rs h = let was = left rs h in was.2 ∙ none was.0 (subst (λ (u : List ℕ). Records k u was.0) end was.1)
  where
    none : (more : List Record) → Records k [] more → record_named n more ≡ None
    none [] g = refl
    none (r ∷ more) g = let lines = lines_taken k [] r g.0 g.1 in let some = lines.some in let len : 0 ≡ length lines.front + length g.0 = ap length lines.whole ∙ length-append lines.front g.0 in absurd (omega arith)
