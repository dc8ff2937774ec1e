-- What is left of a text after its first record, whatever its other lines are.
use Rattle.std.proofs.Common.{◌≡◌, ◌⊎◌, inl, inr, ⊎_elim, ℕ, true, nat_eq, ◌+◌, ◌-◌, ◌<◌, ◌≤◌, List, [], ◌∷◌, ◌++◌, length, drop, get_or, refl, sym, ◌∙◌, ap, subst, arith}
use Rattle.std.specs.List.{All, starts_with}
use Rattle.std.proofs.Math.Seq.{drop-append-add}
use Rattle.std.proofs.lemmas.Cmp.{nat_list_cmp_total}
use Rattle.std.proofs.lemmas.Bool.{cases_lt, cases_eq}
use Rattle.std.proofs.lemmas.List.{get_or-append-add, get_or_append_left, append-nil}
use Rattle.std.proofs.lemmas.List.Elements.{All-cons, All-nil}
use Rattle.gix_ref_hash.specs.declared.hash.Kind.{Kind}
use Rattle.gix_ref_target.specs.PackedRecords.{Record}
use Rattle.gix_ref_packed_text.specs.RecordGrammar.{RecordLine, Takes, Records, Below, Rising, is_caret}
use Rattle.gix_ref_hash.specs.Bytes.{StopsAt}
use Rattle.gix_ref_packed_text.specs.Positions.{BeginsLine, NameAt}
use Rattle.gix_ref_packed_text.specs.Prefixes.{RecordAt, NameAtLine, NamedLine, NamesAscend, SplitsLines}
use Rattle.gix_ref_packed_text.proofs.RecordPlaces.{Front, front_of, parts_of, form_of}
use Rattle.gix_ref_packed_text.proofs.LineBounds.{no_caret, name_of, place_of, same_name}
use Rattle.gix_ref_packed_text.proofs.LowerBounds.{begins, prefix_not_below}

drop_zero : (t : List ℕ) → drop 0 t ≡ t
drop_zero [] = refl
drop_zero (b ∷ t) = refl

-- lines of the rest are lines of the text, and those of the text after its front are lines of the rest
module _ (text f rest : List ℕ) (whole : text ≡ f ++ rest) (begins : BeginsLine text (length f)) where
  moved : (i : ℕ) → get_or text (length f + i) 0 ≡ get_or rest i 0
  moved i = ap (λ t. get_or t (length f + i) 0) whole ∙ get_or-append-add f rest i 0

  pub dropped : (p : ℕ) → drop (length f + p) text ≡ drop p rest
  dropped p = ap (drop (length f + p)) whole ∙ drop-append-add f rest p

  pub line_in_text : (p : ℕ) → BeginsLine rest p → BeginsLine text (length f + p)
  line_in_text p line some = ⊎_elim
      (λ (first : p ≡ 0).
      let same : length f ≡ length f + p = omega arith in
      subst (BeginsLine text) same begins some)
      (λ (other : p ≡ 0 → ⊥).
      let before : length f + p - 1 ≡ length f + (p - 1) = omega arith in
      ap (λ i. get_or text i 0) before ∙ moved (p - 1) ∙ line (omega arith))
      (cases_eq p 0)

  line_in_rest : (p : ℕ) → BeginsLine text (length f + p) → BeginsLine rest p
  line_in_rest p line some =
      let before : length f + (p - 1) ≡ length f + p - 1 = omega arith in
      sym (moved (p - 1)) ∙ ap (λ i. get_or text i 0) before ∙ line (omega arith)

  pub rest_ascends : (k : Kind) → NamesAscend k text → NamesAscend k rest
  rest_ascends k ascend p q m n before a b =
      ascend (length f + p) (length f + q) m n (omega arith) (there p m a) (there q n b)
    where
      there : (p : ℕ) (m : List ℕ) → NameAtLine k rest p m → NameAtLine k text (length f + p) m
      there p m at = (line_in_text p at.0, subst (λ (t : List ℕ). NameAt k t m) (sym (dropped p)) at.1, at.2)

  pub record_in_text : (k : Kind) (p : ℕ) (s : Record) → RecordAt k rest p s → RecordAt k text (length f + p) s
  record_in_text k p s at = (line_in_text p at.0, (at.1.0, subst (λ (t : List ℕ). Takes k t s at.1.0) (sym (dropped p)) at.1.1))

  pub named_in_text : (k : Kind) (p : ℕ) (m : List ℕ) → NamedLine k rest p m → NamedLine k text (length f + p) m
  named_in_text k p m at = record {
    begins = line_in_text p at.begins;
    digits = at.digits;
    rest = at.rest;
    line = subst (λ (t : List ℕ). RecordLine k t at.digits m at.rest) (sym (dropped p)) at.line;
    one_line = at.one_line;
    no_caret = subst (StopsAt is_caret) (sym (dropped p)) at.no_caret;
    some_name = at.some_name;
  }

  pub named_in_rest : (k : Kind) (p : ℕ) (m : List ℕ) → length f ≤ p → NamedLine k text p m → NamedLine k rest (p - length f) m
  named_in_rest k p m late at =
      let split : p ≡ length f + (p - length f) = omega arith in
      let left = ap (λ i. drop i text) split ∙ dropped (p - length f) in
      record {
        begins = line_in_rest (p - length f) (subst (BeginsLine text) split at.begins);
        digits = at.digits;
        rest = at.rest;
        line = subst (λ (t : List ℕ). RecordLine k t at.digits m at.rest) left at.line;
        one_line = at.one_line;
        no_caret = subst (StopsAt is_caret) left at.no_caret;
        some_name = at.some_name;
      }

-- a text whose first record is this one
module _ (k : Kind) (text : List ℕ) (r : Record) (rest : List ℕ) (takes : Takes k text r rest) where
  pub front : (f : List ℕ) × Front text f rest
  front = front_of text rest (parts_of k text r rest (form_of k text r rest takes))

  front_begins : BeginsLine text (length front.0)
  front_begins some =
      let ends = front.1.ends in
      ap (λ t. get_or t (length front.0 - 1) 0) front.1.whole ∙ get_or_append_left front.0 rest 0 (length front.0 - 1) (omega arith) ∙ ends.last

  pub behind_ascends : NamesAscend k text → NamesAscend k rest
  behind_ascends = rest_ascends text front.0 rest front.1.whole front_begins k

  pub behind_record : (p : ℕ) (s : Record) → RecordAt k rest p s → RecordAt k text (length front.0 + p) s
  behind_record = record_in_text text front.0 rest front.1.whole front_begins k

  pub behind_named : (p : ℕ) (m : List ℕ) → NamedLine k rest p m → NamedLine k text (length front.0 + p) m
  behind_named = named_in_text text front.0 rest front.1.whole front_begins k

  -- the first record is at the front
  pub first_there : RecordAt k text 0 r
  first_there = (λ some. absurd (omega arith), (rest, subst (λ (t : List ℕ). Takes k t r rest) (sym (drop_zero text)) takes))

  -- a line with a name is that of the first record, or one of the rest
  pub first_or_later : (p : ℕ) (m : List ℕ) → NamedLine k text p m → (m ≡ r.name) ⊎ ((0 < p) × ((q : ℕ) × NamedLine k rest q m))
  first_or_later p m at = ⊎_elim
      (λ (early : p < length front.0).
      let first = front.1.start p p early (record {
        line = p;
        in_line = record { below = omega arith; begins = at.begins; within = λ i low high. absurd (omega arith) };
        goes = inr (λ caret. absurd (no_caret k text p m at caret), refl);
      }) in
      inl (same_name k text p 0 m r.name first (place_of k text p m at) (name_of k text 0 r first_there)))
      (λ (late : length front.0 ≤ p).
      let ends = front.1.ends in
      let some = ends.some in
      inr (omega arith, (p - length front.0, named_in_rest text front.0 rest front.1.whole front_begins k p m late at)))
      (cases_lt p (length front.0))

  -- where its name begins with a prefix, no line of the text has a name below that
  pub splits_front : (prefix : List ℕ) → starts_with nat_eq r.name prefix ≡ true → NamesAscend k text → SplitsLines k text prefix 0
  splits_front prefix has ascend = record {
    there = inr (r.name, name_of k text 0 r first_there);
    low = λ p m early. absurd (omega arith);
    high = λ p m late at below. ⊎_elim
        (λ (same : m ≡ r.name). not_below (subst (λ (x : List ℕ). Below x prefix) same below))
        (λ (later : (0 < p) × ((q : ℕ) × NamedLine k rest q m)).
        not_below (nat_list_cmp_total.trans r.name m prefix (ascend 0 p r.name m later.0 (name_of k text 0 r first_there) (place_of k text p m at)) below))
        (first_or_later p m at);
  }
    where
      not_below : Below r.name prefix → ⊥
      not_below below = prefix_not_below prefix (drop (length prefix) r.name) (subst (λ (m : List ℕ). Below m prefix) (begins r.name prefix has) below)

-- each of the records of a text begins a line of it
all_there : (k : Kind) (text : List ℕ) (rs : List Record) → Records k text rs → All (λ r. (p : ℕ) × RecordAt k text p r) rs
all_there k text [] h = All-nil (λ r. (p : ℕ) × RecordAt k text p r)
all_there k text (r ∷ rs) (rest, takes, more) =
    All-cons (λ r. (p : ℕ) × RecordAt k text p r) r rs (0, first_there k text r rest takes)
    (λ i x lt. let later = all_there k rest rs more i x lt in (_, behind_record k text r rest takes later.0 (get_or rs i x) later.1))

-- so they are in order where the names of the text ascend
pub records_rise : (k : Kind) (text : List ℕ) (rs : List Record) → Records k text rs → NamesAscend k text → Rising rs
records_rise k text [] h ascend = tt
records_rise k text (r ∷ rs) (rest, takes, more) ascend = (
  λ i x lt below.
      let later = all_there k rest rs more i x lt in
      let s = get_or rs i x in
      let ends = (front k text r rest takes).1.ends in
      let some = ends.some in
      let up = ascend 0 (length (front k text r rest takes).0 + later.0) r.name s.name (omega arith) (name_of k text 0 r (first_there k text r rest takes))
      (name_of k text _ s (behind_record k text r rest takes later.0 s later.1)) in
      not_itself r.name (nat_list_cmp_total.trans r.name s.name r.name up below),
  records_rise k rest rs more (behind_ascends k text r rest takes ascend),
)
  where
    not_itself : (n : List ℕ) → Below n n → ⊥
    not_itself n below = prefix_not_below n [] (subst (λ (m : List ℕ). Below m n) (sym (append-nil n)) below)
