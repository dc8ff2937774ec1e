-- What a window says of the text that it is of.
use Rattle.std.proofs.Common.{◌≡◌, ◌≢◌, ◌==◌, ◌||◌, ⊎_elim, ℕ, ◌*◌, ◌+◌, ◌-◌, ◌<◌, ◌≤◌, true, not, get_or, List, [], ◌∷◌, ◌++◌, length, take, drop, refl, sym, ◌∙◌, ap, subst, arith, append_assoc, length-append, length-drop, suc, eq-eqb, eqb-true, Option, Some, None}
use Rattle.std.proofs.lemmas.Bool.{cases_lt}
use Rattle.std.proofs.lemmas.List.{get_or-take, get_or-drop, take-append-drop, get_or-append-add, get_or_append_left, take_all, drop-take, drop-drop}
use Rattle.std.proofs.Math.Seq.{take-append-add}
use Rattle.gix_ref_hash.specs.declared.hash.Kind.{Kind}
use Rattle.gix_ref_hash.specs.Ids.{kind_len}
use Rattle.gix_ref_hash.specs.Bytes.{StopsAt}
use Rattle.std.specs.Option.{option_map}
use denote.Ref.{Bor}
use Rattle.gix_ref_hash.specs.declared.hash.ObjectId.{ObjectId}
use Rattle.gix_ref_packed_text.specs.IdDigits.{ReadsIfAny}
use Rattle.gix_ref_target.specs.PackedRecords.{Record}
use Rattle.gix_ref_packed_text.specs.RecordGrammar.{RecordLine, OptionalPeeledLine, Takes, in_record_line, is_caret}
use Rattle.gix_ref_packed_text.specs.Positions.{LineOf, SameLine, NameAt}
use Rattle.gix_ref_packed_text.specs.Windows.{IsWindow, ReadsOption}
use Rattle.gix_ref_packed_text.proofs.RecordBytes.{line_front, lines_taken, stops_wider}

pub byte_of : (t w : List ℕ) (from i : ℕ) → IsWindow t from w → i < length w → get_or w i 0 ≡ get_or t (from + i) 0
byte_of t w from i is within = ap (λ p. get_or p i 0) is ∙ get_or-take (length w) (drop from t) i 0 within ∙ get_or-drop from t i 0

-- a byte in the front of a window that the test passes
not_lf : (t w : List ℕ) (from at i : ℕ) → IsWindow t from w → at ≤ length w → from ≤ i → i < from + at → ((get_or (take at w) (i - from) 0 == 10) ≡ true → ⊥) → get_or t i 0 ≢ 10
not_lf t w from at i is all low high none lf =
    let back : from + (i - from) ≡ i = omega arith in
    let inside : i - from < at = omega arith in
    none (eq-eqb _ 10 (get_or-take at w (i - from) 0 inside ∙ byte_of t w from (i - from) is (omega arith) ∙ ap (λ j. get_or t j 0) back ∙ lf))

pub line_behind_lf : (t w : List ℕ) (from at last n : ℕ) → IsWindow t from w → at ≤ length w → n ≡ at → last < n → (get_or (take at w) last 0 == 10) ≡ true → ((k : ℕ) → last + 1 ≤ k → k < n → (get_or (take at w) k 0 == 10) ≡ true → ⊥) → LineOf t (from + (last + 1)) (from + at)
line_behind_lf t w from at last n is all len within lf none = record {
  below = omega arith;
  begins = λ some.
      let back : from + (last + 1) - 1 ≡ from + last = omega arith in
      ap (λ j. get_or t j 0) back ∙ sym (byte_of t w from last is (omega arith)) ∙ sym (get_or-take at w last 0 (omega arith)) ∙ eqb-true _ 10 lf;
  within = λ i low high. not_lf t w from at i is all (omega arith) high (none (i - from) (omega arith) (omega arith));
}

pub line_at_first : (t w : List ℕ) (from at n : ℕ) → IsWindow t from w → from ≡ 0 → at ≤ length w → n ≡ at → ((k : ℕ) → 0 ≤ k → k < n → (get_or (take at w) k 0 == 10) ≡ true → ⊥) → LineOf t (from + 0) (from + at)
line_at_first t w from at n is zero all len none = record {
  below = omega arith;
  begins = λ some. absurd (omega arith);
  within = λ i low high. not_lf t w from at i is all (omega arith) high (none (i - from) (omega arith) (omega arith));
}

-- ---- a front of a text

-- what is at the front of a text is at the front of a part that is long enough
pub front_in_part : (t part front rest : List ℕ) → t ≡ front ++ rest → part ≡ take (length part) t → length front ≤ length part → part ≡ front ++ take (length part - length front) rest
front_in_part t part front rest whole is fits =
    let n : length part ≡ length front + (length part - length front) = omega arith in
    is ∙ ap (take (length part)) whole ∙ ap (λ i. take i (front ++ rest)) n ∙ take-append-add front rest (length part - length front)

-- a line in a part that goes far enough
pub record_line_in_part : (k : Kind) (t part d n r : List ℕ) → RecordLine k t d n r → part ≡ take (length part) t → length d + length n + 3 ≤ length part → (e m s : List ℕ) × RecordLine k part e m s
record_line_in_part k t part d n r f is fits =
    let l = line_front f.after n r f.line in
    let front = d ++ 32 ∷ l.0 in
    let whole : t ≡ front ++ r = f.whole ∙ ap (λ a. d ++ 32 ∷ a) l.1 ∙ sym (append_assoc d (32 ∷ l.0) r) in
    let len = length-append d (32 ∷ l.0) in
    let few = l.3 in
    let rest = take (length part - length front) r in
    let same : part ≡ front ++ rest = front_in_part t part front r whole is (omega arith) in (
      d,
      n,
      rest,
      record { after = l.0 ++ rest; whole = same ∙ append_assoc d (32 ∷ l.0) rest; len = f.len; line = l.2 rest },
    )

-- a newline byte with one byte more after it shows where the line ends
pub newline_far : (k : Kind) (t part d n r : List ℕ) (len end : ℕ) → RecordLine k t d n r → part ≡ take (length part) t → len ≡ 2 * kind_len k → end + 1 < length (drop (len + 1) part) → ((get_or (drop (len + 1) part) end 0 == 10) || (get_or (drop (len + 1) part) end 0 == 13)) ≡ true → length d + length n + 3 ≤ length part
newline_far k t part d n r len end f is sized within newline = ⊎_elim
    (λ (short : length part < length d + length n + 3).
    let at : length d ≡ len = f.len ∙ sym sized in
    let size = length-drop (len + 1) part in
    let inside : end < length n = omega arith in
    let same : get_or (drop (len + 1) part) end 0 ≡ get_or n end 0 =
    get_or-drop (len + 1) part end 0 ∙ ap (λ p. get_or p (len + 1 + end) 0) is ∙ get_or-take (length part) t (len + 1 + end) 0 (omega arith)
    ∙ ap (λ u. get_or u (len + 1 + end) 0) f.whole ∙ ap (λ i. get_or (d ++ 32 ∷ f.after) i 0) (place at)
    ∙ get_or-append-add d (32 ∷ f.after) (1 + end) 0 ∙ behind ∙ ap (λ u. get_or u end 0) f.line.cut.whole ∙ get_or_append_left n f.line.after 0 end inside in
    let passes : in_record_line (get_or n end 0) ≡ true = f.line.cut.front_passes end 0 inside in
    let here : in_record_line (get_or (drop (len + 1) part) end 0) ≡ true = subst (λ (b : ℕ). in_record_line b ≡ true) (sym same) passes in
    let bad : not true ≡ true = ap not (sym newline) ∙ here in absurd (cc))
    (λ (far : length d + length n + 3 ≤ length part). far)
    (cases_lt (length part) (length d + length n + 3))
  where
    place : length d ≡ len → len + 1 + end ≡ length d + (1 + end)
    place at = omega arith

    behind : get_or (32 ∷ f.after) (1 + end) 0 ≡ get_or f.after end 0
    behind = ap (λ i. get_or (32 ∷ f.after) i 0) one_more
      where
        one_more : 1 + end ≡ suc end
        one_more = omega arith

-- a name in a part is in the text
pub name_wider : (k : Kind) (t part d n r : List ℕ) → RecordLine k part d n r → StopsAt is_caret part → part ≡ take (length part) t → NameAt k t n
name_wider k t part d n r f stops is =
    let l = line_front f.after n r f.line in
    let more = drop (length part) t in
    let whole : t ≡ part ++ more = sym (take-append-drop (length part) t) ∙ ap (λ u. u ++ more) (sym is) in (
      d,
      r ++ more,
      record {
        after = l.0 ++ (r ++ more);
        whole = whole ∙ ap (λ u. u ++ more) (f.whole ∙ ap (λ a. d ++ 32 ∷ a) l.1) ∙ regroup d l.0 r more;
        len = f.len;
        line = l.2 (r ++ more);
      },
      stops_wider t part is (let some = ap length f.whole ∙ length-append d (32 ∷ f.after) in omega arith) stops,
    )
  where
    regroup : (a b c e : List ℕ) → (a ++ 32 ∷ (b ++ c)) ++ e ≡ a ++ 32 ∷ (b ++ (c ++ e))
    regroup a b c e = simp append_assoc

-- ---- what is after a place of a window

pub part_is : (t w : List ℕ) (from s : ℕ) → IsWindow t from w → s ≤ length w → drop s w ≡ take (length (drop s w)) (drop (from + s) t)
part_is t w from s is low =
    let m = length w - s in
    let len : length (drop s w) ≡ m = length-drop s w in
    let split : length w ≡ s + m = omega arith in
    let both : drop s (drop from t) ≡ drop (from + s) t = drop-drop s from t ∙ ap (λ k. drop k t) (omega arith) in
    ap (drop s) is ∙ ap (λ k. drop s (take k (drop from t))) split ∙ drop-take s m (drop from t) ∙ ap (take m) both ∙ ap (λ k. take k (drop (from + s) t)) (sym len)

pub whole_part : (t w : List ℕ) (from s : ℕ) → IsWindow t from w → s ≤ length w → from + length w ≡ length t → drop s w ≡ drop (from + s) t
whole_part t w from s is low ends =
    let len = length-drop s w in
    let all = length-drop (from + s) t in
    part_is t w from s is low ∙ take_all (length (drop s w)) (drop (from + s) t) (omega arith)

pub same_line_in : (t w : List ℕ) (from at next : ℕ) → IsWindow t from w → next ≤ length w → SameLine w at next → SameLine t (from + at) (from + next)
same_line_in t w from at next is within line = λ i low high lf.
    let back : from + (i - from) ≡ i = omega arith in
    line (i - from) (omega arith) (omega arith) (byte_of t w from (i - from) is (omega arith) ∙ ap (λ j. get_or t j 0) back ∙ lf)

-- ---- records

pub reads_option : (o : Option (Bor (List ℕ))) (x : Option ObjectId) → ReadsIfAny o x → ReadsOption (option_map (λ (d : Bor (List ℕ)). d.now) o) x
reads_option None None h = tt
reads_option None (Some id) h = h
reads_option (Some d) None h = h
reads_option (Some d) (Some id) h = h

-- a record that ends before the part does is in the text
pub record_wider : (k : Kind) (t part : List ℕ) (r : Record) (rest : List ℕ) → Takes k part r rest → part ≡ take (length part) t → rest ≢ [] → (x : List ℕ) × Takes k t r x
record_wider k t part r rest f is some =
    let l = lines_taken k part r rest f in
    let more = drop (length part) t in
    let whole : t ≡ l.front ++ (rest ++ more) = sym (take-append-drop (length part) t) ∙ ap (λ u. u ++ more) (sym is ∙ l.whole) ∙ append_assoc l.front rest more in
    (rest ++ more, subst (λ (u : List ℕ). Takes k u r (rest ++ more)) (sym whole) (l.again (rest ++ more) (λ none. longer rest more some (stops_at r.object f.after rest none f.peeled))))
  where
    longer : (a b : List ℕ) → a ≢ [] → StopsAt is_caret a → StopsAt is_caret (a ++ b)
    longer [] b some stops = absurd (some refl)
    longer (x ∷ a) b some stops = stops

    stops_at : (o : Option (List ℕ)) (after rest : List ℕ) → o ≡ None → OptionalPeeledLine k after o rest → StopsAt is_caret rest
    stops_at None after rest none f = f.1
    stops_at (Some object) after rest none f = absurd (cc)
