-- Where the records of a text begin, and the record that a byte is in.
use Rattle.std.proofs.Common.{◌≡◌, ◌≢◌, ◌⊎◌, inl, inr, ⊎_elim, ℕ, ◌*◌, ◌+◌, ◌-◌, ◌<◌, ◌≤◌, ◌==◌, ◌||◌, get_or, Bool, true, false, not, List, [], ◌∷◌, ◌++◌, length, drop, refl, sym, ◌∙◌, ap, subst, arith, Option, Some, None, append_assoc, length-append, eq-eqb, eqb-true, ne_eqb, zero, suc}
use Rattle.std.specs.List.{All, AllPass}
use Rattle.std.proofs.lemmas.Bool.{cases_eq, cases_lt}
use Rattle.std.proofs.lemmas.List.{get_or-append-add, get_or_append_left}
use Rattle.std.proofs.lemmas.List.Elements.{All-append}
use Rattle.std.proofs.Math.Seq.{get_or-append_seam, drop-append-add}
use Rattle.hex.specs.Hex.{is_hex_digit}
use Rattle.gix_ref_hash.specs.declared.hash.Kind.{Kind}
use Rattle.gix_ref_hash.specs.declared.hash.Kind.TheVariants as kinds
use Rattle.gix_ref_hash.specs.Ids.{kind_len, IsHexOf}
use Rattle.gix_ref_hash.specs.Bytes.{StopsAt}
use Rattle.gix_ref_target.specs.PackedRecords.{Record}
use Rattle.gix_ref_packed_text.specs.RecordGrammar.{Newline, Line, OptionalPeeledLine, PeeledForm, Takes, TakesForm, Records, Forms, in_record_line, is_caret}
use Rattle.gix_ref_packed_text.specs.Positions.{LineOf, RecordOf, BeginsLine}
use Rattle.gix_ref_packed_text.proofs.OneReading.{some_name as some_full_name}

-- no byte is a LF
abbrev pub NoLf : List ℕ → Type 0
NoLf = All (λ b. b ≢ 10)

-- the last byte is a LF
pub record EndsLf (front : List ℕ) : Type 0 where
  pub some : 0 < length front
  pub last : get_or front (length front - 1) 0 ≡ 10

-- the lines of one record
pub record Parts (text rest : List ℕ) : Type 0 where
  pub first : List ℕ
  pub second : List ℕ
  pub first_line : NoLf first
  pub whole : text ≡ (first ++ 10 ∷ []) ++ (second ++ rest)
  pub second_line : (second ≡ []) ⊎ ((body : List ℕ) × NoLf (94 ∷ body) × (second ≡ (94 ∷ body) ++ 10 ∷ []))

pub ends_lf : (l : List ℕ) → EndsLf (l ++ 10 ∷ [])
ends_lf l =
    let len : length (l ++ 10 ∷ []) ≡ length l + 1 = length-append l (10 ∷ []) in
    let at : length (l ++ 10 ∷ []) - 1 ≡ length l = omega arith in
    record { some = omega arith; last = ap (λ i. get_or (l ++ 10 ∷ []) i 0) at ∙ get_or-append_seam l 10 [] 0 }

pub hex_no_lf : (d : List ℕ) (k : Kind) → IsHexOf k d → NoLf d
hex_no_lf d k h i x lt same =
    let hex : is_hex_digit (get_or d i x) ≡ true = h.digits i x lt in
    let bad : is_hex_digit 10 ≡ true = subst (λ (b : ℕ). is_hex_digit b ≡ true) same hex in cc

pub line_no_lf : (l : List ℕ) → All (λ b. in_record_line b ≡ true) l → NoLf l
line_no_lf l passes i x lt same =
    let bad : in_record_line 10 ≡ true = subst (λ (b : ℕ). in_record_line b ≡ true) same (passes i x lt) in cc

pub one_no_lf : (b : ℕ) → (b == 10) ≡ false → NoLf (b ∷ [])
one_no_lf b other zero x lt same = let e : (b == 10) ≡ true = eq-eqb b 10 same in cc
one_no_lf b other (suc i) x lt same = let len : length (b ∷ []) ≡ 1 = refl in absurd (omega arith)

-- up to the LF of a line
pub to_lf : (after line rest : List ℕ) → Line after line rest → (l : List ℕ) × NoLf l × (after ≡ l ++ 10 ∷ rest)
to_lf after line rest f = ⊎_elim
    (λ (lf : f.after ≡ 10 ∷ rest). (line, line_no_lf line f.cut.front_passes, f.cut.whole ∙ ap (λ r. line ++ r) lf))
    (λ (crlf : f.after ≡ 13 ∷ 10 ∷ rest). (line ++ 13 ∷ [], All-append (λ b. b ≢ 10) line (13 ∷ []) (line_no_lf line f.cut.front_passes) (one_no_lf 13 refl), f.cut.whole ∙ ap (λ r. line ++ r) crlf ∙ sym (append_assoc line (13 ∷ []) (10 ∷ rest))))
    f.newline

second_of : (after : List ℕ) (o : Option (List ℕ)) (rest : List ℕ) → PeeledForm after o rest
    → (second : List ℕ) × (after ≡ second ++ rest) × ((second ≡ []) ⊎ ((body : List ℕ) × NoLf (94 ∷ body) × (second ≡ (94 ∷ body) ++ 10 ∷ [])))
second_of after None rest f = ([], f.0, inl refl)
second_of after (Some object) rest f =
    let body = to_lf f.0 object rest f.2 in
    ((94 ∷ body.0) ++ 10 ∷ [], f.1 ∙ ap (λ r. 94 ∷ r) (body.2 ∙ sym (append_assoc body.0 (10 ∷ []) rest)), inr (body.0, All-append (λ b. b ≢ 10) (94 ∷ []) body.0 (one_no_lf 94 refl) body.1, refl))

pub parts_of : (k : Kind) (text : List ℕ) (r : Record) (rest : List ℕ) → TakesForm k text r rest → Parts text rest
parts_of k text r rest f =
    let line = to_lf f.line.after r.name f.after f.line.line in
    let second = second_of f.after r.object rest f.peeled in
    record {
      first = r.target ++ ((32 ∷ []) ++ line.0);
      second = second.0;
      first_line = All-append (λ b. b ≢ 10) r.target ((32 ∷ []) ++ line.0) f.one_line (All-append (λ b. b ≢ 10) (32 ∷ []) line.0 (one_no_lf 32 refl) line.1);
      whole = f.line.whole ∙ ap (λ a. r.target ++ 32 ∷ a) (line.2 ∙ ap (λ a. line.0 ++ 10 ∷ a) second.1) ∙ regroup r.target line.0 (second.0 ++ rest);
      second_line = second.2;
    }
  where
    regroup : (a b c : List ℕ) → a ++ 32 ∷ (b ++ 10 ∷ c) ≡ ((a ++ ((32 ∷ []) ++ b)) ++ 10 ∷ []) ++ c
    regroup a b c = sym (simp append_assoc)

-- ---- lines

-- a byte of the first line
pub in_first : (text l rest : List ℕ) (s o : ℕ) → NoLf l → text ≡ l ++ rest → LineOf text s o → o ≤ length l → s ≡ 0
in_first text l rest s o none whole at within = ⊎_elim (λ (same : s ≡ 0). same)
    (λ (other : s ≡ 0 → ⊥).
    let below = at.below in
    let some : 0 < s = omega arith in
    let inside : s - 1 < length l = omega arith in
    let lf : get_or text (s - 1) 0 ≡ 10 = at.begins some in
    absurd (none (s - 1) 0 inside (sym (get_or_append_left l rest 0 (s - 1) inside) ∙ ap (λ t. get_or t (s - 1) 0) (sym whole) ∙ lf)))
    (cases_eq s 0)

-- a byte past a front that ends in LF
pub past : (text front rest : List ℕ) (s o n : ℕ) → EndsLf front → text ≡ front ++ rest → LineOf text s o → o ≡ length front + n → (m : ℕ) × (s ≡ length front + m) × LineOf rest m n
past text front rest s o n ends whole at is =
    let some = ends.some in let below = at.below in
    let far : length front ≤ s = ⊎_elim
    (λ (early : s < length front).
    let last : length front - 1 < length front = omega arith in
    absurd (at.within (length front - 1) (omega arith) (omega arith) (ap (λ t. get_or t (length front - 1) 0) whole ∙ get_or_append_left front rest 0 (length front - 1) last ∙ ends.last)))
    (λ (late : length front ≤ s). late) (cases_lt s (length front)) in
    let split : s ≡ length front + (s - length front) = omega arith in (
      s - length front,
      split,
      record {
        below = omega arith;
        begins = λ pos.
            let up : length front + (s - length front - 1) ≡ s - 1 = omega arith in
            sym (moved (s - length front - 1)) ∙ ap (λ i. get_or text i 0) up ∙ at.begins (omega arith);
        within = λ i low high lf. at.within (length front + i) (omega arith) (omega arith) (moved i ∙ lf);
      },
    )
  where
    moved : (i : ℕ) → get_or text (length front + i) 0 ≡ get_or rest i 0
    moved i = ap (λ t. get_or t (length front + i) 0) whole ∙ get_or-append-add front rest i 0

-- ---- records

some_digits : (k : Kind) (n : ℕ) → n ≡ 2 * kind_len k → 0 < n
some_digits kinds.Sha1 n e = omega arith
some_digits kinds.Sha256 n e = omega arith

hex_in_line : (d : List ℕ) (k : Kind) → IsHexOf k d → AllPass in_record_line d
hex_in_line d k h i x lt = go (get_or d i x) (h.digits i x lt)
  where
    go : (b : ℕ) → is_hex_digit b ≡ true → in_record_line b ≡ true
    go b hex = ⊎_elim
        (λ (lf : b ≡ 10). let bad : is_hex_digit 10 ≡ true = subst (λ (x : ℕ). is_hex_digit x ≡ true) lf hex in absurd (cc))
        (λ (not_lf : b ≡ 10 → ⊥). ⊎_elim
        (λ (cr : b ≡ 13). let bad : is_hex_digit 13 ≡ true = subst (λ (x : ℕ). is_hex_digit x ≡ true) cr hex in absurd (cc))
        (λ (not_cr : b ≡ 13 → ⊥). neither (b == 10) (b == 13) (λ e. not_lf (eqb-true b 10 e)) (λ e. not_cr (eqb-true b 13 e)))
        (cases_eq b 13))
        (cases_eq b 10)
      where
        neither : (x y : Bool) → (x ≡ true → ⊥) → (y ≡ true → ⊥) → not (x || y) ≡ true
        neither true y p q = absurd (p refl)
        neither false true p q = absurd (q refl)
        neither false false p q = refl

newline_stops : (a rest : List ℕ) → Newline a rest → StopsAt in_record_line a
newline_stops a rest (inl lf) = subst (StopsAt in_record_line) (sym lf) refl
newline_stops a rest (inr crlf) = subst (StopsAt in_record_line) (sym crlf) refl

peeled_form : (k : Kind) (after : List ℕ) (o : Option (List ℕ)) (rest : List ℕ) → OptionalPeeledLine k after o rest → PeeledForm after o rest
peeled_form k after None rest f = f
peeled_form k after (Some object) rest f = (
  object ++ f.after,
  f.whole,
  record {
    after = f.after;
    cut = record { whole = refl; front_passes = hex_in_line object k f.id; stops = newline_stops f.after rest f.newline };
    newline = f.newline;
  },
)

digit_first : (k : Kind) (d t : List ℕ) → IsHexOf k d → StopsAt is_caret (d ++ t)
digit_first k [] t h = let len : 0 ≡ 2 * kind_len k = h.len in let some = some_digits k 0 len in absurd (omega arith)
digit_first k (b ∷ d) t h = ⊎_elim
    (λ (same : b ≡ 94). let bad : is_hex_digit 94 ≡ true = subst (λ (x : ℕ). is_hex_digit x ≡ true) same (h.digits 0 0 (omega arith)) in absurd (cc))
    (λ (other : b ≡ 94 → ⊥). ne_eqb b 94 other) (cases_eq b 94)

-- a record has the form of one
pub form_of : (k : Kind) (text : List ℕ) (r : Record) (rest : List ℕ) → Takes k text r rest → TakesForm k text r rest
form_of k text r rest f = record {
  after = f.after;
  line = f.line;
  no_caret = subst (StopsAt is_caret) (sym f.line.whole) (digit_first k r.target (32 ∷ f.line.after) f.id);
  one_line = hex_no_lf r.target k f.id;
  some_name = some_full_name r.name f.valid;
  peeled = peeled_form k f.after r.object rest f.peeled;
}

abbrev pub forms_of : (k : Kind) (text : List ℕ) (rs : List Record) → Records k text rs → Forms k text rs
forms_of k text [] h = h
forms_of k text (r ∷ rs) h = (h.0, form_of k text r h.0 h.1, forms_of k h.0 rs h.2)

-- the record of the list begins at the byte
abbrev pub Begins : (k : Kind) (text : List ℕ) (rs : List Record) → Forms k text rs → ℕ → Record → Type 0
Begins k text [] h p r = ⊥
Begins k text (x ∷ xs) h p r = ((p ≡ 0) × (r ≡ x)) ⊎ ((q : ℕ) × (p + length h.0 ≡ length text + q) × Begins k h.0 xs h.2 q r)

pub no_caret_first : (t : List ℕ) → StopsAt is_caret t → get_or t 0 0 ≢ 94
no_caret_first [] stops caret = let zero : 0 ≡ 94 = caret in absurd (omega arith)
no_caret_first (b ∷ t) stops caret = let bad : (b == 94) ≡ true = eq-eqb b 94 caret in let no : (b == 94) ≡ false = stops in cc

-- no record begins with `^`
pub no_caret_at : (k : Kind) (text : List ℕ) (rs : List Record) → Forms k text rs → get_or text 0 0 ≢ 94
no_caret_at k text [] h caret =
    let none : get_or text 0 0 ≡ 0 = ap (λ t. get_or t 0 0) h in
    let bad : (94 == 0) ≡ true = subst (λ (b : ℕ). (b == 0) ≡ true) (sym none ∙ caret) refl in absurd (cc)
no_caret_at k text (r ∷ rs) h caret = no_caret_first text h.1.no_caret caret

-- what a byte's record is, where the first record ends in `front`
pub record Front (text front rest : List ℕ) : Type 0 where
  pub whole : text ≡ front ++ rest
  pub ends : EndsLf front
  pub start : (s o : ℕ) → o < length front → RecordOf text s o → s ≡ 0

pub front_of : (text rest : List ℕ) → Parts text rest → (front : List ℕ) × Front text front rest
front_of text rest p = ⊎_elim
    (λ (none : p.second ≡ []).
    let whole : text ≡ (p.first ++ 10 ∷ []) ++ rest = p.whole ∙ ap (λ s. (p.first ++ 10 ∷ []) ++ (s ++ rest)) none in (
      p.first ++ 10 ∷ [],
      record {
        whole = whole;
        ends = ends_lf p.first;
        start = λ s o within at.
            let len = length-append p.first (10 ∷ []) in
            one p.first rest s o (omega arith) p.first_line (whole ∙ append_assoc p.first (10 ∷ []) rest) at;
      },
    ))
    (λ (two : (body : List ℕ) × NoLf (94 ∷ body) × (p.second ≡ (94 ∷ body) ++ 10 ∷ [])).
    let b = 94 ∷ two.0 in
    let whole : text ≡ (p.first ++ 10 ∷ []) ++ ((b ++ 10 ∷ []) ++ rest) = p.whole ∙ ap (λ s. (p.first ++ 10 ∷ []) ++ (s ++ rest)) two.2 in
    let one_line = ends_lf p.first in
    let two_line = ends_lf b in (
      (p.first ++ 10 ∷ []) ++ (b ++ 10 ∷ []),
      record {
        whole = whole ∙ sym (append_assoc (p.first ++ 10 ∷ []) (b ++ 10 ∷ []) rest);
        ends = both (p.first ++ 10 ∷ []) (b ++ 10 ∷ []) two_line;
        start = λ s o within at.
            let len = length-append p.first (10 ∷ []) in
            let len_b = length-append b (10 ∷ []) in
            let len_all = length-append (p.first ++ 10 ∷ []) (b ++ 10 ∷ []) in
            ⊎_elim
            (λ (early : o < length (p.first ++ 10 ∷ [])). one p.first ((b ++ 10 ∷ []) ++ rest) s o (omega arith) p.first_line (whole ∙ append_assoc p.first (10 ∷ []) ((b ++ 10 ∷ []) ++ rest)) at)
            (λ (late : length (p.first ++ 10 ∷ []) ≤ o). second_start p.first b rest s o p.first_line two.1 refl whole at late (omega arith))
            (cases_lt o (length (p.first ++ 10 ∷ [])));
      },
    ))
    p.second_line
  where
    one : (l rest : List ℕ) (s o : ℕ) → o ≤ length l → NoLf l → text ≡ l ++ 10 ∷ rest → RecordOf text s o → s ≡ 0
    one l rest s o within none whole at =
        let line : at.line ≡ 0 = in_first text l (10 ∷ rest) at.line o none whole at.in_line within in
        ⊎_elim (λ (goes : (get_or text at.line 0 ≡ 94) × (0 < at.line) × LineOf text s (at.line - 1)). let pos = goes.1 in absurd (omega arith))
        (λ (stays : (get_or text at.line 0 ≡ 94 → at.line ≡ 0) × (s ≡ at.line)). stays.1 ∙ line) at.goes

    both : (a b : List ℕ) → EndsLf b → EndsLf (a ++ b)
    both a b e =
        let some = e.some in
        let len = length-append a b in
        let at : length (a ++ b) - 1 ≡ length a + (length b - 1) = omega arith in
        record { some = omega arith; last = ap (λ i. get_or (a ++ b) i 0) at ∙ get_or-append-add a b (length b - 1) 0 ∙ e.last }

    no_first : (b : List ℕ) → length b ≤ 0 → get_or b 0 0 ≡ 94 → ⊥
    no_first [] empty caret = let bad : (94 == 0) ≡ true = subst (λ (b : ℕ). (b == 0) ≡ true) caret refl in cc
    no_first (x ∷ b) empty caret = omega arith

    second_start : (l b rest : List ℕ) (s o : ℕ) → NoLf l → NoLf b → get_or b 0 0 ≡ 94 → text ≡ (l ++ 10 ∷ []) ++ ((b ++ 10 ∷ []) ++ rest) → RecordOf text s o → length (l ++ 10 ∷ []) ≤ o → o ≤ length (l ++ 10 ∷ []) + length b → s ≡ 0
    second_start l b rest s o none none_b caret whole at late within =
        let far : o ≡ length (l ++ 10 ∷ []) + (o - length (l ++ 10 ∷ [])) = omega arith in
        let line = past text (l ++ 10 ∷ []) ((b ++ 10 ∷ []) ++ rest) at.line o (o - length (l ++ 10 ∷ [])) (ends_lf l) whole at.in_line far in
        let first : line.0 ≡ 0 = in_first ((b ++ 10 ∷ []) ++ rest) b (10 ∷ rest) line.0 (o - length (l ++ 10 ∷ [])) none_b (append_assoc b (10 ∷ []) rest) line.2 (omega arith) in
        let split = line.1 in
        let len = length-append l (10 ∷ []) in
        ⊎_elim
        (λ (goes : (get_or text at.line 0 ≡ 94) × (0 < at.line) × LineOf text s (at.line - 1)).
        in_first text l (10 ∷ ((b ++ 10 ∷ []) ++ rest)) s (at.line - 1) none (whole ∙ append_assoc l (10 ∷ []) ((b ++ 10 ∷ []) ++ rest)) goes.2 (omega arith))
        (λ (stays : (get_or text at.line 0 ≡ 94 → at.line ≡ 0) × (s ≡ at.line)).
        ⊎_elim
        (λ (some : 0 < length b).
        let here : get_or text at.line 0 ≡ 94 =
        ap (λ i. get_or text i 0) (split ∙ ap (λ n. length (l ++ 10 ∷ []) + n) first) ∙ ap (λ t. get_or t (length (l ++ 10 ∷ []) + 0) 0) whole
        ∙ get_or-append-add (l ++ 10 ∷ []) ((b ++ 10 ∷ []) ++ rest) 0 0 ∙ ap (λ t. get_or t 0 0) (append_assoc b (10 ∷ []) rest) ∙ get_or_append_left b (10 ∷ rest) 0 0 some ∙ caret in
        let no = stays.0 here in absurd (omega arith))
        (λ (empty : length b ≤ 0). absurd (no_first b empty caret))
        (cases_lt 0 (length b)))
        at.goes

-- past the first record, a byte is in a record of the rest
pub later_record : (text front rest : List ℕ) (s o n : ℕ) → Front text front rest → get_or rest 0 0 ≢ 94 → RecordOf text s o → o ≡ length front + n → (m : ℕ) × (s ≡ length front + m) × RecordOf rest m n
later_record text front rest s o n f plain at is =
    let line = past text front rest at.line o n f.ends f.whole at.in_line is in
    let split = line.1 in
    let some = f.ends.some in
    let moved : get_or text at.line 0 ≡ get_or rest line.0 0 =
    ap (λ i. get_or text i 0) split ∙ ap (λ t. get_or t (length front + line.0) 0) f.whole ∙ get_or-append-add front rest line.0 0 in
    ⊎_elim
    (λ (goes : (get_or text at.line 0 ≡ 94) × (0 < at.line) × LineOf text s (at.line - 1)).
    ⊎_elim
    (λ (first : line.0 ≡ 0). absurd (plain (ap (λ i. get_or rest i 0) (sym first) ∙ sym moved ∙ goes.0)))
    (λ (more : line.0 ≡ 0 → ⊥).
    let before : at.line - 1 ≡ length front + (line.0 - 1) = omega arith in
    let start = past text front rest s (at.line - 1) (line.0 - 1) f.ends f.whole goes.2 before in
    (start.0, start.1, record { line = line.0; in_line = line.2; goes = inl (sym moved ∙ goes.0, omega arith, start.2) }))
    (cases_eq line.0 0))
    (λ (stays : (get_or text at.line 0 ≡ 94 → at.line ≡ 0) × (s ≡ at.line)).
    (line.0, stays.1 ∙ split, record { line = line.0; in_line = line.2; goes = inr (λ caret. let first = stays.0 (moved ∙ caret) in omega arith, refl) }))
    at.goes

-- the record that a byte is in
pub record Owned (k : Kind) (text : List ℕ) (rs : List Record) (h : Forms k text rs) (s o : ℕ) : Type 0 where
  pub owner : Record
  pub begins : Begins k text rs h s owner
  pub others : (q : ℕ) (y : Record) → Begins k text rs h q y → (q ≤ s) ⊎ (o < q)
  pub rest : List ℕ
  pub takes : TakesForm k (drop s text) owner rest

pub owned : (k : Kind) (text : List ℕ) (rs : List Record) (h : Forms k text rs) (s o : ℕ) → o < length text → RecordOf text s o → Owned k text rs h s o
owned k text [] h s o within at = let len : length text ≡ 0 = ap length h in absurd (omega arith)
owned k text (r ∷ rs) h s o within at =
    let rest = h.0 in
    let front = front_of text rest (parts_of k text r rest h.1) in
    let f = front.1 in
    let len : length text ≡ length front.0 + length rest = ap length f.whole ∙ length-append front.0 rest in
    ⊎_elim
    (λ (early : o < length front.0).
    let first : s ≡ 0 = f.start s o early at in
    record {
      owner = r;
      begins = inl (first, refl);
      others = λ q y b. ⊎_elim
          (λ (here : (q ≡ 0) × (y ≡ r)). inl (let e = here.0 in omega arith))
          (λ (there : (p : ℕ) × (q + length rest ≡ length text + p) × Begins k rest rs h.2 p y). inr (let e = there.1 in omega arith)) b;
      rest = rest;
      takes = subst (λ (i : ℕ). TakesForm k (drop i text) r rest) (sym first) h.1;
    })
    (λ (late : length front.0 ≤ o).
    let is : o ≡ length front.0 + (o - length front.0) = omega arith in
    let next = later_record text front.0 rest s o (o - length front.0) f (no_caret_at k rest rs h.2) at is in
    let split = next.1 in
    let more = owned k rest rs h.2 next.0 (o - length front.0) (omega arith) next.2 in
    let dropped : drop next.0 rest ≡ drop s text = sym (drop-append-add front.0 rest next.0) ∙ ap (λ t. drop (length front.0 + next.0) t) (sym f.whole) ∙ ap (λ i. drop i text) (sym split) in
    record {
      owner = more.owner;
      begins = inr (next.0, omega arith, more.begins);
      others = λ q y b. ⊎_elim
          (λ (here : (q ≡ 0) × (y ≡ r)). inl (let e = here.0 in omega arith))
          (λ (there : (p : ℕ) × (q + length rest ≡ length text + p) × Begins k rest rs h.2 p y).
          let e = there.1 in
          ⊎_elim (λ (low : there.0 ≤ next.0). inl (omega arith)) (λ (high : o - length front.0 < there.0). inr (omega arith)) (more.others there.0 y there.2)) b;
      rest = more.rest;
      takes = subst (λ (t : List ℕ). TakesForm k t more.owner more.rest) dropped more.takes;
    })
    (cases_lt o (length front.0))

pub shorter : (k : Kind) (text : List ℕ) (r : Record) (rest : List ℕ) → TakesForm k text r rest → length rest < length text
shorter k text r rest takes =
    let front = front_of text rest (parts_of k text r rest takes) in
    let some = front.1.ends.some in
    let len : length text ≡ length front.0 + length rest = ap length front.1.whole ∙ length-append front.0 rest in omega arith

-- a record begins a line
pub begins_a_line : (k : Kind) (text : List ℕ) (rs : List Record) (h : Forms k text rs) (p : ℕ) (r : Record) → Begins k text rs h p r → BeginsLine text p
begins_a_line k text [] h p r b some = absurd b
begins_a_line k text (x ∷ xs) h p r b some =
    let rest = h.0 in
    let front = front_of text rest (parts_of k text x rest h.1) in
    let f = front.1 in
    let len : length text ≡ length front.0 + length rest = ap length f.whole ∙ length-append front.0 rest in
    let ends = f.ends.some in
    ⊎_elim
    (λ (here : (p ≡ 0) × (r ≡ x)). let e = here.0 in absurd (omega arith))
    (λ (there : (q : ℕ) × (p + length rest ≡ length text + q) × Begins k rest xs h.2 q r).
    let e = there.1 in
    let split : p ≡ length front.0 + there.0 = omega arith in
    ⊎_elim
    (λ (first : there.0 ≡ 0).
    let at : p - 1 ≡ length front.0 - 1 = omega arith in
    ap (λ i. get_or text i 0) at ∙ ap (λ t. get_or t (length front.0 - 1) 0) f.whole ∙ get_or_append_left front.0 rest 0 (length front.0 - 1) (omega arith) ∙ f.ends.last)
    (λ (later : there.0 ≡ 0 → ⊥).
    let at : p - 1 ≡ length front.0 + (there.0 - 1) = omega arith in
    ap (λ i. get_or text i 0) at ∙ ap (λ t. get_or t (length front.0 + (there.0 - 1)) 0) f.whole ∙ get_or-append-add front.0 rest (there.0 - 1) 0
    ∙ begins_a_line k rest xs h.2 there.0 r there.2 (omega arith))
    (cases_eq there.0 0)) b

pub shorter_record : (k : Kind) (text : List ℕ) (r : Record) (rest : List ℕ) → Takes k text r rest → length rest < length text
shorter_record k text r rest takes = shorter k text r rest (form_of k text r rest takes)
