-- A record's bytes are those of the record whatever follows them; records at the front of a text.
use Rattle.std.proofs.Common.{◌≡◌, ◌≢◌, false, inl, inr, ℕ, ◌*◌, ◌+◌, ◌-◌, ◌<◌, ◌≤◌, get_or, List, [], ◌∷◌, ◌++◌, length, take, drop, refl, sym, ◌∙◌, ap, subst, arith, Option, Some, None, append_assoc, length-append, ne_eqb, codes, lit≤}
use Rattle.std.proofs.lemmas.List.{take_at, drop_at}
use Rattle.std.proofs.lemmas.List.Sums.{sum_by-append}
use Rattle.gix_ref_hash.specs.declared.hash.Kind.{Kind}
use Rattle.gix_ref_hash.specs.declared.hash.Kind.TheVariants as kinds
use Rattle.gix_ref_hash.specs.Ids.{kind_len}
use Rattle.gix_ref_hash.specs.Bytes.{StopsAt}
use Rattle.gix_ref_target.specs.PackedRecords.{Record}
use Rattle.gix_ref_packed_text.specs.RecordGrammar.{Newline, Line, OptionalPeeledLine, Takes, NoRecord, Records, in_record_line, is_caret}
use Rattle.gix_ref_packed_text.specs.declared.packed.decode.options.Header.{Header}
use Rattle.gix_ref_packed_text.specs.HeaderGrammar.{TakesHeader}
use Rattle.gix_ref_packed_text.specs.OpenedText.{Fronts, lines_with, lines_of, line_count}
use Rattle.gix_ref_packed_text.proofs.OneReading.{same_record}
use Rattle.gix_ref_packed_text.proofs.RecordPlaces.{no_caret_at, forms_of, shorter_record as shorter}

newline_end : (a rest : List ℕ) → Newline a rest → (e : List ℕ) × (a ≡ e ++ rest) × ((x : List ℕ) → Newline (e ++ x) x) × (length e ≤ 2)
newline_end a rest (inl lf) = (10 ∷ [], lf, λ x. inl refl, lit≤ tt)
newline_end a rest (inr crlf) = (13 ∷ 10 ∷ [], crlf, λ x. inr refl, lit≤ tt)

newline_stops : (a rest : List ℕ) → Newline a rest → StopsAt in_record_line a
newline_stops a rest (inl lf) = subst (StopsAt in_record_line) (sym lf) refl
newline_stops a rest (inr crlf) = subst (StopsAt in_record_line) (sym crlf) refl

pub line_front : (after name rest : List ℕ) → Line after name rest → (l : List ℕ) × (after ≡ l ++ rest) × ((x : List ℕ) → Line (l ++ x) name x) × (length l ≤ length name + 2)
line_front after name rest f =
    let e = newline_end f.after rest f.newline in
    let few = e.3 in
    let len = length-append name e.0 in (
      name ++ e.0,
      f.cut.whole ∙ ap (λ a. name ++ a) e.1 ∙ sym (append_assoc name e.0 rest),
      λ x. record {
        after = e.0 ++ x;
        cut = record { whole = append_assoc name e.0 x; front_passes = f.cut.front_passes; stops = newline_stops (e.0 ++ x) x (e.2 x) };
        newline = e.2 x;
      },
      omega arith,
    )

peeled_front : (k : Kind) (after : List ℕ) (o : Option (List ℕ)) (rest : List ℕ) → OptionalPeeledLine k after o rest → (second : List ℕ) × (after ≡ second ++ rest) × ((x : List ℕ) → (o ≡ None → StopsAt is_caret x) → OptionalPeeledLine k (second ++ x) o x)
peeled_front k after None rest f = ([], f.0, λ x stops. (refl, stops refl))
peeled_front k after (Some object) rest f =
    let e = newline_end f.after rest f.newline in (
      94 ∷ (object ++ e.0),
      f.whole ∙ ap (λ a. 94 ∷ a) (ap (λ a. object ++ a) e.1 ∙ sym (append_assoc object e.0 rest)),
      λ x stops. record { after = e.0 ++ x; whole = ap (λ a. 94 ∷ a) (append_assoc object e.0 x); id = f.id; newline = e.2 x },
    )

-- the bytes of a record
pub record Lines (k : Kind) (t : List ℕ) (r : Record) (rest : List ℕ) : Type 0 where
  pub front : List ℕ
  pub whole : t ≡ front ++ rest
  pub some : 2 ≤ length front
  pub again : (x : List ℕ) → (r.object ≡ None → StopsAt is_caret x) → Takes k (front ++ x) r x

pub two_digits : (k : Kind) (n : ℕ) → n ≡ 2 * kind_len k → 2 ≤ n
two_digits kinds.Sha1 n e = omega arith
two_digits kinds.Sha256 n e = omega arith

pub lines_taken : (k : Kind) (t : List ℕ) (r : Record) (rest : List ℕ) → Takes k t r rest → Lines k t r rest
lines_taken k t r rest f =
    let l = line_front f.line.after r.name f.after f.line.line in
    let p = peeled_front k f.after r.object rest f.peeled in
    record {
      front = r.target ++ 32 ∷ (l.0 ++ p.0);
      whole = f.line.whole ∙ ap (λ a. r.target ++ 32 ∷ a) (l.1 ∙ ap (λ a. l.0 ++ a) p.1) ∙ sym (regroup r.target l.0 p.0 rest);
      some =
          let digits = two_digits k (length r.target) f.line.len in
          let len = length-append r.target (32 ∷ (l.0 ++ p.0)) in omega arith;
      again = λ x stops. record {
        after = p.0 ++ x;
        line = record { after = l.0 ++ (p.0 ++ x); whole = regroup r.target l.0 p.0 x; len = f.line.len; line = l.2 (p.0 ++ x) };
        id = f.id;
        valid = f.valid;
        peeled = p.2 x stops;
      };
    }
  where
    regroup : (a b c d : List ℕ) → (a ++ 32 ∷ (b ++ c)) ++ d ≡ a ++ 32 ∷ (b ++ (c ++ d))
    regroup a b c d = simp append_assoc

-- what is before the rest
pub front_is : (t front rest : List ℕ) (n : ℕ) → t ≡ front ++ rest → n + length rest ≡ length t → take n t ≡ front
front_is t front rest n whole len =
    let both : length t ≡ length front + length rest = ap length whole ∙ length-append front rest in
    let same : length front ≡ n = omega arith in
    ap (take n) whole ∙ take_at front rest n same

pub rest_is : (t front rest : List ℕ) (n : ℕ) → t ≡ front ++ rest → n + length rest ≡ length t → drop n t ≡ rest
rest_is t front rest n whole len =
    let both : length t ≡ length front + length rest = ap length whole ∙ length-append front rest in
    let same : length front ≡ n = omega arith in
    ap (drop n) whole ∙ drop_at front rest n same

pub few_lines : (r : Record) → lines_of r ≤ 2
few_lines r = go r.object
  where
    go : (o : Option (List ℕ)) → lines_with o ≤ 2
    go None = omega arith
    go (Some object) = omega arith

pub lines_fit : (k : Kind) (t : List ℕ) (r : Record) (rest : List ℕ) → Takes k t r rest → lines_of r + length rest ≤ length t
lines_fit k t r rest f =
    let l = lines_taken k t r rest f in
    let len : length t ≡ length l.front + length rest = ap length l.whole ∙ length-append l.front rest in
    let some = l.some in
    let few = few_lines r in omega arith

-- no record begins with `^`, nor do records
pub no_caret_in : (t : List ℕ) → get_or t 0 0 ≢ 94 → StopsAt is_caret t
no_caret_in [] none = tt
no_caret_in (b ∷ t) none = ne_eqb b 94 none

pub records_stop : (k : Kind) (t : List ℕ) (rs : List Record) → Records k t rs → StopsAt is_caret t
records_stop k t rs h = no_caret_in t (no_caret_at k t rs (forms_of k t rs h))

-- ---- records at the front of a text

pub fronts_more : (k : Kind) (t : List ℕ) (rs : List Record) (mid : List ℕ) (r : Record) (rest : List ℕ) → Fronts k t rs mid → Takes k mid r rest → Fronts k t (rs ++ r ∷ []) rest
fronts_more k t [] mid r rest h takes = (rest, subst (λ (u : List ℕ). Takes k u r rest) (sym h) takes, refl)
fronts_more k t (x ∷ rs) mid r rest h takes = (h.0, h.1, fronts_more k h.0 rs mid r rest h.2 takes)

pub fronts_all : (k : Kind) (t : List ℕ) (rs : List Record) (rest : List ℕ) → rest ≡ [] → Fronts k t rs rest → Records k t rs
fronts_all k t [] rest none h = h ∙ none
fronts_all k t (r ∷ rs) rest none h = (h.0, h.1, fronts_all k h.0 rs rest none h.2)

pub lines_more : (rs : List Record) (r : Record) → line_count (rs ++ r ∷ []) ≡ line_count rs + lines_of r
lines_more rs r = let sum = sum_by-append lines_of rs (r ∷ []) in omega arith

-- a text that is all records has no bad line
pub not_stuck : (k : Kind) (t : List ℕ) (before : List Record) (rest : List ℕ) (rs : List Record) → Fronts k t before rest → rest ≢ [] → NoRecord k rest → Records k t rs → ⊥
not_stuck k t [] rest [] fronts some bad h = some (sym fronts ∙ h)
not_stuck k t [] rest (r ∷ rs) fronts some bad h = bad r h.0 (subst (λ (u : List ℕ). Takes k u r h.0) fronts h.1)
not_stuck k t (x ∷ before) rest [] fronts some bad h =
    let less = shorter k t x fronts.0 fronts.1 in
    let none : length t ≡ 0 = ap length h in omega arith
not_stuck k t (x ∷ before) rest (r ∷ rs) fronts some bad h =
    let same = same_record k t r h.0 x fronts.0 h.1 fronts.1 in
    not_stuck k fronts.0 before rest rs fronts.2 some bad (subst (λ (u : List ℕ). Records k u rs) same.1 h.2)

-- ---- what follows a header

pub heads_at : (t : List ℕ) (h : Header) (rest : List ℕ) → TakesHeader t h rest → TakesHeader t h (drop (length t - length rest) t)
heads_at t h rest f =
    let l = line_front f.after f.line rest f.is_line in
    let front = codes "# pack-refs with: " ++ l.0 in
    let whole : t ≡ front ++ rest = f.whole ∙ ap (λ a. codes "# pack-refs with: " ++ a) l.1 ∙ sym (append_assoc (codes "# pack-refs with: ") l.0 rest) in
    let both : length t ≡ length front + length rest = ap length whole ∙ length-append front rest in
    subst (λ (r : List ℕ). TakesHeader t h r) (sym (rest_is t front rest (length t - length rest) whole (omega arith))) f

-- a text begins as a part of it that is not empty
pub stops_wider : (t part : List ℕ) → part ≡ take (length part) t → 0 < length part → StopsAt is_caret part → StopsAt is_caret t
stops_wider t [] is some stops = absurd (omega arith)
stops_wider [] (b ∷ part) is some stops = tt
stops_wider (c ∷ t) (b ∷ part) is some stops = let same : b ≡ c = cc (is) in subst (λ x. is_caret x ≡ false) same stops
