-- What a search among sorted records finds is the first record of the name in the order of their lines.
use Rattle.std.proofs.Common.{◌≡◌, inr, ⊎_elim, ℕ, ◌+◌, ◌-◌, ◌<◌, zero, suc, Bool, true, false, cond, nat_eq, List, [], ◌∷◌, length, drop, get_or, refl, sym, ◌∙◌, ap, subst, arith, Option, Some, None, IfSome, IfNone, Ok}
use Rattle.std.specs.List.{Contains}
use Rattle.std.specs.List.Sorted.{IsPermutation}
use Rattle.std.specs.Cmp.Lexicographic.{pointwise, bytes_decides}
use Rattle.std.proofs.lemmas.Bool.{cases_eq}
use Rattle.std.proofs.lemmas.List.{get_or-append-add, get_or_append_left}
use Rattle.std.proofs.lemmas.List.Sorted.{IsPermutation-map, IsPermutation-sym, Contains-permutation}
use Rattle.std.proofs.Math.Seq.{drop-append-add}
use Rattle.gix_ref_hash.specs.declared.hash.Kind.{Kind}
use Rattle.gix_ref_target.specs.PackedRecords.{Record, record_named}
use Rattle.gix_ref_packed_text.specs.declared.packed.window.Found.{Found}
use Rattle.gix_ref_packed_text.specs.OpenedText.{Piece, SortsText, records_in}
use Rattle.gix_ref_packed_text.specs.Positions.{NameAt, RecordBeginsLine, IsNotMalformed}
use Rattle.gix_ref_packed_text.specs.RecordGrammar.{Records, Forms, Ascending, Below, Takes}
use Rattle.gix_ref_packed_text.specs.Windows.{AreFound, HitsRecord}
use Rattle.gix_ref_packed_text.proofs.Halves.{not_itself}
use Rattle.gix_ref_packed_text.proofs.OneReading.{same_form, some_name}
use Rattle.gix_ref_packed_text.proofs.OutcomeLemmas.{ascending_pairs}
use Rattle.gix_ref_packed_text.proofs.ReadBack.{same_records}
use Rattle.gix_ref_packed_text.proofs.RecordPlaces.{parts_of, form_of, front_of, shorter}
use Rattle.gix_ref_packed.specs.FileSearches.{FindsInFile}
use Rattle.gix_ref_packed.specs.InOrder.{in_order}
use Rattle.gix_ref_packed.proofs.RecordsInOrder.{order_sorts}
use Rattle.gix_ref_packed.proofs.PrefixParts.{drop_zero}
use Rattle.gix_ref_packed.proofs.WellFormedLemmas.{distinct_counts, same_named}

-- each record of a text begins a line
record_at : (k : Kind) (t : List ℕ) (rs : List Record) → Records k t rs → (i : ℕ) (d : Record) → i < length rs → RecordBeginsLine k t (get_or rs i d)
record_at k t [] h i d within = absurd (omega arith)
record_at k t (r ∷ rs) h zero d within = record {
  start = 0;
  line = λ some. absurd (omega arith);
  rest = h.0;
  takes = subst (λ (u : List ℕ). Takes k u r h.0) (sym (drop_zero t)) h.1;
}
record_at k t (r ∷ rs) h (suc i) d within =
    let more = record_at k h.0 rs h.2 i d (omega arith) in
    let front = front_of t h.0 (parts_of k t r h.0 (form_of k t r h.0 h.1)) in
    let f = front.1 in
    let ends = f.ends.some in
    record {
      start = length front.0 + more.start;
      line = λ some. ⊎_elim
          (λ (first : more.start ≡ 0).
          let at : length front.0 + more.start - 1 ≡ length front.0 - 1 = omega arith in
          ap (λ j. get_or t j 0) at ∙ ap (λ u. get_or u (length front.0 - 1) 0) f.whole ∙ get_or_append_left front.0 h.0 0 (length front.0 - 1) (omega arith) ∙ f.ends.last)
          (λ (later : more.start ≡ 0 → ⊥).
          let at : length front.0 + more.start - 1 ≡ length front.0 + (more.start - 1) = omega arith in
          ap (λ j. get_or t j 0) at ∙ ap (λ u. get_or u (length front.0 + (more.start - 1)) 0) f.whole ∙ get_or-append-add front.0 h.0 (more.start - 1) 0 ∙ more.line (omega arith))
          (cases_eq more.start 0);
      rest = more.rest;
      takes = subst (λ (u : List ℕ). Takes k u (get_or rs i d) more.rest) (sym (drop-append-add front.0 h.0 more.start) ∙ ap (drop (length front.0 + more.start)) (sym f.whole)) more.takes;
    }

-- a text of records has a line of a record, or no byte
records_lines : (k : Kind) (t : List ℕ) (rs : List Record) → Records k t rs → IsNotMalformed k t
records_lines k t [] h some = let none : length t ≡ 0 = ap length h in absurd (omega arith)
records_lines k t (r ∷ rs) h some = record {
  start = 0;
  offset = 0;
  within = some;
  begins = record {
    line = 0;
    in_line = record { below = omega arith; begins = λ pos. absurd (omega arith); within = λ i low high. absurd (omega arith) };
    goes = inr (λ caret. refl, refl);
  };
  name = r.name;
  some = some_name r.name h.1.valid;
  named = subst (λ (u : List ℕ). NameAt k u r.name) (sym (drop_zero t)) (r.target, h.1.after, h.1.line, (form_of k t r h.0 h.1).no_caret);
}

-- the lines of a text of records have the form of no others
same_forms : (k : Kind) (t : List ℕ) (rs ss : List Record) → Records k t rs → Forms k t ss → rs ≡ ss
same_forms k t [] [] h g = refl
same_forms k t [] (s ∷ ss) h g =
    let less = shorter k t s g.0 g.1 in
    let none : length t ≡ 0 = ap length h in absurd (omega arith)
same_forms k t (r ∷ rs) [] h g =
    let less = shorter k t r h.0 (form_of k t r h.0 h.1) in
    let none : length t ≡ 0 = ap length g in absurd (omega arith)
same_forms k t (r ∷ rs) (s ∷ ss) h g =
    let same = same_form k t r h.0 s g.0 (form_of k t r h.0 h.1) g.1 in
    let more = same_forms k h.0 rs ss h.2 (subst (λ (u : List ℕ). Forms k u ss) (sym same.1) g.2) in cc

-- the record that is found by a name is one of the records, and has it
named_there : (n : List ℕ) (rs : List Record) (r : Record) → record_named n rs ≡ Some r → Contains rs r × (r.name ≡ n)
named_there n [] r is = absurd (cc)
named_there n (x ∷ rs) r is = go (pointwise nat_eq x.name n) refl is (named_there n rs r)
  where
    go : (b : Bool) → pointwise nat_eq x.name n ≡ b → cond b (Some x) (record_named n rs) ≡ Some r → (record_named n rs ≡ Some r → Contains rs r × (r.name ≡ n)) → Contains (x ∷ rs) r × (r.name ≡ n)
    go true e is more =
        let same : x ≡ r = cc (is) in
        ((0, omega arith, same), ap (λ (y : Record). y.name) (sym same) ∙ (bytes_decides x.name n).0 e)
    go false e is more =
        let there = more is in
        let within = there.0.1 in
        ((suc there.0.0, omega arith, there.0.2), there.1)

module _ (k : Kind) (t n : List ℕ) (rs : List Record) (h : Records k t rs) where
  sorts : SortsText k t (in_order k t)
  sorts = order_sorts k t rs h

  -- the records are the sorted ones in another order
  moved : IsPermutation rs (records_in sorts.new)
  moved = subst (λ (xs : List Record). IsPermutation xs (records_in sorts.new)) (same_records k t (records_in sorts.old) rs sorts.before h) (IsPermutation-map (λ (p : Piece). p.said) sorts.old sorts.new sorts.sorts.moved)

  -- where the sorted names are distinct, a name has one record
  named_once : (ss : List Record) → records_in sorts.new ≡ ss → Ascending ss → record_named n rs ≡ record_named n ss
  named_once ss is up = same_named n ss rs
      (IsPermutation-sym rs ss (subst (IsPermutation rs) is moved))
      (distinct_counts n ss (λ i j d low high same. not_itself (get_or ss i d).name (subst (λ (m : List ℕ). Below (get_or ss i d).name m) (sym same) (ascending_pairs ss up i j d low high))))

  hit : (found : Option Found) → AreFound (record_named n rs) found → IfSome found (HitsRecord k (in_order k t) n)
  hit None is = tt
  hit (Some f) is = at (record_named n rs) refl is
    where
      at : (o : Option Record) → record_named n rs ≡ o → AreFound o (Some f) → HitsRecord k (in_order k t) n f
      at None e bad = absurd bad
      at (Some r) e ids =
          let there = named_there n rs r e in
          let held = Contains-permutation rs (records_in sorts.new) r moved there.0 in
          record {
            record_there = r;
            named = there.1;
            begins = subst (RecordBeginsLine k (in_order k t)) held.2 (record_at k (in_order k t) (records_in sorts.new) sorts.after held.0 r held.1);
            ids = ids;
          }

  none : (found : Option Found) → IfNone found (IsNotMalformed k (in_order k t))
  none None = records_lines k (in_order k t) (records_in sorts.new) sorts.after
  none (Some f) = tt

  -- what is found of the first record of the name, in the order of the lines
  pub found_in_order : (found : Option Found) → AreFound (record_named n rs) found → FindsInFile k (in_order k t) n (Ok found)
  found_in_order found is = record {
    hit = hit found is;
    none = none found;
    refused = tt;
    records = λ ss g up. subst (λ (o : Option Record). AreFound o found) (named_once ss (same_records k (in_order k t) (records_in sorts.new) ss sorts.after g) up) is;
    forms = λ ss g up. subst (λ (o : Option Record). AreFound o found) (named_once ss (same_forms k (in_order k t) (records_in sorts.new) ss sorts.after g) up) is;
  }
