-- A record that a search found, read at its place.
use Rattle.std.proofs.Common.{◌≡◌, ℕ, List, [], ◌∷◌, Bool, true, false, cond, nat_eq, drop, inl, inr, sym, ◌∙◌, ap, subst, Option, Some, None, Ok, Err}
use Rattle.std.specs.Cmp.Lexicographic.{pointwise}
use Rattle.gix_ref_hash.specs.declared.hash.Kind.{Kind}
use Rattle.gix_ref_packed_text.specs.declared.packed.window.Found.{Found}
use Rattle.gix_ref_target.specs.PackedRecords.{Record, record_named}
use Rattle.gix_ref_packed_text.specs.RecordGrammar.{Takes, NoRecord, TakesForm, Records, Forms, Ascending, OptionalPeeledLine, PeeledForm}
use Rattle.gix_ref_packed_text.specs.Positions.{HitsAt, FindsAt, IsUnreadable, IsReadable, IsObject, IsDamaged, IsMalformed, IsNotMalformed}
use Rattle.gix_ref_packed.specs.declared.packed.sorted_file.FindError.TheVariants.{Parse}
use Rattle.gix_ref_packed.specs.FileSearches.{FindsInFile}
use Rattle.gix_ref_packed_text.specs.Windows.{IsFound, AreFound, FrontIs, HitsRecord}
use Rattle.gix_ref_packed_text.proofs.OneReading.{same_form}
use Rattle.gix_ref_packed_text.proofs.RecordPlaces.{form_of, forms_of}
use Rattle.gix_ref_packed_text.proofs.Halves.{hit_named, not_malformed}

peeled_of : (k : Kind) (t : List ℕ) (o : Option (List ℕ)) (rest : List ℕ) → IsObject k o → PeeledForm t o rest → OptionalPeeledLine k t o rest
peeled_of k t None rest id f = f
peeled_of k t (Some object) rest id f =
    record { after = f.2.after; whole = f.1 ∙ ap (λ a. 94 ∷ a) f.2.cut.whole; id = id; newline = f.2.newline }

-- lines of the form whose ids and name can be read are a record
pub read_form : (k : Kind) (t : List ℕ) (r : Record) (rest : List ℕ) → IsReadable k r → TakesForm k t r rest → Takes k t r rest
read_form k t r rest readable f = record {
  after = f.after;
  line = f.line;
  id = readable.target;
  valid = readable.name;
  peeled = peeled_of k f.after r.object rest readable.object f.peeled;
}

object_of : (k : Kind) (t : List ℕ) (o : Option (List ℕ)) (rest : List ℕ) → OptionalPeeledLine k t o rest → IsObject k o
object_of k t None rest f = tt
object_of k t (Some object) rest f = f.id

pub readable : (k : Kind) (t : List ℕ) (r : Record) (rest : List ℕ) → Takes k t r rest → IsReadable k r
readable k t r rest f = record { name = f.valid; target = f.id; object = object_of k f.after r.object rest f.peeled }

-- each record of a text can be read
pub records_readable : (k : Kind) (t : List ℕ) (rs : List Record) → Records k t rs → (n : List ℕ) → IsUnreadable k (record_named n rs) → ⊥
records_readable k t [] h n bad = bad
records_readable k t (r ∷ rs) h n bad = go (pointwise nat_eq r.name n) (records_readable k h.0 rs h.2 n) bad
  where
    go : (b : Bool) → (IsUnreadable k (record_named n rs) → ⊥) → IsUnreadable k (cond b (Some r) (record_named n rs)) → ⊥
    go true more bad = bad (readable k t r h.0 h.1)
    go false more bad = more bad

module _ (k : Kind) (t u wanted n : List ℕ) (s : ℕ) (same : u ≡ t) (named : wanted ≡ n) where
  here : (f : Found) → FrontIs k (drop s u) (Some f) → (r : Record) × (rest : List ℕ) × Takes k (drop s t) r rest × IsFound r f
  here f front = (front.0, front.1, subst (λ (x : List ℕ). Takes k (drop s x) front.0 front.1) same front.2, front.3)

  pub found_hits : (f : Found) → HitsAt k t wanted s → FrontIs k (drop s u) (Some f) → HitsRecord k t n f
  found_hits f hit front =
      let at = here f front in
      record {
        record_there = at.0;
        named = hit_named k t wanted s at.0 at.1 hit at.2 ∙ named;
        begins = record { start = s; line = hit.line; rest = at.1; takes = at.2 };
        ids = at.3;
      }

  pub found_is : (rs : List Record) (f : Found) → FindsAt k t rs wanted s → FrontIs k (drop s u) (Some f) → AreFound (record_named n rs) (Some f)
  found_is rs f found front =
      let at = here f front in
      let one = (same_form k (drop s t) at.0 at.1 found.found found.rest (form_of k (drop s t) at.0 at.1 at.2) found.takes).0 in
      let is : record_named n rs ≡ Some at.0 = ap (λ x. record_named x rs) (sym named) ∙ found.is ∙ ap (λ r. Some r) (sym one) in
      subst (λ (o : Option Record). AreFound o (Some f)) (sym is) at.3

  pub found_bad : (rs : List Record) → FindsAt k t rs wanted s → FrontIs k (drop s u) None → IsUnreadable k (record_named n rs)
  found_bad rs found front =
      let is : record_named n rs ≡ Some found.found = ap (λ x. record_named x rs) (sym named) ∙ found.is in
      subst (IsUnreadable k) (sym is) (λ readable. front found.found found.rest (subst (λ (x : List ℕ). Takes k (drop s x) found.found found.rest) (sym same) (read_form k (drop s t) found.found found.rest readable found.takes)))

  pub found_damaged : HitsAt k t wanted s → FrontIs k (drop s u) None → IsDamaged k t n
  found_damaged hit front = record {
    start = s;
    hit = subst (λ (x : List ℕ). HitsAt k t x s) named hit;
    bad = subst (λ (x : List ℕ). NoRecord k (drop s x)) same front;
  }

  pub found_finds : (f : Found) → HitsAt k t wanted s → ((rs : List Record) → Forms k t rs → Ascending rs → FindsAt k t rs wanted s) → FrontIs k (drop s u) (Some f) → FindsInFile k t n (Ok (Some f))
  found_finds f hit finds front = record {
    hit = found_hits f hit front;
    none = tt;
    refused = tt;
    records = λ rs h up. found_is rs f (finds rs (forms_of k t rs h) up) front;
    forms = λ rs h up. found_is rs f (finds rs h up) front;
  }

  pub bad_finds : HitsAt k t wanted s → ((rs : List Record) → Forms k t rs → Ascending rs → FindsAt k t rs wanted s) → FrontIs k (drop s u) None → FindsInFile k t n (Err Parse)
  bad_finds hit finds front = record {
    hit = tt;
    none = tt;
    refused = inr (found_damaged hit front);
    records = λ rs h up. absurd (records_readable k t rs h n (found_bad rs (finds rs (forms_of k t rs h) up) front));
    forms = λ rs h up. found_bad rs (finds rs h up) front;
  }

module _ (k : Kind) (t wanted n : List ℕ) (named : wanted ≡ n) where
  pub none_finds : IsNotMalformed k t → ((rs : List Record) → Forms k t rs → Ascending rs → record_named wanted rs ≡ None) → FindsInFile k t n (Ok None)
  none_finds line none = record { hit = tt; none = line; refused = tt; records = λ rs h up. there rs (forms_of k t rs h) up; forms = there }
    where
      there : (rs : List Record) → Forms k t rs → Ascending rs → AreFound (record_named n rs) None
      there rs h up =
          let is : record_named n rs ≡ None = ap (λ x. record_named x rs) (sym named) ∙ none rs h up in
          subst (λ (o : Option Record). AreFound o None) (sym is) tt

pub malformed_finds : (k : Kind) (t n : List ℕ) → IsMalformed k t → FindsInFile k t n (Err Parse)
malformed_finds k t n bad = record {
  hit = tt;
  none = tt;
  refused = inl bad;
  records = λ rs h up. absurd (not_malformed k t rs bad (forms_of k t rs h));
  forms = λ rs h up. absurd (not_malformed k t rs bad h);
}
