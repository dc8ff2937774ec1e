-- What a search in memory returns, by where it ended.
use Rattle.std.proofs.Common.{◌≡◌, ℕ, List, drop, inl, inr, sym, subst, Some, None, Ok, Err}
use Rattle.gix_ref_hash.specs.declared.hash.Kind.{Kind}
use Rattle.gix_ref_packed_text.specs.declared.packed.reference.Reference.{Reference}
use Rattle.gix_ref_packed.specs.declared.packed.find.ParseError.{ParseError}
use Rattle.gix_ref_packed_text.specs.declared.packed.search.SearchError.{SearchError}
use Rattle.gix_ref_packed_text.specs.declared.packed.search.SearchError.TheVariants.{Read, Parse}
use Rattle.gix_ref_target.specs.PackedRecords.{Record, record_named}
use Rattle.gix_ref_packed_text.specs.RecordGrammar.{Takes, NoRecord, Forms, Ascending}
use Rattle.gix_ref_packed_text.specs.Positions.{HitsAt, FindsAt, IsMalformed, IsNotMalformed, IsUnreadable}
use Rattle.gix_ref_packed_text.specs.SearchCosts.{FailsBy}
use Rattle.gix_ref_packed_text.specs.Views.{record_of}
use Rattle.gix_ref_packed.specs.Searches.{Finds}
use Rattle.gix_ref_packed_text.proofs.RecordPlaces.{forms_of}
use Rattle.gix_ref_packed_text.proofs.Halves.{hit_named, found_read, not_malformed}
use Rattle.gix_ref_packed.proofs.FileSearchLemmas.{read_form, records_readable}

module _ (k : Kind) (t n : List ℕ) where
  pub none_in_memory : IsNotMalformed k t → ((rs : List Record) → Forms k t rs → Ascending rs → record_named n rs ≡ None) → Finds {E = ParseError} k t n (Ok None)
  none_in_memory line none = record { hit = tt; none = line; refused = tt; records = λ rs h up. sym (none rs (forms_of k t rs h) up); forms = λ rs h up. sym (none rs h up) }

  pub malformed_in_memory : {E : Type 0} (error : SearchError E) → FailsBy (λ (e : E). ⊥) (IsMalformed k t) error → {e : ParseError} → Finds k t n (Err e)
  malformed_in_memory (Read error) fails = absurd fails
  malformed_in_memory Parse bad = record {
    hit = tt;
    none = tt;
    refused = inl bad;
    records = λ rs h up. not_malformed k t rs bad (forms_of k t rs h);
    forms = λ rs h up. absurd (not_malformed k t rs bad h);
  }

  module _ (s : ℕ) (hit : HitsAt k t n s) (finds : (rs : List Record) → Forms k t rs → Ascending rs → FindsAt k t rs n s) where
    pub found_in_memory : (r : Reference) (rest : List ℕ) → Takes k (drop s t) (record_of r) rest → Finds {E = ParseError} k t n (Ok (Some r))
    found_in_memory r rest takes = record {
      hit = (hit_named k t n s (record_of r) rest hit takes, record { start = s; line = hit.line; rest = rest; takes = takes });
      none = tt;
      refused = tt;
      records = λ rs h up. found_read k t rs n s (record_of r) rest (finds rs (forms_of k t rs h) up) takes;
      forms = λ rs h up. found_read k t rs n s (record_of r) rest (finds rs h up) takes;
    }

    bad_named : NoRecord k (drop s t) → (rs : List Record) → Forms k t rs → Ascending rs → IsUnreadable k (record_named n rs)
    bad_named none rs h up =
        let found = finds rs h up in
        subst (IsUnreadable k) (sym found.is) (λ readable. none found.found found.rest (read_form k (drop s t) found.found found.rest readable found.takes))

    pub bad_in_memory : NoRecord k (drop s t) → {e : ParseError} → Finds k t n (Err e)
    bad_in_memory none = record {
      hit = tt;
      none = tt;
      refused = inr (record { start = s; hit = hit; bad = none });
      records = λ rs h up. records_readable k t rs h n (bad_named none rs (forms_of k t rs h) up);
      forms = bad_named none;
    }
