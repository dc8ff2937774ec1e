-- A record that is lent in the place of an item.
use Rattle.std.proofs.Common.{◌≡◌, inl, ℕ, List, refl, sym, ap, subst, Option, Some, None, Ok}
use Rattle.gix_ref_files.proofs.Meeting.{no_fewer_starts}
use Rattle.std.specs.Prelude.{IfSome}
use denote.Ref.{MutBor}
use Rattle.gix_ref_files.specs.Files.{Meaning, FaultCounts}
use Rattle.gix_ref_files.proofs.Moments.{starts, passes_starts}
use Rattle.gix_ref_packed_text.specs.declared.raw.Reference.{Reference}
use Rattle.gix_ref_listing.specs.Items.{IsOfRecord}
use Rattle.gix_ref_listing.specs.Listings.Listed.{InPacked}
use Rattle.gix_ref_listing.specs.OwedNames.{OwesNames, with_name}
use Rattle.gix_ref_listing.specs.OwnRecords.{own_of}
use Rattle.gix_ref_listing.specs.Steps.{GivesNext, GivesRecord}
use Rattle.gix_ref_listing.specs.declared.merge.Merge.{Merge}
use Rattle.gix_ref_listing.specs.declared.own_records.OwnRecord.{OwnRecord}
use Rattle.gix_ref_lookup.specs.declared.settings.Settings.{Settings}
use Rattle.gix_ref_store.specs.Store as stores
use Rattle.gix_ref_store.specs.Lookup.{settings_of}
use Rattle.gix_ref_store.specs.Listings.{LendsNext}
use Rattle.gix_ref_store.specs.declared.file.store.Store.{Store}
use Rattle.gix_ref_store.specs.declared.file.iter.LooseThenPacked.{LooseThenPacked}
use Rattle.gix_ref_store.specs.declared.file.iter.Remaining.{Remaining}

module _ {F : Type 0} (honest : Type 0) (means : F → Meaning) (faults : F → FaultCounts) where
  -- files that nothing was asked of, and an item in the place of a record
  given : (files : F) (settings : Settings) (s t : Merge) (own : OwnRecord) (r : Reference) → GivesRecord settings s t own → IsOfRecord (own_of own) r → GivesNext honest means faults settings files files s (Some (Ok r)) t
  given files settings s t own r gave is = record {
    gives = λ listed yet. let first = gave.gives listed yet in (InPacked (own_of own), first.0, first.1, first.2, (is, gave.allowed));
    pays = λ text given owes.
        let paid = gave.pays text given owes in
        (subst (λ (n : List ℕ). OwesNames settings text (with_name n given) t) (sym is.0) paid.1, λ same. (own_of own, paid.0, (is, gave.allowed)));
    found = inl gave.found;
    rises = no_fewer_starts (faults files);
    counts = refl;
    leaves = λ h. starts (means files) _ refl;
    passes = λ h. passes_starts (means files) _ refl;
    ends = λ none. absurd (cc);
    stays_ended = λ drained. absurd (gave.goes_on drained);
  }

  of_one : (s t : LooseThenPacked F Remaining) (own : OwnRecord) → t.store ≡ s.store → GivesRecord (settings_of s.store.now) s.rest.merge t.rest.merge own → LendsNext honest means faults s t own
  of_one s t own same gave = record {
    gives = gave;
    next = λ r is. record {
      same_reference = ap (λ (x : MutBor (Store F)). x.ghost_name) same;
      same_store = subst (λ (x : MutBor (Store F)). stores.IsSameStore s.store.now x.now) (sym same)
          record { dirs = refl; namespace = refl; of_kind = refl; reflogs = refl; composes = refl; prohibits = refl; threshold = refl };
      gives = subst (λ (x : MutBor (Store F)). GivesNext honest means faults (settings_of s.store.now) (stores.files_of s.store.now) (stores.files_of x.now) s.rest.merge (Some (Ok r)) t.rest.merge) (sym same)
          (given (stores.files_of s.store.now) (settings_of s.store.now) s.rest.merge t.rest.merge own r gave is);
    };
  }

  -- what lends a record of a listing lends one of its iterator
  pub lends : (s t : LooseThenPacked F Remaining) (result : Option OwnRecord) → t.store ≡ s.store → IfSome result (GivesRecord (settings_of s.store.now) s.rest.merge t.rest.merge) → IfSome result (LendsNext honest means faults s t)
  lends s t None same gave = _
  lends s t (Some own) same gave = of_one s t own same gave
