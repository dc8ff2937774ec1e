-- A listing of a store.
use Rattle.std.proofs.Common.{◌≡◌, ℕ, List, [], ◌∷◌, sym, ◌∙◌, ap, is_some, Some}
use Rattle.gix_ref_files.proofs.Meeting.{no_fewer_starts, met_wider}
use Rattle.gix_ref_files.specs.Files.{FaultCounts, NoFewer}
use Rattle.std.specs.Map.{keys_of}
use Rattle.std.specs.List.{All, AllByRecursion}
use Rattle.std.specs.List.Sorted.{IsStrictlySortedBy}
use Rattle.std.specs.declared.cmp.Ordering.TheVariants.{Less}
use Rattle.std.proofs.lemmas.List.Elements.{All-head, All-tail}
use Rattle.gix_ref_target.specs.PackedRecords.{Record, record_named}
use Rattle.gix_ref_packed_text.specs.RecordGrammar.{Below, Ascending}
use Rattle.gix_ref_packed_text.specs.Prefixes.{records_prefixed}
use Rattle.gix_ref_theory.specs.Views.{View}
use Rattle.gix_ref_lookup.specs.declared.settings.Settings.{Settings}
use Rattle.gix_ref_listing.specs.declared.found.Found.TheVariants.{File, Unlisted}
use Rattle.gix_ref_listing.specs.Walks.{Holds, FoundEntry, IsFileOrMet}
use Rattle.gix_ref_listing.specs.OwnRecords.{Own, own_records}
use Rattle.gix_ref_listing.specs.Listings.{Listed, merged_listing}
use Rattle.gix_ref_listing.specs.Listings.Listed.{Walked, InPacked}
use Rattle.gix_ref_listing.specs.LooseListings.{IsFoundIn, IsLooseListed}
use Rattle.gix_ref_listing.specs.WholeListings.{IsListing, IsInStore, IsPackedListed, key_in, IsNameOrMet}
use Rattle.gix_ref_listing.proofs.WalkLemmas.{key_cmp}
use Rattle.gix_ref_listing.proofs.MergedListings.{FoundRises, all_merged, merged_rises, loose_merged, packed_merged}
use Rattle.gix_ref_listing.proofs.OwnListings.{prefixed_rise, prefixed_there, prefixed_are}
use Rattle.gix_ref_lookup.specs.Lookups.{Among}

-- the keys of a map ascend
pub found_rises : (es : List FoundEntry) → IsStrictlySortedBy key_cmp (keys_of es) → FoundRises es
unfolding IsStrictlySortedBy
found_rises [] sorted = _
found_rises (e ∷ es) (above, more) = (each es above, found_rises es more)
  where
    each : (fs : List FoundEntry) → AllByRecursion (λ y. key_cmp e.0 y ≡ Less) (keys_of fs) → AllByRecursion (λ (f : FoundEntry). Below e.0.items f.0.items) fs
    each [] all = _
    each (f ∷ fs) (here, later) = (here, each fs later)

pub by_recursion : {A : Type 0} (P : A → Type 0) (xs : List A) → All P xs → AllByRecursion P xs
by_recursion P [] all = _
by_recursion P (x ∷ xs) all = (All-head P x xs all, by_recursion P xs (All-tail P x xs all))

map_all : {A : Type 0} (P Q : A → Type 0) → ((x : A) → P x → Q x) → (xs : List A) → AllByRecursion P xs → AllByRecursion Q xs
map_all P Q f [] all = _
map_all P Q f (x ∷ xs) (here, more) = (f x here, map_all P Q f xs more)

module _ (settings : Settings) (view : View) (records held : List Record) (prefix : List ℕ) (up : Ascending held) (same : (name : List ℕ) → record_named name held ≡ record_named name records) (es : List FoundEntry) where
  to_held : (name : List ℕ) → IsPackedListed settings records prefix name → IsPackedListed settings held prefix name
  to_held name listed = record { valid = listed.valid; begins = listed.begins; own = listed.own; there = ap is_some (same (key_in settings name)) ∙ listed.there }

  of_held : (o : Own) → IsPackedListed settings held prefix o.name × (record_named (key_in settings o.name) held ≡ Some o.of) → IsInStore settings view records prefix (InPacked o)
  of_held o (listed, is) =
      (record { valid = listed.valid; begins = listed.begins; own = listed.own; there = sym (ap is_some (same (key_in settings o.name))) ∙ listed.there }, sym (same (key_in settings o.name)) ∙ is)

  -- what a walk found and the records with the prefix are the listing
  pub listing_is : FoundRises es → ((name : List ℕ) → IsLooseListed settings view prefix name → Among (Holds name) es) → All (IsFoundIn settings view prefix) es →
      IsListing settings view records prefix (merged_listing es (own_records settings (records_prefixed (key_in settings prefix) held)))
  listing_is rises finds found = record {
    ascending = merged_rises es (own_records settings (records_prefixed (key_in settings prefix) held)) rises (prefixed_rise settings held prefix up);
    loose = λ name listed. loose_merged name es (own_records settings (records_prefixed (key_in settings prefix) held)) (finds name listed);
    packed = λ name listed. packed_merged name es (own_records settings (records_prefixed (key_in settings prefix) held)) (prefixed_there settings held prefix up name (to_held name listed));
    only = all_merged (IsInStore settings view records prefix) es (own_records settings (records_prefixed (key_in settings prefix) held)) (by_recursion (IsFoundIn settings view prefix) es found)
        (map_all (λ (o : Own). IsPackedListed settings held prefix o.name × (record_named (key_in settings o.name) held ≡ Some o.of)) (λ o. IsInStore settings view records prefix (InPacked o)) of_held
        (own_records settings (records_prefixed (key_in settings prefix) held)) (prefixed_are settings held prefix up));
  }

module _ (before now : FaultCounts) where
  any_own : (owns : List Own) → AllByRecursion (λ (o : Own). IsNameOrMet before now (InPacked o)) owns
  any_own [] = _
  any_own (o ∷ owns) = (_, any_own owns)

  -- where what was found are files, or folders whose faults were counted, so are all that are listed
  pub all_names : (es : List FoundEntry) (owns : List Own) → All (IsFileOrMet before now) es → AllByRecursion (IsNameOrMet before now) (merged_listing es owns)
  all_names es owns files = all_merged (IsNameOrMet before now) es owns (by_recursion (IsFileOrMet before now) es files) (any_own owns)

-- and so over more calls
pub names_on : (a b c : FaultCounts) (listed : List Listed) → NoFewer b c → AllByRecursion (IsNameOrMet a b) listed → AllByRecursion (IsNameOrMet a c) listed
names_on a b c [] later all = tt
names_on a b c (one ∷ listed) later all = (by one all.0, names_on a b c listed later all.1)
  where
    by : (l : Listed) → IsNameOrMet a b l → IsNameOrMet a c l
    by (Walked (key, File name path)) is = tt
    by (Walked (key, Unlisted path error)) met = met_wider (no_fewer_starts a) later met
    by (InPacked own) is = tt
