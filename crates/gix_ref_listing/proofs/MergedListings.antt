-- Two ascending lists of names, merged.
use Rattle.std.proofs.Common.{◌≡◌, ◌⊎◌, inl, inr, ⊎_elim, ℕ, List, [], ◌∷◌, refl, sym, ◌∙◌, subst, map}
use Rattle.std.specs.List.{AllByRecursion}
use Rattle.std.specs.Ordering.{match_ordering, nat_cmp}
use Rattle.std.specs.Cmp.Lexicographic.{slice_cmp}
use Rattle.std.specs.declared.cmp.Ordering.{Ordering}
use Rattle.std.specs.declared.cmp.Ordering.TheVariants.{Less, Equal, Greater}
use Rattle.std.proofs.lemmas.Map.Lookups.{exact_bytes}
use Rattle.std.proofs.lemmas.Cmp.{nat_list_cmp_total}
use Rattle.gix_ref_packed_text.specs.RecordGrammar.{Below}
use Rattle.gix_ref_packed_text.proofs.Halves.{greater_is_below}
use Rattle.gix_ref_listing.specs.Walks.{Holds, FoundEntry}
use Rattle.gix_ref_listing.specs.OwnRecords.{Own}
use Rattle.gix_ref_listing.specs.Listings.{Listed, merged_listing, merged_entry}
use Rattle.gix_ref_listing.specs.Listings.Listed.{Walked, InPacked}
use Rattle.gix_ref_listing.specs.WholeListings.{listed_key, Rises, IsLooseOf, IsOf}
use Rattle.gix_ref_listing.proofs.WalkLemmas.{holds_key}
use Rattle.gix_ref_lookup.specs.Lookups.{Among}

-- ---- what all have

all_records : (R : Listed → Type 0) (owns : List Own) → AllByRecursion (λ o. R (InPacked o)) owns → AllByRecursion R (map InPacked owns)
all_records R [] all = all
all_records R (o ∷ owns) (here, more) = (here, all_records R owns more)

all_one : (R : Listed → Type 0) (e : FoundEntry) (more : List Own → List Listed) → R (Walked e) → ((owns : List Own) → AllByRecursion (λ o. R (InPacked o)) owns → AllByRecursion R (more owns)) →
    (owns : List Own) → AllByRecursion (λ o. R (InPacked o)) owns → AllByRecursion R (merged_entry e more owns)
all_one R e more here rest [] all = (here, rest [] all)
all_one R e more here rest (o ∷ owns) all = by (slice_cmp nat_cmp e.0.items o.name) (all_one R e more here rest owns all.1)
  where
    by : (x : Ordering) → AllByRecursion R (merged_entry e more owns) → AllByRecursion R (match_ordering x (Walked e ∷ more (o ∷ owns)) (Walked e ∷ more owns) (InPacked o ∷ merged_entry e more owns))
    by Less later = (here, rest (o ∷ owns) all)
    by Equal later = (here, rest owns all.1)
    by Greater later = (all.0, later)

pub all_merged : (R : Listed → Type 0) (es : List FoundEntry) (owns : List Own) → AllByRecursion (λ e. R (Walked e)) es → AllByRecursion (λ o. R (InPacked o)) owns → AllByRecursion R (merged_listing es owns)
all_merged R [] owns found all = all_records R owns all
all_merged R (e ∷ es) owns found all = all_one R e (merged_listing es) found.0 (λ os every. all_merged R es os found.1 every) owns all

-- ---- their order

-- each name is below those after it
abbrev pub FoundRises : List FoundEntry → Type 0
FoundRises [] = Unit {0}
FoundRises (e ∷ es) = AllByRecursion (λ (f : FoundEntry). Below e.0.items f.0.items) es × FoundRises es

abbrev pub OwnRises : List Own → Type 0
OwnRises [] = Unit {0}
OwnRises (o ∷ os) = AllByRecursion (λ (p : Own). Below o.name p.name) os × OwnRises os

map_all : {A : Type 0} (P Q : A → Type 0) → ((x : A) → P x → Q x) → (xs : List A) → AllByRecursion P xs → AllByRecursion Q xs
map_all P Q f [] all = all
map_all P Q f (x ∷ xs) (here, more) = (f x here, map_all P Q f xs more)

below_all : (low : List ℕ) (e : FoundEntry) (es : List FoundEntry) → Below low e.0.items → AllByRecursion (λ (f : FoundEntry). Below e.0.items f.0.items) es → AllByRecursion (λ (f : FoundEntry). Below low f.0.items) es
below_all low e es under all = map_all (λ (f : FoundEntry). Below e.0.items f.0.items) (λ (f : FoundEntry). Below low f.0.items) (λ f above. nat_list_cmp_total.trans low e.0.items f.0.items under above) es all

below_own : (low : List ℕ) (o : Own) (os : List Own) → Below low o.name → AllByRecursion (λ (p : Own). Below o.name p.name) os → AllByRecursion (λ (p : Own). Below low p.name) os
below_own low o os under all = map_all (λ (p : Own). Below o.name p.name) (λ (p : Own). Below low p.name) (λ p above. nat_list_cmp_total.trans low o.name p.name under above) os all

records_rise : (owns : List Own) → OwnRises owns → Rises (map InPacked owns)
records_rise [] rises = rises
records_rise (o ∷ owns) (above, more) = (all_records (λ l. Below o.name (listed_key l)) owns above, records_rise owns more)

one_rises : (e : FoundEntry) (es : List FoundEntry) → AllByRecursion (λ (f : FoundEntry). Below e.0.items f.0.items) es → ((owns : List Own) → OwnRises owns → Rises (merged_listing es owns)) → (owns : List Own) → OwnRises owns → Rises (merged_listing (e ∷ es) owns)
one_rises e es above rest [] rises = (all_merged (λ l. Below e.0.items (listed_key l)) es [] above rises, rest [] rises)
one_rises e es above rest (o ∷ owns) rises = by (slice_cmp nat_cmp e.0.items o.name) refl (one_rises e es above rest owns rises.1)
  where
    by : (x : Ordering) → slice_cmp nat_cmp e.0.items o.name ≡ x → Rises (merged_listing (e ∷ es) owns) → Rises (match_ordering x (Walked e ∷ merged_listing es (o ∷ owns)) (Walked e ∷ merged_listing es owns) (InPacked o ∷ merged_listing (e ∷ es) owns))
    by Less under later = (all_merged (λ l. Below e.0.items (listed_key l)) es (o ∷ owns) above (under, below_own e.0.items o owns under rises.0), rest (o ∷ owns) rises)
    by Equal same later =
        let is = exact_bytes e.0.items o.name same in
        (all_merged (λ l. Below e.0.items (listed_key l)) es owns above (subst (λ n. AllByRecursion (λ (p : Own). Below n p.name) owns) (sym is) rises.0), rest owns rises.1)
    by Greater over later =
        let under = greater_is_below e.0.items o.name over in
        (all_merged (λ l. Below o.name (listed_key l)) (e ∷ es) owns (under, below_all o.name e es under above) rises.0, later)

pub merged_rises : (es : List FoundEntry) (owns : List Own) → FoundRises es → OwnRises owns → Rises (merged_listing es owns)
merged_rises [] owns found rises = records_rise owns rises
merged_rises (e ∷ es) owns found rises = one_rises e es found.0 (λ os rise. merged_rises es os found.1 rise) owns rises

-- ---- what is in them

module _ (name : List ℕ) where
  one_loose : (e : FoundEntry) (more : List Own → List Listed) → Holds name e ⊎ ((owns : List Own) → Among (IsLooseOf name) (more owns)) → (owns : List Own) → Among (IsLooseOf name) (merged_entry e more owns)
  one_loose e more has [] = ⊎_elim (λ here. inl here) (λ later. inr (later [])) has
  one_loose e more has (o ∷ owns) = by (slice_cmp nat_cmp e.0.items o.name) (one_loose e more has owns)
    where
      by : (x : Ordering) → Among (IsLooseOf name) (merged_entry e more owns) → Among (IsLooseOf name) (match_ordering x (Walked e ∷ more (o ∷ owns)) (Walked e ∷ more owns) (InPacked o ∷ merged_entry e more owns))
      by Less after = ⊎_elim (λ here. inl here) (λ later. inr (later (o ∷ owns))) has
      by Equal after = ⊎_elim (λ here. inl here) (λ later. inr (later owns)) has
      by Greater after = inr after

  -- what was found is in the merged list
  pub loose_merged : (es : List FoundEntry) (owns : List Own) → Among (Holds name) es → Among (IsLooseOf name) (merged_listing es owns)
  loose_merged [] owns has = absurd has
  loose_merged (e ∷ es) owns has = one_loose e (merged_listing es) (⊎_elim (λ here. inl here) (λ later. inr (λ os. loose_merged es os later)) has) owns

  among_records : (owns : List Own) → Among (λ (o : Own). o.name ≡ name) owns → Among (IsOf name) (map InPacked owns)
  among_records [] has = absurd has
  among_records (o ∷ owns) has = ⊎_elim (λ here. inl here) (λ later. inr (among_records owns later)) has

  one_packed : (e : FoundEntry) (more : List Own → List Listed) → ((owns : List Own) → Among (λ (o : Own). o.name ≡ name) owns → Among (IsOf name) (more owns)) → (owns : List Own) → Among (λ (o : Own). o.name ≡ name) owns →
      Among (IsOf name) (merged_entry e more owns)
  one_packed e more rest [] has = absurd has
  one_packed e more rest (o ∷ owns) has = by (slice_cmp nat_cmp e.0.items o.name) refl (one_packed e more rest owns)
    where
      by : (x : Ordering) → slice_cmp nat_cmp e.0.items o.name ≡ x → (Among (λ (p : Own). p.name ≡ name) owns → Among (IsOf name) (merged_entry e more owns)) →
          Among (IsOf name) (match_ordering x (Walked e ∷ more (o ∷ owns)) (Walked e ∷ more owns) (InPacked o ∷ merged_entry e more owns))
      by Less under after = inr (rest (o ∷ owns) has)
      by Equal same after = ⊎_elim (λ here. inl (holds_key name e.0 e.1 (sym (exact_bytes e.0.items o.name same ∙ here)))) (λ later. inr (rest owns later)) has
      by Greater over after = ⊎_elim (λ here. inl here) (λ later. inr (after later)) has

  -- and so is each record, or what was found under its name
  pub packed_merged : (es : List FoundEntry) (owns : List Own) → Among (λ (o : Own). o.name ≡ name) owns → Among (IsOf name) (merged_listing es owns)
  packed_merged [] owns has = among_records owns has
  packed_merged (e ∷ es) owns has = one_packed e (merged_listing es) (λ os later. packed_merged es os later) owns has
