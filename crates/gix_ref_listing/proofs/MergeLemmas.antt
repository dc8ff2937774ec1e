-- The first of what was found and of records, by the order of their names.
use Rattle.std.proofs.Common.{◌≡◌, List, [], ◌∷◌, refl, sym, ◌∙◌, ap, subst, Option, Some, None, Result, Ok, Err}
use Rattle.std.specs.Ordering.{match_ordering}
use Rattle.std.specs.declared.cmp.Ordering.{Ordering}
use Rattle.std.specs.declared.cmp.Ordering.TheVariants.{Less, Equal, Greater}
use Rattle.gix_ref_packed.specs.declared.packed.iter.Iter.{Iter}
use Rattle.gix_ref_packed.specs.declared.packed.iter.error.Error.{Error}
use Rattle.gix_ref_lookup.specs.declared.settings.Settings.{Settings}
use Rattle.gix_ref_listing.specs.Walks.{FoundEntry}
use Rattle.gix_ref_listing.specs.OwnRecords.{Own, own_of, own_records, AheadOf, AreAhead, TakesOwn}
use Rattle.gix_ref_listing.specs.Listings.{Listed, merged_listing, order_of, TakesFirst, TakesFound, TakesListed}
use Rattle.gix_ref_listing.specs.Listings.Listed.{Walked, InPacked}
use Rattle.gix_ref_listing.specs.declared.own_records.OwnRecord.{OwnRecord}
use Rattle.gix_ref_listing.specs.declared.own_records.OwnRecords.{OwnRecords}
use Rattle.gix_ref_listing.specs.declared.merge.Merge.{Merge}
use Rattle.gix_ref_listing.specs.declared.merge.Taken.{Taken}
use Rattle.gix_ref_listing.specs.declared.merge.Taken.TheVariants as taking

-- the orders of a pair of names
abbrev by_order : FoundEntry → List FoundEntry → Own → List Own → Ordering → List Listed
by_order e left own owns o = match_ordering o (Walked e ∷ merged_listing left (own ∷ owns)) (Walked e ∷ merged_listing left owns) (InPacked own ∷ merged_listing (e ∷ left) owns)

less_is : (settings : Settings) (es left : List FoundEntry) (e : FoundEntry) (first : Option (Result OwnRecord Error)) (records : Option Iter) (owns : List Own) → es ≡ e ∷ left → order_of es first ≡ Less →
    AheadOf settings first records owns → merged_listing es owns ≡ Walked e ∷ merged_listing left owns
less_is settings es left e None records owns is order none = ap (λ x. merged_listing x owns) is ∙ (ap (merged_listing (e ∷ left)) none ∙ ap (λ o. Walked e ∷ merged_listing left o) (sym none))
less_is settings es left e (Some (Ok own)) records owns is order (rs, yet, whole) =
    let below = subst (λ (x : List FoundEntry). order_of x (Some (Ok own)) ≡ Less) is order in
    ap (λ x. merged_listing x owns) is ∙ (ap (merged_listing (e ∷ left)) whole ∙ (ap (by_order e left (own_of own) (own_records settings rs)) below ∙ ap (λ o. Walked e ∷ merged_listing left o) (sym whole)))
less_is settings es left e (Some (Err error)) records owns is order ahead = absurd ahead

none_found : (es : List FoundEntry) (first : Option (Result OwnRecord Error)) (o : Ordering) → es ≡ [] → order_of es first ≡ o → Greater ≡ o
none_found es first o none order = sym (ap (λ x. order_of x first) none) ∙ order

-- what was found, where its first is taken
pub first_is_found : (found left : List FoundEntry) (taken : Option Taken) → TakesFirst found taken left → TakesFound found taken left
first_is_found found left None (none, empty) = empty ∙ sym none
first_is_found found left (Some (taking.Walked one)) takes = takes
first_is_found found left (Some (taking.Packed own)) takes = absurd takes

pub less_takes : (settings : Settings) (old new : Merge) (taken : Option Taken) (owns : List Own) → order_of old.found.entries old.packed.first ≡ Less → TakesFirst old.found.entries taken new.found.entries → new.packed ≡ old.packed →
    AreAhead settings old.packed owns → TakesListed settings (merged_listing old.found.entries owns) taken new
less_takes settings old new None owns order (none, left) same ahead = let bad = none_found old.found.entries old.packed.first Less none order in absurd (cc)
less_takes settings old new (Some (taking.Walked one)) owns order (e, is_one, is) same ahead =
    (e, is_one, owns, subst (λ (p : OwnRecords). AreAhead settings p owns) (sym same) ahead, less_is settings old.found.entries new.found.entries e old.packed.first old.packed.records owns is order ahead)
less_takes settings old new (Some (taking.Packed item)) owns order takes same ahead = absurd takes

-- the first record is passed over where its name was found
equal_is : (settings : Settings) (es left : List FoundEntry) (e : FoundEntry) (first item : Option (Result OwnRecord Error)) (records : Option Iter) (mid : OwnRecords) (owns : List Own) → es ≡ e ∷ left → order_of es first ≡ Equal →
    AheadOf settings first records owns → TakesOwn settings owns item mid → (more : List Own) × AreAhead settings mid more × (merged_listing es owns ≡ Walked e ∷ merged_listing left more)
equal_is settings es left e None item records mid owns is order none takes = let bad : Less ≡ Equal = sym (ap (λ x. order_of x None) is) ∙ order in absurd (cc)
equal_is settings es left e (Some (Err error)) item records mid owns is order ahead takes = absurd ahead
equal_is settings es left e (Some (Ok own)) None records mid owns is order (rs, yet, whole) takes = let bad = sym whole ∙ takes.0 in absurd (cc)
equal_is settings es left e (Some (Ok own)) (Some (Err error)) records mid owns is order ahead takes = absurd takes
equal_is settings es left e (Some (Ok own)) (Some (Ok taken)) records mid owns is order (rs, yet, whole) (more, took, rest) =
    let same = subst (λ (x : List FoundEntry). order_of x (Some (Ok own)) ≡ Equal) is order in
    let both : own_of own ∷ own_records settings rs ≡ own_of taken ∷ more = sym whole ∙ took in
    let later : own_records settings rs ≡ more = cc in (
      more,
      rest,
      ap (λ x. merged_listing x owns) is ∙ (ap (merged_listing (e ∷ left)) whole ∙ (ap (by_order e left (own_of own) (own_records settings rs)) same ∙ ap (λ o. Walked e ∷ merged_listing left o) later)),
    )

pub equal_takes : (settings : Settings) (old mid new : Merge) (item : Option (Result OwnRecord Error)) (taken : Option Taken) (owns : List Own) → order_of old.found.entries old.packed.first ≡ Equal → TakesOwn settings owns item mid.packed → mid.found ≡ old.found →
    TakesFirst mid.found.entries taken new.found.entries → new.packed ≡ mid.packed → AreAhead settings old.packed owns → TakesListed settings (merged_listing old.found.entries owns) taken new
equal_takes settings old mid new item None owns order took kept (none, left) same ahead = let bad = none_found old.found.entries old.packed.first Equal (ap (λ f. f.entries) (sym kept) ∙ none) order in absurd (cc)
equal_takes settings old mid new item (Some (taking.Packed other)) owns order took kept takes same ahead = absurd takes
equal_takes settings old mid new item (Some (taking.Walked one)) owns order took kept (e, is_one, is) same ahead =
    let step = equal_is settings old.found.entries new.found.entries e old.packed.first item old.packed.records mid.packed owns (ap (λ f. f.entries) (sym kept) ∙ is) order ahead took in
    (e, is_one, step.0, subst (λ (p : OwnRecords). AreAhead settings p step.0) (sym same) step.1, step.2)

-- what comes after all that was found, where no record is left
pub none_left : (es : List FoundEntry) (first : Option (Result OwnRecord Error)) → order_of es first ≡ Greater → first ≡ None → es ≡ []
none_left [] first order none = refl
none_left (e ∷ es) first order none = let bad : Less ≡ Greater = sym (ap (order_of (e ∷ es)) none) ∙ order in absurd (cc)
