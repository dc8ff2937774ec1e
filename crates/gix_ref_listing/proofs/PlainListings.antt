-- Where settings lie does not matter to a listing.
use Rattle.std.proofs.Common.{◌≡◌, inl, inr, ℕ, List, [], ◌∷◌, refl, sym, ◌∙◌, ap, subst, Option, Some, None, Result, Ok, Err}
use Rattle.std.specs.List.{All}
use Rattle.std.specs.Prelude.{IfSome, IfNone, slice_index_or}
use Rattle.gix_ref_target.specs.PackedRecords.{Record}
use Rattle.gix_ref_files.specs.Files.{Meaning, FaultCounts}
use Rattle.gix_ref_packed.specs.declared.packed.iter.error.Error.{Error as LineError}
use Rattle.gix_ref_packed_text.specs.declared.raw.Reference.{Reference}
use Rattle.gix_ref_theory.specs.OnRealTrees.{view_of}
use Rattle.gix_ref_theory.specs.Views.{View}
use Rattle.gix_ref_lookup.specs.Lookups.{meaning_in}
use Rattle.gix_ref_lookup.specs.declared.settings.Settings.{Settings}
use Rattle.gix_ref_listing.specs.PlainSettings.{plain}
use Rattle.gix_ref_listing.specs.Walks.{FoundEntry}
use Rattle.gix_ref_name.specs.Names.{full_ref_bytes}
use Rattle.gix_ref_packed.specs.declared.packed.iter.Iter.{Iter}
use Rattle.gix_ref_listing.specs.OwedNames.{AreAllGiven, Given, OwesOthers, OwesAfter, OwesNames, PaysItem, given_with, with_name}
use Rattle.gix_ref_listing.specs.PackedTexts.{Text, IsRecordOf, IsTextItem}
use Rattle.gix_ref_listing.specs.OwnRecords.{Own, own_of, own_name, own_records, with_own, AheadOf, AreAhead}
use Rattle.gix_ref_listing.specs.Listings.{Listed, merged_listing, TakesRecord, IsNotLent}
use Rattle.gix_ref_listing.specs.Listings.Listed.{Walked, InPacked}
use Rattle.gix_ref_listing.specs.LooseListings.{IsLooseListed, IsFoundIn}
use Rattle.gix_ref_listing.specs.GoneFiles.{IsGivenItem}
use Rattle.gix_ref_listing.specs.Items.{IsAllowed}
use Rattle.gix_ref_listing.specs.Steps.{AreYet, GivesFound, GivesItem, GivesRecord, IsDrained}
use Rattle.gix_ref_listing.specs.declared.error.Error.{Error}
use Rattle.gix_ref_listing.specs.declared.found.Found.TheVariants.{File, Unlisted}
use Rattle.gix_ref_listing.specs.declared.merge.Merge.{Merge}
use Rattle.gix_ref_listing.specs.declared.own_records.OwnRecord.{OwnRecord}

module _ (s : Settings) where
  same_name : (key : List ℕ) → own_name s key ≡ own_name (plain s) key
  unfolding own_name
  same_name key = refl

  pub same_own : (rs : List Record) → own_records s rs ≡ own_records (plain s) rs
  same_own [] = refl
  same_own (r ∷ rs) = ap (λ n. with_own n r (own_records s rs)) (same_name r.name) ∙ ap (with_own (own_name (plain s) r.name) r) (same_own rs)

  -- what is yet to come
  pub to_plain : (m : Merge) (listed : List Listed) → AreYet s m listed → AreYet (plain s) m listed
  to_plain m listed (owns, ahead, is) = (owns, by m.packed.first ahead, is)
    where
      by : (first : Option (Result OwnRecord LineError)) → AheadOf s first m.packed.records owns → AheadOf (plain s) first m.packed.records owns
      by None none = none
      by (Some (Ok own)) (rs, yet, whole) = (rs, yet, whole ∙ ap (λ os. own_of own ∷ os) (same_own rs))
      by (Some (Err e)) bad = bad

  pub of_plain : (m : Merge) (listed : List Listed) → AreYet (plain s) m listed → AreYet s m listed
  of_plain m listed (owns, ahead, is) = (owns, by m.packed.first ahead, is)
    where
      by : (first : Option (Result OwnRecord LineError)) → AheadOf (plain s) first m.packed.records owns → AheadOf s first m.packed.records owns
      by None none = none
      by (Some (Ok own)) (rs, yet, whole) = (rs, yet, whole ∙ ap (λ os. own_of own ∷ os) (sym (same_own rs)))
      by (Some (Err e)) bad = bad

  -- ---- what is owed over any text

  record_to_plain : (text : Text) (own : Own) → IsRecordOf s text own → IsRecordOf (plain s) text own
  record_to_plain text own of = record { begins = of.begins; asked = of.asked; named = sym (same_name own.of.name) ∙ of.named }

  record_of_plain : (text : Text) (own : Own) → IsRecordOf (plain s) text own → IsRecordOf s text own
  record_of_plain text own of = record { begins = of.begins; asked = of.asked; named = same_name own.of.name ∙ of.named }

  given_to_plain : (text : Text) (given : Given) → AreAllGiven s text given → AreAllGiven (plain s) text given
  given_to_plain text None all = tt
  given_to_plain text (Some names) all = λ up name due. all up name (record { of = due.of; asked = due.asked; own = same_name due.of ∙ due.own })

  given_of_plain : (text : Text) (given : Given) → AreAllGiven (plain s) text given → AreAllGiven s text given
  given_of_plain text None all = tt
  given_of_plain text (Some names) all = λ up name due. all up name (record { of = due.of; asked = due.asked; own = sym (same_name due.of) ∙ due.own })

  others_to_plain : (text : Text) (given : Given) (records : Option Iter) → OwesOthers s text given records → OwesOthers (plain s) text given records
  others_to_plain text given None owes = given_to_plain text given owes
  others_to_plain text None (Some it) (rest, owes) = (rest, tt)
  others_to_plain text (Some names) (Some it) (rest, owes) = (rest, λ up. let of = owes up in (of.0, λ key has name own. of.1 key has name (same_name key ∙ own), of.2))

  others_of_plain : (text : Text) (given : Given) (records : Option Iter) → OwesOthers (plain s) text given records → OwesOthers s text given records
  others_of_plain text given None owes = given_of_plain text given owes
  others_of_plain text None (Some it) (rest, owes) = (rest, tt)
  others_of_plain text (Some names) (Some it) (rest, owes) = (rest, λ up. let of = owes up in (of.0, λ key has name own. of.1 key has name (sym (same_name key) ∙ own), of.2))

  own_to_plain : (text : Text) (given : Given) (first : Option (Result OwnRecord LineError)) (records : Option Iter) → OwesAfter s text given first records → OwesAfter (plain s) text given first records
  own_to_plain text given None records owes = given_to_plain text given owes
  own_to_plain text given (Some (Ok own)) records (of, owes) = (record_to_plain text (own_of own) of, others_to_plain text (with_name (full_ref_bytes own.name) given) records owes)
  own_to_plain text given (Some (Err e)) records (of, owes) = (of, others_to_plain text None records owes)

  own_of_plain : (text : Text) (given : Given) (first : Option (Result OwnRecord LineError)) (records : Option Iter) → OwesAfter (plain s) text given first records → OwesAfter s text given first records
  own_of_plain text given None records owes = given_of_plain text given owes
  own_of_plain text given (Some (Ok own)) records (of, owes) = (record_of_plain text (own_of own) of, others_of_plain text (with_name (full_ref_bytes own.name) given) records owes)
  own_of_plain text given (Some (Err e)) records (of, owes) = (of, others_of_plain text None records owes)

  pub owes_to_plain : (text : Text) (given : Given) (m : Merge) → OwesNames s text given m → OwesNames (plain s) text given m
  owes_to_plain text given m owes = record { found = owes.found; packed = own_to_plain text given m.packed.first m.packed.records owes.packed }

  pub owes_of_plain : (text : Text) (given : Given) (m : Merge) → OwesNames (plain s) text given m → OwesNames s text given m
  owes_of_plain text given m owes = record { found = owes.found; packed = own_of_plain text given m.packed.first m.packed.records owes.packed }

  text_item_plain : (text : Text) (item : Result Reference Error) → IsTextItem s text item → IsTextItem (plain s) text item
  text_item_plain text (Ok r) (own, of, is) = (own, record_to_plain text own of, is)
  text_item_plain text (Err e) (inl (own, of, is)) = inl (own, record_to_plain text own of, is)
  text_item_plain text (Err e) (inr of) = inr of

  pub pays_plain : (text : Text) (given : Given) (found : List FoundEntry) (r : Option (Result Reference Error)) (t : Merge) → PaysItem s text given found r t → PaysItem (plain s) text given found r t
  pays_plain text given found None t pays = given_to_plain text given pays
  pays_plain text given found (Some item) t (pays, of) = (owes_to_plain text (given_with item given) t pays, λ same. text_item_plain text item (of same))

  -- a record that is lent
  pub lends_plain : (old new : Merge) (result : Option OwnRecord) →
      IfSome result (λ own. (owns : List Own) → AreAhead s old.packed owns → TakesRecord s (merged_listing old.found.entries owns) own new) →
      IfSome result (λ own. (text : Text) (given : Given) → OwesNames s text given old → IsRecordOf s text (own_of own) × OwesNames s text (with_name (full_ref_bytes own.name) given) new) → IfSome result (λ own. IsDrained old → ⊥) →
      new.found ≡ old.found → IfSome result (λ own. IsAllowed (meaning_in s) (full_ref_bytes own.name)) → IfSome result (GivesRecord (plain s) old new)
  lends_plain old new None takes pays goes_on same allowed = _
  lends_plain old new (Some own) takes pays goes_on same allowed = record {
    found = ap (λ f. f.entries) same;
    pays = λ text given owes.
        let paid = pays text given (owes_of_plain text given old owes) in
        (record_to_plain text (own_of own) paid.0, owes_to_plain text (with_name (full_ref_bytes own.name) given) new paid.1);
    gives = λ listed yet.
        let before = of_plain old listed yet in
        let took = takes before.0 before.1 in
        (merged_listing new.found.entries took.0, before.2 ∙ took.2, to_plain new (merged_listing new.found.entries took.0) (took.0, took.1, refl));
    allowed = allowed;
    goes_on = goes_on;
  }

  -- no record is lent
  pub none_plain : (old : Merge) (result : Option OwnRecord) → IfNone result ((owns : List Own) → AreAhead s old.packed owns → IsNotLent s (merged_listing old.found.entries owns)) →
      IfNone result ((listed : List Listed) → AreYet (plain s) old listed → IsNotLent s listed)
  none_plain old (Some own) none = _
  none_plain old None none = λ listed yet. let before = of_plain old listed yet in subst (IsNotLent s) (sym before.2) (none before.0 before.1)

  -- an item
  pub item_plain : (honest : Type 0) (view : View) (before now : FaultCounts) (one : Listed) (item : Result Reference Error) → IsGivenItem honest s view before now one item → IsGivenItem honest (plain s) view before now one item
  item_plain honest view before now (Walked (key, File name path)) (Ok r) is = is
  item_plain honest view before now (Walked (key, File name path)) (Err e) is = is
  item_plain honest view before now (Walked (key, Unlisted path e)) (Ok r) is = is
  item_plain honest view before now (Walked (key, Unlisted path e)) (Err f) is = is
  item_plain honest view before now (InPacked own) item is = is

  -- what a walk found
  pub loose_of_plain : (view : View) (prefix name : List ℕ) → IsLooseListed (plain s) view prefix name → IsLooseListed s view prefix name
  loose_of_plain view prefix name (front, of, loose) = (
    front,
    of,
    record {
      placed = record { valid = loose.placed.valid; begins = loose.placed.begins; own = loose.placed.own };
      composed = loose.composed;
      there = loose.there;
    },
  )

  pub found_plain : (view : View) (prefix : List ℕ) (e : FoundEntry) → IsFoundIn s view prefix e → IsFoundIn (plain s) view prefix e
  found_plain view prefix (key, File name path) (named, file) = (
    named,
    record {
      front = file.front;
      of = file.of;
      placed = record { valid = file.placed.valid; begins = file.placed.begins; own = file.placed.own };
      disk = file.disk;
      at = file.at;
      asked = file.asked;
      there = file.there;
    },
  )
  found_plain view prefix (key, Unlisted path e) found = found

  pub all_plain : (view : View) (prefix : List ℕ) (es : List FoundEntry) → All (IsFoundIn s view prefix) es → All (IsFoundIn (plain s) view prefix) es
  all_plain view prefix es all = λ k d below. found_plain view prefix (slice_index_or es k d) (all k d below)

module _ {F : Type 0} (honest : Type 0) (means : F → Meaning) (faults : F → FaultCounts) (s : Settings) where
  -- giving an item
  pub gives_plain : (before now : F) (listed : List Listed) (r : Option (Result Reference Error)) (t : Merge) → GivesItem honest means faults s before now listed r t → GivesItem honest means faults (plain s) before now listed r t
  gives_plain before now listed None t (none, yet) = (none, to_plain s t [] yet)
  gives_plain before now listed (Some item) t (one, more, is, yet, given) = (one, more, is, to_plain s t more yet, item_plain s honest (view_of (means before).tree) (faults before) (faults now) one item given)

  -- what a walk found, which stays or is given
  pub found_of_plain : (before now : F) (found left : List FoundEntry) (r : Option (Result Reference Error)) → GivesFound honest means faults s before now found r left → GivesFound honest means faults (plain s) before now found r left
  found_of_plain before now found left r (inl same) = inl same
  found_of_plain before now found left r (inr (e, item, whole, is, of)) = inr (e, item, whole, is, item_plain s honest (view_of (means before).tree) (faults before) (faults now) (Walked e) item of)
