-- What was taken of a listing, as its next item.
use Rattle.std.proofs.Common.{◌≡◌, inl, inr, List, refl, sym, subst, Some, Result, Ok, Err}
use Rattle.std.specs.Prelude.{OnOk}
use Rattle.gix_ref_files.specs.Files.{Meaning, FaultCounts}
use Rattle.gix_ref_theory.specs.OnRealTrees.{view_of}
use Rattle.gix_ref_packed_text.specs.declared.raw.Reference.{Reference}
use Rattle.gix_ref_lookup.specs.declared.settings.Settings.{Settings}
use Rattle.gix_ref_listing.specs.GoneFiles.{IsFoundOrGone, IsTakenItem}
use Rattle.gix_ref_listing.specs.Listings.{Listed, TakesFound, TakesListed, merged_listing}
use Rattle.gix_ref_listing.specs.Listings.Listed.{Walked, InPacked}
use Rattle.gix_ref_listing.specs.OwnRecords.{own_of}
use Rattle.gix_ref_listing.specs.Steps.{CountsNone, GivesFound, GivesItem}
use Rattle.gix_ref_listing.specs.Walks.{FoundEntry}
use Rattle.gix_ref_listing.specs.declared.error.Error.{Error}
use Rattle.gix_ref_listing.specs.declared.found.Found.{Found}
use Rattle.gix_ref_listing.specs.declared.merge.Merge.{Merge}
use Rattle.gix_ref_listing.specs.declared.merge.Taken.{Taken}
use Rattle.gix_ref_listing.specs.declared.merge.Taken.TheVariants as taking

-- no fault was counted where the item is a reference
pub counts_none : (before now : FaultCounts) (item : Result Reference Error) → OnOk item (now ≡ before) → CountsNone before now (Some item)
counts_none before now (Ok r) same = same
counts_none before now (Err e) same = tt

module _ {F : Type 0} (honest : Type 0) (means : F → Meaning) (faults : F → FaultCounts) (settings : Settings) (before now : F) where
  pub gives_taken : (listed : List Listed) (taken : Taken) (item : Result Reference Error) (t : Merge) → TakesListed settings listed (Some taken) t →
      IsTakenItem honest settings (view_of (means before).tree) (faults before) (faults now) taken item → GivesItem honest means faults settings before now listed (Some item) t
  gives_taken listed (taking.Walked found) item t (e, is_one, owns, ahead, is) of = (
    Walked e,
    merged_listing t.found.entries owns,
    is,
    (owns, ahead, refl),
    subst (λ (f : Found). IsFoundOrGone honest settings (view_of (means before).tree) (faults before) (faults now) f item) (sym is_one) of,
  )
  gives_taken listed (taking.Packed (Ok own)) item t (owns, ahead, is) of = (InPacked (own_of own), merged_listing t.found.entries owns, is, (owns, ahead, refl), of)
  gives_taken listed (taking.Packed (Err error)) item t takes of = absurd takes

  -- what was found and taken is given
  pub gives_found : (found left : List FoundEntry) (taken : Taken) (item : Result Reference Error) → TakesFound found (Some taken) left →
      IsTakenItem honest settings (view_of (means before).tree) (faults before) (faults now) taken item → GivesFound honest means faults settings before now found (Some item) left
  gives_found found left (taking.Walked one) item (e, is_one, whole) of =
      inr (e, item, whole, refl, subst (λ (f : Found). IsFoundOrGone honest settings (view_of (means before).tree) (faults before) (faults now) f item) (sym is_one) of)
  gives_found found left (taking.Packed own) item same of = inl same
