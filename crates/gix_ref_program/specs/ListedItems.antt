-- What the items of a listing tell, whatever the lines of `packed-refs` are.
use Rattle.std.specs.Prelude.{◌≡◌, ℕ, List, Bool, true, Result}
use Rattle.std.specs.List.{AllByRecursion}
use Rattle.gix_ref_files.specs.Files.{Meaning, FaultCounts}
use Rattle.gix_ref_packed_text.specs.declared.raw.Reference.{Reference}
use Rattle.gix_ref_lookup.specs.Lookups.{Among}
use Rattle.gix_ref_listing.specs.LooseListings.{IsLooseListed}
use Rattle.gix_ref_listing.specs.OwedNames.{IsDue}
use Rattle.gix_ref_listing.specs.PackedTexts.{Text, Ascends}
use Rattle.gix_ref_listing.specs.declared.error.Error.{Error}
use Rattle.gix_ref_store.specs.Lookup.{settings_of, view_in}
use Rattle.gix_ref_store.specs.Listings.{IsReference, IsNamed, IsRightSince, OfPackedText}
use Rattle.gix_ref_store.specs.declared.file.store.Store.{Store}

-- where these are all items, and each is a reference, one of them has this name
abbrev pub HaveName : (whole : Bool) → List (Result Reference Error) → (name : List ℕ) → Type 0
HaveName whole items name =
    whole ≡ true → AllByRecursion IsReference items → Among (IsNamed name) items

module _ {F : Type 0} (honest : Type 0) (means : F → Meaning) (faults : F → FaultCounts) where
  -- What items of the listing of a prefix tell of a text of `packed-refs`, whatever its lines are; `last` counts the faults after them.
  pub record FollowLines (store : Store F) (prefix : List ℕ) (text : Text) (last : FaultCounts)
      (whole : Bool) (items : List (Result Reference Error)) : Type 0 where
    -- each is of a loose reference, or a record or a bad line of the text
    pub right : AllByRecursion (IsRightSince honest means faults store prefix text last) items
    -- and where its names ascend none is lacking that is due by its lines
    pub due : Ascends text → (name : List ℕ) → IsDue (settings_of store) text name →
        HaveName whole items name

  -- Items of the listing of a prefix, all where `whole` says so, whatever the lines of `packed-refs` are.
  pub record FollowFiles (store : Store F) (prefix : List ℕ) (last : FaultCounts) (whole : Bool)
      (items : List (Result Reference Error)) : Type 0 where
    -- no loose reference of the prefix is lacking
    pub loose : (name : List ℕ) →
        IsLooseListed (settings_of store) (view_in means store) prefix name →
        HaveName whole items name
    -- they are right by the lines of `packed-refs`
    pub packed : OfPackedText means store prefix (λ text.
        FollowLines store prefix text last whole items)
