-- What a listing tells, whatever the lines of `packed-refs` are.
use Rattle.std.specs.Prelude.{◌≡◌, ℕ, List, Ok}
use Rattle.std.specs.List.{AllByRecursion}
use Rattle.gix_ref_files.specs.Files.{Meaning, FaultCounts}
use Rattle.gix_ref_name.specs.Names.{full_bytes}
use Rattle.gix_ref_packed_text.specs.declared.raw.Reference.{Reference}
use Rattle.gix_ref_lookup.specs.Lookups.{Among}
use Rattle.gix_ref_listing.specs.LooseListings.{IsLooseListed}
use Rattle.gix_ref_listing.specs.OwedNames.{IsDue}
use Rattle.gix_ref_listing.specs.PackedTexts.{Text, Ascends}
use Rattle.gix_ref_store.specs.Listings.{IsRightItem, OfPackedText}
use Rattle.gix_ref_store.specs.Lookup.{settings_of, view_in}
use Rattle.gix_ref_store.specs.declared.file.store.Store.{Store}

-- one of these references has this name
abbrev pub HaveName : List Reference → (name : List ℕ) → Type 0
HaveName references name =
    Among (λ (reference : Reference). full_bytes reference.name ≡ name) references

module _ {F : Type 0} (honest : Type 0) (means : F → Meaning) (faults : F → FaultCounts) where
  -- one of a listing: a loose one, or of a record of this text
  abbrev pub IsRightReference : (store : Store F) → (prefix : List ℕ) → Text → Reference → Type 0
  IsRightReference store prefix text reference = (before now : FaultCounts)
      × IsRightItem honest means faults store prefix text before now (Ok reference)

  -- What these references of a prefix tell of a text of `packed-refs`, whatever its lines are.
  pub record FollowLines (store : Store F) (prefix : List ℕ) (text : Text)
      (all : List Reference) : Type 0 where
    -- each is right
    pub right : AllByRecursion (IsRightReference store prefix text) all
    -- and where its names ascend none is lacking that is due by its lines
    pub due : Ascends text → (name : List ℕ) → IsDue (settings_of store) text name →
        HaveName all name

  -- None of the references of a prefix is lacking among these or wrong, whatever the lines of `packed-refs` are.
  pub record FollowFiles (store : Store F) (prefix : List ℕ) (all : List Reference) : Type 0 where
    -- no loose one is lacking
    pub loose : (name : List ℕ) →
        IsLooseListed (settings_of store) (view_in means store) prefix name → HaveName all name
    -- they are right by the lines of `packed-refs`
    pub packed : OfPackedText means store prefix (λ text. FollowLines store prefix text all)
