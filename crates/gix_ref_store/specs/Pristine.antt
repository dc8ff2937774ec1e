-- A store as `git init` makes it: `HEAD` names a branch, and there is no reference.
use Rattle.std.specs.Prelude.{◌⊎◌, ℕ, Bool, List, Option}
use Rattle.gix_ref_files.specs.Files.{FaultCounts, Meaning}
use Rattle.gix_ref_listing.specs.PristineStores as stores_as_made
use Rattle.gix_ref_listing.specs.Walks.{IsAnyMet}
use Rattle.gix_ref_store.specs.Store.{files_of}
use Rattle.gix_ref_store.specs.Listings.{prefix_of_all}
use Rattle.gix_ref_store.specs.Lookup.{settings_of, view_in}
use Rattle.gix_ref_store.specs.declared.file.store.Store.{Store}

module _ {F : Type 0} (means : F → Meaning) where
  -- `HEAD` is symbolic to this name, no loose reference can be read, and there is no `packed-refs`
  abbrev pub IsPristineStore : Store F → (name : List ℕ) → Type 0
  IsPristineStore store name = stores_as_made.IsPristine (settings_of store)
      (means (files_of store)).tree (prefix_of_all store.namespace) name

  -- `HEAD` is something else, a loose reference can be read, or there is a `packed-refs`
  abbrev pub IsStoreInUse : Store F → (name : List ℕ) → Type 0
  IsStoreInUse store name = stores_as_made.IsInUse (settings_of store) (means (files_of store)).tree
      (prefix_of_all store.namespace) name

  -- no target is read of `HEAD`
  abbrev pub HasNoHead : Store F → Type 0
  HasNoHead store = stores_as_made.ReadsNone (settings_of store) (view_in means store)
      (stores_as_made.head_path (settings_of store))

-- whether the store is as it was made; none is said where `HEAD` has no target, or a fault of files was counted
abbrev pub SaysIfPristine : {F : Type 0} → (honest : Type 0) → (means : F → Meaning) →
    (faults : F → FaultCounts) → (old new : Store F) → (name : List ℕ) → Option Bool → Type 0
SaysIfPristine honest means faults old new name = stores_as_made.Says
    (honest → IsPristineStore means old name) (honest → IsStoreInUse means old name)
    ((honest → HasNoHead means old) ⊎ IsAnyMet (faults (files_of old)) (faults (files_of new)))
