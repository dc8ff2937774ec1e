-- The items of a whole listing of a store.
use Rattle.std.specs.Prelude.{◌≡◌, ◌++◌, ℕ, Bool, List, [], Option, None, Result, Ok, Err, Vec, is_some, option_to_list}
use Rattle.std.specs.List.{AllByRecursion}
use Rattle.std.specs.declared.alloc.Global.{Global}
use Rattle.std.specs.Iterator.{Yields}
use Rattle.gix_ref_target.specs.PackedRecords.{Record}
use Rattle.gix_ref_files.specs.Files.{Meaning, FaultCounts}
use Rattle.gix_ref_files.specs.declared.files.ReadAt.{Ghosts}
use Rattle.gix_ref_packed_text.specs.declared.raw.Reference.{Reference}
use Rattle.gix_ref_listing.specs.Listings.{Listed}
use Rattle.gix_ref_listing.specs.CleanPrefixes.{IsAcceptedPrefix}
use Rattle.gix_ref_listing.specs.WholeListings.{IsListing, IsNameOrMet}
use Rattle.gix_ref_listing.specs.declared.error.Error.{Error}
use Rattle.gix_ref_listing.specs.declared.list.LooseNames.{LooseNames}
use Rattle.gix_ref_listing.specs.declared.prefix.Error.{Error as PrefixError}
use Rattle.gix_ref_listing.specs.declared.prefix.Error.TheVariants.{Memory}
use Rattle.gix_ref_store.specs.Listings.{AreFirst, IsNoListing, IsWalkedIn, NextItem, walked_prefix}
use Rattle.gix_ref_store.specs.Lookup.{AreRecordsIn, settings_of, view_in}
use Rattle.gix_ref_store.specs.Store.{files_of}
use Rattle.gix_ref_store.specs.declared.file.iter.LooseThenPacked.{LooseThenPacked}
use Rattle.gix_ref_store.specs.declared.file.iter.Remaining.{Remaining}
use Rattle.gix_ref_store.specs.declared.file.store.Store.{Store}

module _ {F : Type 0} (honest : Type 0) (means : F → Meaning) (faults : F → FaultCounts) where
  -- the next item was added to those before it, if there was one
  pub record TakesNext (s t : LooseThenPacked F Remaining)
      (before after : List (Result Reference Error)) (more : Bool) : Type 0 where
    pub item : Option (Result Reference Error)
    pub gives : NextItem honest means faults s item t
    pub more_is : more ≡ is_some item
    pub adds : after ≡ before ++ option_to_list item

  -- these are all items that an iterator gave up to its end
  pub record GivesAll (s t : LooseThenPacked F Remaining)
      (items : List (Result Reference Error)) : Type 0 where
    pub last : LooseThenPacked F Remaining
    pub gives : Yields (NextItem honest means faults) s items last
    pub ends : NextItem honest means faults last None t

  -- These are the items of the listing of a prefix in a store, all of them, while the count of faults went from `before` to `now`.
  -- A folder that could not be listed is among them only with a fault that was counted.
  pub record AreItemsIn (store : Store F) (before now : FaultCounts) (records : List Record)
      (prefix : List ℕ) (items : List (Result Reference Error)) : Type 0 where
    pub listed : List Listed
    pub is : IsListing (settings_of store) (view_in means store) records prefix listed
    pub names : AllByRecursion (IsNameOrMet before now) listed
    pub first : AreFirst honest means faults (settings_of store)
        (view_in means store) before now listed [] items

  -- A listing of the names that a walk found, in the store `old`, which leaves `new`, among the records that `Are` accepts: the
  -- items; or there was no memory.
  abbrev pub ListsAmong : (old new : Store F) → LooseNames → (Are : List Record → Type 0) →
      Result (Vec (Result Reference Error) Global) PrefixError → Type 0
  ListsAmong old new names Are (Ok all) =
      honest → (start : Store F) (records : List Record) →
      IsWalkedIn honest means faults start old names → Are records → AreItemsIn start
      (faults (files_of start)) (faults (files_of new)) records (walked_prefix names) all.items
  ListsAmong old new names Are (Err error) = error ≡ Memory

  -- A listing of a prefix of the store `start`, which leaves `new`, among the records of its `packed-refs`: the items; or why there
  -- is none.
  abbrev pub ListsIn : {R : Type 0} (G : Ghosts R) → (start new : Store F) → (prefix : List ℕ) →
      Result (Vec (Result Reference Error) Global) PrefixError → Type 0
  ListsIn G start new prefix (Ok all) =
      IsAcceptedPrefix start.namespace prefix
      × (honest → (records : List Record) → AreRecordsIn means start records →
      AreItemsIn start (faults (files_of start)) (faults (files_of new)) records prefix all.items)
  ListsIn G start new prefix (Err error) = IsNoListing honest means faults G start new prefix error
