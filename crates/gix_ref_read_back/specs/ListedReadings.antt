-- What a listing gives, by what each reference reads.
use Rattle.std.specs.Prelude.{◌≡◌, ℕ, List, [], ◌∷◌, ◌++◌, IsSome, Result, Ok, Err, true, codes}
use Rattle.std.specs.List.{AllByRecursion}
use Rattle.gix_ref_hash.specs.Bytes.{BeginsWith}
use Rattle.gix_ref_name.specs.NameGrammar.{IsPartialName}
use Rattle.gix_ref_name.specs.Names.{full_bytes}
use Rattle.gix_ref_target.specs.Targets.{target_value}
use Rattle.gix_ref_files.specs.Files.{FaultCounts, NoFewer, IsMet}
use Rattle.gix_ref_packed_text.specs.declared.raw.Reference.{Reference}
use Rattle.gix_ref_theory.specs.Lookups.{is_there}
use Rattle.gix_ref_theory.specs.Readings.{Store, Reading}
use Rattle.gix_ref_theory.specs.Readings.Reading.{Is, Fault}
use Rattle.gix_ref_listing.specs.Items.{IsAllowed}
use Rattle.gix_ref_listing.specs.Listings.{Listed}
use Rattle.gix_ref_listing.specs.LooseListings.{IsFront}
use Rattle.gix_ref_listing.specs.WholeListings.{IsOf, Rises, listed_key}
use Rattle.gix_ref_listing.specs.declared.error.Error.{Error}
use Rattle.gix_ref_listing.specs.declared.error.Error.TheVariants.{Traversal, ReadFileContents, ReferenceCreation, Memory}
use Rattle.gix_ref_lookup.specs.Lookups.{Among, name_asked}
use Rattle.gix_ref_lookup.specs.declared.settings.Settings.{Settings}
use Rattle.gix_ref_theory.specs.Views.{View}
use Rattle.gix_ref_lookup.specs.declared.find.error.ReadError.TheVariants.{File as file_error, DeviceName}

-- each file below a folder of the store has a composed name, where the store composes names (`core.precomposeUnicode` of `git
-- config`)
abbrev pub AreComposed : Settings → View → Type 0
AreComposed settings view = (front name : List ℕ) → IsFront settings front →
    IsSome (view (front ++ name)) → name_asked settings.precompose_unicode name ≡ name

-- A valid name below `refs/` with the prefix, at a place that is not prohibited.
pub record IsListable (s : Store) (prefix name : List ℕ) : Type 0 where
  pub valid : IsPartialName name
  pub begins : BeginsWith name prefix
  pub below_refs : BeginsWith name (codes "refs/")
  pub allowed : IsAllowed s name

-- Why the reference of this name is not given, while the count of faults went from `before` to `now`: its file holds no target, and
-- so it reads a fault; the file could not be read, by this fault, which was counted; its place has the name of a device, and the store
-- prohibits these; or there was no memory.
abbrev pub IsReadingFault : Store → (before now : FaultCounts) → (name : List ℕ) → Reading →
    Error → Type 0
IsReadingFault s before now name reading (ReferenceCreation source path) = (reading ≡ Fault)
    × (path.items ≡ name)
IsReadingFault s before now name reading (ReadFileContents (file_error source) path) =
    IsMet source before now × (path.items ≡ s.place name)
IsReadingFault s before now name reading (ReadFileContents DeviceName path) =
    (s.is_prohibited (s.place name) ≡ true) × (path.items ≡ s.place name)
IsReadingFault s before now name reading Memory = Unit {0}
IsReadingFault s before now name reading other = ⊥

-- an item is the reference of this name, with the target that it reads; or a fault in its place
abbrev pub IsItemOf : Store → (List ℕ → Reading) → (before now : FaultCounts) → Listed →
    Result Reference Error → Type 0
IsItemOf s reads before now one (Ok r) =
    (full_bytes r.name ≡ listed_key one)
    × (reads (full_bytes r.name) ≡ Is (target_value r.target))
IsItemOf s reads before now one (Err error) =
    IsReadingFault s before now (listed_key one) (reads (listed_key one)) error

-- And so each of them, one after the other: each is made between two counts of faults, and the next begins with the second.
abbrev pub AreItemsOf : Store → (List ℕ → Reading) → (before now : FaultCounts) → List Listed →
    List (Result Reference Error) → Type 0
AreItemsOf s reads before now [] [] = NoFewer before now
AreItemsOf s reads before now [] (item ∷ items) = ⊥
AreItemsOf s reads before now (one ∷ listed) [] = ⊥
AreItemsOf s reads before now (one ∷ listed) (item ∷ items) =
    (mid : FaultCounts) × NoFewer before mid × IsItemOf s reads before mid one item
    × AreItemsOf s reads mid now listed items

-- it is no folder that could not be listed
abbrev pub IsNoFolder : Result Reference Error → Type 0
IsNoFolder (Err (Traversal source path)) = ⊥
IsNoFolder other = Unit {0}

-- The items of a listing of the names with this prefix, while the count of faults went from `before` to `now`: by ascending names,
-- each name that reads something, and no other, with the target that it reads.
pub record ListsReadings (s : Store) (reads : List ℕ → Reading) (before now : FaultCounts)
    (prefix : List ℕ) (items : List (Result Reference Error)) : Type 0 where
  pub listed : List Listed
  pub ascending : Rises listed
  pub all : (name : List ℕ) → IsListable s prefix name → is_there (reads name) ≡ true →
      Among (IsOf name) listed
  pub only : AllByRecursion (λ one. is_there (reads (listed_key one)) ≡ true) listed
  pub targets : AreItemsOf s reads before now listed items
