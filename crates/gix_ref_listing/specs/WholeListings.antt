-- What a whole listing is: each name with a loose file or a record, once, by ascending bytes.
use Rattle.std.specs.Prelude.{◌≡◌, ◌++◌, ℕ, List, [], ◌∷◌, Option, Some, None, IsSome, Result, IfOk}
use denote.Ref.{Bor}
use Rattle.std.specs.List.{All, AllByRecursion}
use Rattle.gix_ref_hash.specs.Bytes.{BeginsWith}
use Rattle.gix_ref_name.specs.NameGrammar.{IsPartialName}
use Rattle.gix_ref_target.specs.PackedRecords.{Record, record_named}
use Rattle.gix_ref_files.specs.Files.{FaultCounts}
use Rattle.gix_ref_packed_text.specs.RecordGrammar.{Below, Ascending, Rising, Records}
use Rattle.gix_ref_hash.specs.declared.hash.Kind.{Kind}
use Rattle.gix_ref_packed_text.specs.Prefixes.{records_prefixed}
use Rattle.gix_ref_packed.specs.Buffers.{buffer_kind, buffer_text}
use Rattle.gix_ref_packed.specs.declared.packed.buffer.Buffer.{Buffer}
use Rattle.gix_ref_packed.specs.declared.packed.iter.Iter.{Iter}
use Rattle.gix_ref_theory.specs.Views.{View}
use Rattle.gix_ref_lookup.specs.Lookups.{meaning_in, Among}
use Rattle.gix_ref_lookup.specs.StoreLayout.{namespace_text}
use Rattle.gix_ref_lookup.specs.declared.settings.Settings.{Settings}
use Rattle.gix_ref_listing.specs.Walks.{FindsEach, Holds, IsFile, IsFileOrMet}
use Rattle.gix_ref_listing.specs.OwedNames.{OwesNames}
use Rattle.gix_ref_listing.specs.PackedTexts.{Text, IsTextOf}
use Rattle.gix_ref_listing.specs.PlainSettings.{plain}
use Rattle.gix_ref_listing.specs.declared.prefix.Error.{Error}
use Rattle.gix_ref_listing.specs.OwnRecords.{YetOf}
use Rattle.gix_ref_listing.specs.Steps.{AreYet}
use Rattle.gix_ref_listing.specs.declared.list.LooseNames.{LooseNames}
use Rattle.gix_ref_listing.specs.declared.merge.Merge.{Merge}
use Rattle.gix_ref_listing.specs.Listings.{Listed}
use Rattle.gix_ref_listing.specs.Listings.Listed.{Walked, InPacked}
use Rattle.gix_ref_listing.specs.LooseListings.{IsLooseListed, IsFoundIn}

-- the name of its record, in the namespace
abbrev pub key_in : Settings → (name : List ℕ) → List ℕ
key_in settings name = namespace_text settings.namespace.now ++ name

-- A valid name with the prefix whose own key has a record.
pub record IsPackedListed (settings : Settings) (records : List Record)
    (prefix name : List ℕ) : Type 0 where
  pub valid : IsPartialName name
  pub begins : BeginsWith name prefix
  pub own : (meaning_in settings).key name ≡ Some (key_in settings name)
  pub there : IsSome (record_named (key_in settings name) records)

-- the name of an item; of a folder, the front of the names below it
abbrev pub listed_key : Listed → List ℕ
listed_key (Walked e) = e.0.items
listed_key (InPacked own) = own.name

-- each is below those after it
abbrev pub Rises : List Listed → Type 0
Rises [] = Unit {0}
Rises (one ∷ more) = AllByRecursion (λ l. Below (listed_key one) (listed_key l)) more × Rises more

-- it is the loose file of the name, or a folder above it that could not be listed
abbrev pub IsLooseOf : List ℕ → Listed → Type 0
IsLooseOf name (Walked e) = Holds name e
IsLooseOf name (InPacked own) = ⊥

-- one of these, or the record of the name
abbrev pub IsOf : List ℕ → Listed → Type 0
IsOf name (Walked e) = Holds name e
IsOf name (InPacked own) = own.name ≡ name

-- a file of a name or a folder that could not be listed; or the first record of a name
abbrev pub IsInStore : Settings → View → List Record → (prefix : List ℕ) → Listed → Type 0
IsInStore settings view records prefix (Walked e) = IsFoundIn settings view prefix e
IsInStore settings view records prefix (InPacked own) =
    IsPackedListed settings records prefix own.name
    × (record_named (key_in settings own.name) records ≡ Some own.of)

-- A listing of a store with this view of files and these records: ascending, so each name once; each loose reference, unless a
-- folder above it could not be listed, and as a loose one; each packed reference; and nothing else.
pub record IsListing (settings : Settings) (view : View) (records : List Record) (prefix : List ℕ)
    (listed : List Listed) : Type 0 where
  pub ascending : Rises listed
  pub loose : (name : List ℕ) → IsLooseListed settings view prefix name →
      Among (IsLooseOf name) listed
  pub packed : (name : List ℕ) → IsPackedListed settings records prefix name →
      Among (IsOf name) listed
  pub only : AllByRecursion (IsInStore settings view records prefix) listed

-- A text whose records with this prefix are those of these records: of the whole text, or of a part of it that was read for the
-- prefix.
pub record HoldsFor (kind : Kind) (prefix : List ℕ) (records : List Record)
    (text : List ℕ) : Type 0 where
  pub held : List Record
  pub ascending : Ascending held
  pub named : (name : List ℕ) → record_named name held ≡ record_named name records
  pub part : List Record
  pub lines : Records kind text part
  pub rising : Rising part
  pub kept : records_prefixed prefix part ≡ records_prefixed prefix held

-- so the buffer, if one is given
abbrev pub AreHeldOf : (prefix : List ℕ) → Option (Bor Buffer) → List Record → Type 0
AreHeldOf prefix None records = records ≡ []
AreHeldOf prefix (Some buffer) records = HoldsFor (buffer_kind buffer.now) prefix records
    (buffer_text buffer.now)

-- the iterator is yet to give the records with this prefix of ascending records, each found by its name as among these
pub record IsAskedOf (prefix : List ℕ) (records : List Record) (it : Option Iter) : Type 0 where
  pub held : List Record
  pub ascending : Ascending held
  pub named : (name : List ℕ) → record_named name held ≡ record_named name records
  pub yet : YetOf it (records_prefixed prefix held)

-- no folder, or one that could not be listed by a fault that was counted
abbrev pub IsNameOrMet : (before now : FaultCounts) → Listed → Type 0
IsNameOrMet before now (Walked e) = IsFileOrMet before now e
IsNameOrMet before now (InPacked own) = Unit {0}

-- no folder
abbrev pub IsNameItem : Listed → Type 0
IsNameItem (Walked e) = IsFile e
IsNameItem (InPacked own) = Unit {0}

-- What is yet to come is the listing. A folder is in it only with a fault that was counted.
pub record ListsAll (settings : Settings) (view : View) (records : List Record) (prefix : List ℕ)
    (before now : FaultCounts) (m : Merge) : Type 0 where
  pub listed : List Listed
  pub is : IsListing settings view records prefix listed
  pub names : AllByRecursion (IsNameOrMet before now) listed
  pub yet : AreYet settings m listed

-- What a listing of a prefix with the records of this buffer gives: it is the listing of whatever records the buffer holds.
abbrev pub ListsHeld : Settings → View → (prefix : List ℕ) → Option (Bor Buffer) →
    (before now : FaultCounts) → Result Merge Error → Type 0
ListsHeld settings view prefix buffer before now result = (records : List Record) →
    AreHeldOf (key_in settings prefix) buffer records →
    IfOk result (ListsAll (plain settings) view records prefix before now)

-- What a walk found is yet to come: each loose reference of a prefix, unless a folder above it could not be listed, by a fault that was
-- counted; and no other.
pub record HasLoose (settings : Settings) (view : View) (prefix : List ℕ)
    (before now : FaultCounts) (m : Merge) : Type 0 where
  pub there : All (IsFoundIn settings view prefix) m.found.entries
  pub files : All (IsFileOrMet before now) m.found.entries
  pub finds : FindsEach (IsLooseListed settings view prefix) m.found.entries

-- and so whatever the text of the buffer is; the rest is read from it, and where its names ascend, each name that is due is yet to
-- come, or a fault is
abbrev pub OwesHeld : Settings → View → (prefix : List ℕ) → Option (Bor Buffer) →
    (before now : FaultCounts) → Result Merge Error → Type 0
OwesHeld settings view prefix buffer before now result =
    IfOk result (HasLoose (plain settings) view prefix before now)
    × ((text : Text) → IsTextOf (key_in settings prefix) buffer text →
    IfOk result (OwesNames (plain settings) text (Some [])))

-- What a walk of the folders of a store found of a prefix while the count of faults went from `before` to `now`: each loose
-- reference, unless a folder above it could not be listed, which is found with a fault that was counted; and nothing else.
pub record IsWalkOf (settings : Settings) (view : View) (before now : FaultCounts)
    (names : LooseNames) : Type 0 where
  pub finds : FindsEach (IsLooseListed settings view names.prefix.items) names.found.entries
  pub files : All (IsFileOrMet before now) names.found.entries
  pub there : All (IsFoundIn settings view names.prefix.items) names.found.entries
