-- A file that a walk found, and that is gone when its item is read: its name is asked for once more (`git pack-refs` removes the
-- loose file of a reference once `packed-refs` has its record).
use Rattle.std.specs.Prelude.{◌≡◌, ◌⊎◌, ℕ, List, Option, Some, None, Result, Ok, Err, false}
use Rattle.gix_ref_files.specs.Files.{FaultCounts}
use Rattle.gix_ref_hash.specs.declared.hash.Kind.{Kind}
use Rattle.gix_ref_name.specs.Names.{full_bytes}
use Rattle.gix_ref_name.specs.declared.name.FullName.{FullName}
use Rattle.gix_ref_target.specs.PackedRecords.{Record}
use Rattle.gix_ref_target.specs.declared.target.Target.TheVariants.{Object}
use Rattle.gix_ref_files.specs.declared.files.FileError.TheVariants.{Device}
use Rattle.std.specs.declared.io.ErrorKind.TheVariants.{NotFound}
use Rattle.gix_ref_theory.specs.Readings.{reading_by}
use Rattle.gix_ref_theory.specs.Readings.Reading.{Absent}
use Rattle.gix_ref_theory.specs.Views.{View}
use Rattle.gix_ref_packed_text.specs.Windows.{HitsRecord}
use Rattle.gix_ref_packed_text.specs.declared.packed.window.Found.{Found as FoundIds}
use Rattle.gix_ref_packed_text.specs.declared.raw.Reference.{Reference}
use Rattle.gix_ref_lookup.specs.Lookups.{meaning_in, ArePackedRecords, IsOpenedText, OfKey}
use Rattle.gix_ref_lookup.specs.declared.settings.Settings.{Settings}
use Rattle.gix_ref_lookup.specs.declared.find.error.ReadError.TheVariants.{File as file_error}
use Rattle.gix_ref_listing.specs.Items.{IsFileItem, IsFoundItem, IsOfLine, IsRecordItem}
use Rattle.gix_ref_listing.specs.OwnRecords.{own_of}
use Rattle.gix_ref_listing.specs.Listings.{Listed}
use Rattle.gix_ref_listing.specs.Listings.Listed.{Walked, InPacked}
use Rattle.gix_ref_listing.specs.declared.found.Found.{Found}
use Rattle.gix_ref_listing.specs.declared.found.Found.TheVariants.{File, Unlisted}
use Rattle.gix_ref_listing.specs.declared.merge.Taken.{Taken}
use Rattle.gix_ref_listing.specs.declared.merge.Taken.TheVariants as taking
use Rattle.gix_ref_listing.specs.declared.error.Error.{Error}
use Rattle.gix_ref_listing.specs.declared.error.Error.TheVariants.{ReadFileContents, Memory}

-- On any text of `packed-refs`: these are the ids of a record of the key that begins a line.
pub record HitsNow (kind : Kind) (file : Option (List ℕ)) (key : List ℕ)
    (found : FoundIds) : Type 0 where
  pub of_kind : Kind
  pub text : List ℕ
  pub opened : IsOpenedText kind file of_kind text
  pub hits : HitsRecord of_kind text key found

-- the reference has the ids of such a record
abbrev pub IsRecordNow : Kind → Option (List ℕ) → (key : List ℕ) → Reference → Type 0
IsRecordNow kind file key r = (found : FoundIds) × HitsNow kind file key found
    × (r.target ≡ Object found.target) × (r.peeled ≡ found.object)

-- no record of a name, where `packed-refs` is well formed
abbrev pub HasNoRecord : Settings → View → (name : List ℕ) → Type 0
HasNoRecord settings view name =
    let s = meaning_in settings in
    (records : List Record) → ArePackedRecords settings.kind (view s.packed_path) records →
    reading_by s (s.key name) None records ≡ Absent

-- what is found of a name: the ids of such a record of its key; none, where `packed-refs` has no record of it
abbrev pub IsFoundNow : Settings → View → (name : List ℕ) → Option FoundIds → Type 0
IsFoundNow settings view name None = HasNoRecord settings view name
IsFoundNow settings view name (Some found) =
    let s = meaning_in settings in
    OfKey s name (λ key. HitsNow settings.kind (view s.packed_path) key found)

-- the fault of a `packed-refs` at this path that could not be opened or searched
abbrev pub IsPackedUnread : List ℕ → Error → Type 0
IsPackedUnread at (ReadFileContents (file_error source) path) = path.items ≡ at
IsPackedUnread at Memory = Unit {0}
IsPackedUnread at other = ⊥

-- the fault of a file at this place that was removed since it was found
abbrev pub IsGone : List ℕ → Error → Type 0
IsGone place (ReadFileContents source path) = (source ≡ file_error (Device NotFound))
    × (path.items ≡ place)
IsGone place Memory = Unit {0}
IsGone place other = ⊥

-- By the record of a name, where no file is at its own place: its ids; or why it has none. Then `packed-refs` could not be
-- searched, or the name reads nothing, and the fault is that its file is gone.
abbrev pub IsPackedAgain : (honest : Type 0) → Settings → View → FullName →
    Result Reference Error → Type 0
IsPackedAgain honest settings view name (Ok r) =
    let s = meaning_in settings in
    (r.name ≡ name)
    × (honest → OfKey s (full_bytes name)
    (λ key. IsRecordNow settings.kind (view s.packed_path) key r))
IsPackedAgain honest settings view name (Err error) =
    let s = meaning_in settings in
    IsPackedUnread s.packed_path error
    ⊎ ((honest → HasNoRecord settings view (full_bytes name))
    × IsGone (s.place (full_bytes name)) error)

-- A name that is asked for once more, as an item: by the file at its own place; or none is there, and by its record.
abbrev pub IsAskedAgain : (honest : Type 0) → Settings → View → (before now : FaultCounts) →
    FullName → Result Reference Error → Type 0
IsAskedAgain honest settings view before now name item =
    let s = meaning_in settings in
    let place = s.place (full_bytes name) in
    IsFileItem honest settings view before now name place item
    ⊎ ((honest → view place ≡ None) × (s.is_prohibited place ≡ false)
    × IsPackedAgain honest settings view name item)

-- The file that was found is gone, which it is not in files that keep their meaning: the item is what its name reads then.
abbrev pub IsGoneItem : (honest : Type 0) → Settings → View → (before now : FaultCounts) → Found →
    Result Reference Error → Type 0
IsGoneItem honest settings view before now (File name path) item =
    (honest → view path.items ≡ None) × IsAskedAgain honest settings view before now name item
IsGoneItem honest settings view before now (Unlisted path source) item = ⊥

-- what was found as it is read: as an item; or its file is gone
abbrev pub IsFoundOrGone : (honest : Type 0) → Settings → View → (before now : FaultCounts) →
    Found → Result Reference Error → Type 0
IsFoundOrGone honest settings view before now found item =
    IsFoundItem honest settings view before now found item
    ⊎ IsGoneItem honest settings view before now found item

-- one of a listing as it is read
abbrev pub IsGivenItem : (honest : Type 0) → Settings → View → (before now : FaultCounts) → Listed →
    Result Reference Error → Type 0
IsGivenItem honest settings view before now (Walked e) item =
    IsFoundOrGone honest settings view before now e.1 item
IsGivenItem honest settings view before now (InPacked own) item =
    IsRecordItem settings own item

-- what was taken as an item
abbrev pub IsTakenItem : (honest : Type 0) → Settings → View → (before now : FaultCounts) → Taken →
    Result Reference Error → Type 0
IsTakenItem honest settings view before now (taking.Walked found) item =
    IsFoundOrGone honest settings view before now found item
IsTakenItem honest settings view before now (taking.Packed (Ok own)) item =
    IsRecordItem settings (own_of own) item
IsTakenItem honest settings view before now (taking.Packed (Err error)) (Ok r) = ⊥
IsTakenItem honest settings view before now (taking.Packed (Err line)) (Err error) =
    IsOfLine line error
