-- The items of a listing: a reference for each name, or why it has none.
use Rattle.std.specs.Prelude.{◌≡◌, ◌≢◌, ℕ, List, Some, None, Result, Ok, Err, true, false}
use Rattle.gix_ref_hash.specs.declared.hash.Kind.{Kind}
use Rattle.gix_ref_name.specs.Names.{full_bytes}
use Rattle.gix_ref_name.specs.declared.name.FullName.{FullName}
use Rattle.gix_ref_target.specs.Targets.{target_value}
use Rattle.gix_ref_files.specs.Files.{FaultCounts, IsMet}
use Rattle.gix_ref_files.specs.declared.files.FileError.TheVariants.{Memory as no_memory}
use Rattle.gix_ref_theory.specs.Readings.{Store, reading_of_record}
use Rattle.gix_ref_theory.specs.Readings.Reading.{Is}
use Rattle.gix_ref_theory.specs.Lookups.{peeled_of}
use Rattle.gix_ref_theory.specs.Views.{View}
use Rattle.gix_ref_packed.specs.declared.packed.iter.error.Error.{Error as LineError}
use Rattle.gix_ref_packed.specs.declared.packed.iter.error.Error.TheVariants.{Header as bad_header, Reference as bad_line}
use Rattle.gix_ref_packed_text.specs.declared.raw.Reference.{Reference}
use Rattle.gix_ref_lookup.specs.LooseFiles.{IsUndecodable}
use Rattle.gix_ref_lookup.specs.Lookups.{meaning_in, IsLooseTarget}
use Rattle.gix_ref_lookup.specs.declared.settings.Settings.{Settings}
use Rattle.gix_ref_lookup.specs.declared.find.error.ReadError.TheVariants.{File as file_error, DeviceName}
use Rattle.gix_ref_lookup.specs.declared.find.error.Error.{Error as LookupError}
use Rattle.gix_ref_lookup.specs.declared.find.error.Error.TheVariants as looking
use Rattle.gix_ref_listing.specs.OwnRecords.{Own}
use Rattle.gix_ref_listing.specs.Listings.{Listed}
use Rattle.gix_ref_listing.specs.Listings.Listed.{Walked, InPacked}
use Rattle.gix_ref_listing.specs.declared.found.Found.{Found}
use Rattle.gix_ref_listing.specs.declared.found.Found.TheVariants.{File, Unlisted}
use Rattle.gix_ref_listing.specs.declared.error.Error.{Error}
use Rattle.gix_ref_listing.specs.declared.error.Error.TheVariants.{Traversal, ReadFileContents, ReferenceCreation, PackedReference, Memory}

-- the fault of an item where its file was not read for this reason
abbrev pub of_reading : LookupError → Error
of_reading (looking.ReadFileContents source path) = ReadFileContents source path
of_reading (looking.ReferenceCreation source path) = ReferenceCreation source path
of_reading (looking.RefnameValidation error) = Memory
of_reading (looking.PackedRef error) = Memory
of_reading (looking.PackedOpen error) = Memory
of_reading looking.Memory = Memory

-- the fault of a line that is no record; or there was no memory for it
abbrev pub IsOfLine : LineError → Error → Type 0
IsOfLine (bad_line line number) (PackedReference text n) = (text.items ≡ line.now) × (n ≡ number)
IsOfLine (bad_header line) (PackedReference text n) = (text.items ≡ line.now) × (n ≡ 1)
IsOfLine line Memory = Unit {0}
IsOfLine line other = ⊥

-- Why the file of a name gives no target: it could not be read, by this fault, which was counted; its path has the name of a
-- device, and the store prohibits these; it holds none, with the reason; no memory.
abbrev pub IsUnread : (honest : Type 0) → Kind → Store → View → (before now : FaultCounts) →
    (name path : List ℕ) → Error → Type 0
IsUnread honest kind s view before now name at (ReadFileContents (file_error source) path) =
    IsMet source before now × (source ≢ no_memory) × (path.items ≡ at)
IsUnread honest kind s view before now name at (ReadFileContents DeviceName path) =
    (s.is_prohibited at ≡ true) × (path.items ≡ at)
IsUnread honest kind s view before now name at (ReferenceCreation source path) = (path.items ≡ name)
    × (honest → IsUndecodable kind (view at) source)
IsUnread honest kind s view before now name at Memory = Unit {0}
IsUnread honest kind s view before now name at other = ⊥

-- The file at a path as the item of a name: its target, or why it has none.
abbrev pub IsFileItem : (honest : Type 0) → Settings → View → (before now : FaultCounts) →
    FullName → (path : List ℕ) → Result Reference Error → Type 0
IsFileItem honest settings view before now name path (Ok r) =
    (r.name ≡ name)
    × (honest → IsLooseTarget (meaning_in settings) (view path) (Some r.target))
    × (r.peeled ≡ None)
    × ((meaning_in settings).is_prohibited path ≡ false)
IsFileItem honest settings view before now name path (Err error) =
    IsUnread honest settings.kind (meaning_in settings) view before now (full_bytes name) path error

-- What was found as an item: the file of a name; or a folder that could not be listed as that fault.
abbrev pub IsFoundItem : (honest : Type 0) → Settings → View → (before now : FaultCounts) → Found →
    Result Reference Error → Type 0
IsFoundItem honest settings view before now (File name path) item =
    IsFileItem honest settings view before now name path.items item
IsFoundItem honest settings view before now (Unlisted path source) (Ok r) = ⊥
IsFoundItem honest settings view before now (Unlisted path source) (Err error) = error
    ≡ Traversal source path

-- the store prohibits nothing at the place of the name
abbrev pub IsAllowed : Store → (name : List ℕ) → Type 0
IsAllowed s name = s.is_prohibited (s.place name) ≡ false

-- the reference of a record: its name, its id, and the id at which its tag ends
abbrev pub IsOfRecord : Own → Reference → Type 0
IsOfRecord own r =
    (full_bytes r.name ≡ own.name) × (reading_of_record (Some own.of) ≡ Is (target_value r.target))
    × (r.peeled ≡ peeled_of (Some own.of))

-- Why the record of a name is not given, as a lookup of the name says it: its place has the name of a device, and the store
-- prohibits these; or no memory.
abbrev pub IsRecordFault : Store → (name : List ℕ) → Error → Type 0
IsRecordFault s name (ReadFileContents DeviceName path) =
    (s.is_prohibited (s.place name) ≡ true) × (path.items ≡ s.place name)
IsRecordFault s name Memory = Unit {0}
IsRecordFault s name other = ⊥

-- a record as an item: its reference, where the store prohibits nothing at the place of its name; or why it is not given
abbrev pub IsRecordItem : Settings → Own → Result Reference Error → Type 0
IsRecordItem settings own (Ok r) = IsOfRecord own r × IsAllowed (meaning_in settings) own.name
IsRecordItem settings own (Err error) = IsRecordFault (meaning_in settings) own.name error

-- one of a listing as an item
abbrev pub IsItem : (honest : Type 0) → Settings → View → (before now : FaultCounts) → Listed →
    Result Reference Error → Type 0
IsItem honest settings view before now (Walked e) item =
    IsFoundItem honest settings view before now e.1 item
IsItem honest settings view before now (InPacked own) item =
    IsRecordItem settings own item
