-- Searches among open records that fail.
use Rattle.std.specs.Prelude.{◌≡◌, ◌⊎◌, ℕ, List, Bool, true, false, Option, Some, None}
use Rattle.gix_ref_hash.specs.declared.hash.Kind.{Kind}
use Rattle.gix_ref_files.specs.declared.files.ReadAt.{Ghosts}
use Rattle.gix_ref_hash.specs.declared.hash.ObjectId.{ObjectId}
use Rattle.gix_ref_theory.specs.Views.{View}
use Rattle.gix_ref_edits.specs.RefEdits.{name_of}
use Rattle.gix_ref_packed_text.specs.Positions.{CannotRead}
use Rattle.gix_ref_packed_text.specs.Windows.{HitsRecord}
use Rattle.gix_ref_packed_text.specs.declared.packed.window.Found.{Found}
use Rattle.gix_ref_target.specs.PackedRecords.{Record}
use Rattle.gix_ref_files.specs.declared.files.FileError.{FileError}
use Rattle.gix_ref_files.specs.Files.{Meaning, FaultCounts}
use Rattle.gix_ref_files.specs.Tree.{Content}
use Rattle.gix_ref_theory.specs.OnRealTrees.{view_of}
use Rattle.gix_ref_theory.specs.Readings.{Store}
use Rattle.gix_ref_edits.specs.declared.transaction.RefEdit.{RefEdit}
use Rattle.gix_ref_lookup.specs.Lookups.{AreAsked, AreHonest, ArePackedRecords, FindsNone, HasNoKey, OfKey, OfSearched}
use Rattle.gix_ref_transaction.specs.Causes.{IsCountedWith, IsFindCause, IsHidden, IsIoOrMemory, IsPackedRefusal, OfFind}
use Rattle.gix_ref_transaction.specs.declared.prepare.error.Error.{Error}
use Rattle.gix_ref_transaction.specs.declared.prepare.error.Error.TheVariants.{PackedFind}
use Rattle.gix_ref_lookup.specs.declared.find.loose.Loose.{Loose}
use Rattle.gix_ref_lookup.specs.declared.find.loose.Loose.TheVariants as loose_files
use Rattle.gix_ref_lookup.specs.declared.find.records.Records.{Records}

-- the record of this key cannot be read in a text that is searched
abbrev pub IsStuckKey : {R : Type 0} {G : Ghosts R} → Kind → Records R G → (key : List ℕ) → Type 0
IsStuckKey kind records key = OfSearched kind None records
    (λ of_kind text. CannotRead of_kind text key)

-- what a search for a key finds among records
abbrev pub IsSearchedId : {R : Type 0} {G : Ghosts R} → Kind → Records R G → (key : List ℕ) →
    Option ObjectId → Type 0
IsSearchedId kind records key None = FindsNone kind None records
IsSearchedId kind records key (Some id) = OfSearched kind None records
    (λ k text. (found : Found) × HitsRecord k text key found × (found.target ≡ id))

-- and for the key of a name
abbrev pub IsNamedId : {R : Type 0} {G : Ghosts R} → Store → Kind → Records R G → (name : List ℕ) →
    Option ObjectId → Type 0
IsNamedId s kind records name id = (HasNoKey s name × (id ≡ None))
    ⊎ OfKey s name (λ key. IsSearchedId kind records key id)

-- and so of an edit, whose record is asked for
abbrev pub IsAskedId : {R : Type 0} {G : Ghosts R} → Store → Kind → View → Records R G → RefEdit →
    Option ObjectId → Type 0
IsAskedId s kind view records edit id = IsHidden s view edit
    ⊎ IsNamedId s kind records (name_of edit) id

-- a loose file was found that holds a target
abbrev pub is_held : Loose → Bool
is_held (loose_files.Holds target) = true
is_held other = false

-- an error of a search for a record
abbrev pub IsFindError : Error → Type 0
IsFindError (PackedFind error) = Unit {0}
IsFindError other = ⊥

-- Why a search among records failed: where they can be read, by a fault of files or of memory; and with an honest reader `Packed` is returned
-- only for such a fault, and `PackedFind` only where this is bad.
pub record IsSearchFault {R : Type 0} {G : Ghosts R} (records : Records R G) (Bad : Kind → Type 0)
    (error : Error) : Type 0 where
  pub sound : (kind : Kind) (rs : List Record) → AreAsked kind None records rs → IsIoOrMemory error
  pub refused : AreHonest records → (kind : Kind) (packed : Option Content) →
      IsPackedRefusal kind packed error
  pub unread : AreHonest records → (kind : Kind) → OfFind (Bad kind) error

-- Why the records of edits are not found, which asks for `packed-refs` at first: where that is well formed, by a fault of files or of memory;
-- `Packed` is returned for a `packed-refs` that is refused, and `PackedFind` where the record of an edit cannot be read; a fault of files was
-- counted by them or by a reader.
pub record AreNotFound {F : Type 0} (honest : Type 0) (read : FileError → Type 0)
    (means : F → Meaning) (faults : F → FaultCounts)
    (s : Store) (kind : Kind) (edits : List RefEdit) (before now : F) (error : Error) : Type 0 where
  pub sound : honest → (rs : List Record) → ArePackedRecords kind
      (view_of (means before).tree s.packed_path) rs → IsIoOrMemory error
  pub refused : honest → IsPackedRefusal kind ((means before).tree s.packed_path) error
  pub unread : honest → IsFindCause s kind (view_of (means before).tree) edits error
  pub counted : IsCountedWith honest read (faults before) (faults now) error
