-- Why `prepare` refuses edits: each cause as a statement on the tree before the call, and the order in which they are reported.
use Rattle.std.specs.Prelude.{◌≡◌, ◌≢◌, ◌⊎◌, ℕ, List, [], ◌∷◌, Bool, true, false, ◌&&◌, ◌||◌, Option, Some, None, IsSome, is_some, map, All, if◌then◌else◌}
use Rattle.std.specs.List.{list_any, Any}
use Rattle.std.specs.Option.{option_map}
use Rattle.gix_ref_hash.specs.Ids.{id_kind, null_id, IsWhole}
use Rattle.gix_ref_name.specs.NameGrammar.{IsFullName}
use Rattle.gix_ref_name.specs.Names.{full_bytes}
use Rattle.gix_ref_target.specs.Targets.{TargetValue, target_value}
use Rattle.gix_ref_target.specs.Targets.TargetValue.{object_id, symbolic_name}
use Rattle.gix_ref_hash.specs.declared.hash.Kind.{Kind}
use Rattle.gix_ref_files.specs.Tree.{Tree, Path, Content, is_blocked, is_file, fronts}
use Rattle.gix_ref_files.specs.Files.{FaultCounts, IsMet}
use Rattle.gix_ref_files.specs.declared.files.FileError.{FileError}
use Rattle.gix_ref_files.specs.declared.files.FileError.TheVariants.{Device, NotUtf8, Memory as out_of_memory}
use Rattle.gix_ref_theory.specs.Views.{View}
use Rattle.gix_ref_files.specs.Lock.{lock_of}
use Rattle.gix_ref_theory.specs.OnRealTrees.{view_of}
use Rattle.gix_ref_target.specs.PackedRecords.{Record, record_named, id_read}
use Rattle.gix_ref_hash.specs.declared.hash.ObjectId.{ObjectId}
use Rattle.gix_ref_packed.specs.Buffers.{IsRefusedFile}
use Rattle.gix_ref_packed.specs.declared.packed.buffer.open.Error.TheVariants.{Io as unread}
use Rattle.gix_ref_lookup.specs.Lookups.{meaning_in, ArePackedRecords, HasNoKey, IsOpenedText, OfKey}
use Rattle.gix_ref_lookup.specs.declared.settings.Settings.{Settings}
use Rattle.gix_ref_packed.specs.declared.packed.find.Error.TheVariants.{Parse}
use Rattle.gix_ref_packed_text.specs.Positions.{CannotRead, IsNotMalformed}
use Rattle.gix_ref_packed_text.specs.Windows.{HitsRecord}
use Rattle.gix_ref_packed_text.specs.declared.packed.window.Found.{Found}
use Rattle.gix_ref_theory.specs.Edits.{Mode, is_object, packs_updates, removes_packed}
use Rattle.gix_ref_theory.specs.Readings.{Store, as_read, records_of_file}
use Rattle.gix_ref_target.specs.Locations.{is_safe}
use Rattle.gix_ref_transaction.specs.OwnLocks.{is_in}
use Rattle.gix_ref_transaction.specs.First.{AllPass, FirstFault}
use Rattle.gix_ref_edits.specs.DoubledNames.{NoneDoubled, IsLeastDoubled}
use Rattle.gix_ref_edits.specs.declared.transaction.ext.error.SplitError.TheVariants.{DoubledName}
use Rattle.gix_ref_edits.specs.RefEdits.{name_of, new_of, expected_of, mode_of, is_of_reference, previous_of, Expects}
use Rattle.gix_ref_edits.specs.declared.transaction.Change.{Change}
use Rattle.gix_ref_edits.specs.declared.transaction.Change.TheVariants.{Update, Delete}
use Rattle.gix_ref_edits.specs.declared.transaction.PreviousValue.{PreviousValue}
use Rattle.gix_ref_edits.specs.declared.transaction.PreviousValue.TheVariants.{MustExist, MustNotExist as must_not_exist, MustExistAndMatch}
use Rattle.gix_ref_edits.specs.declared.transaction.RefEdit.{RefEdit}
use Rattle.gix_ref_transaction.specs.declared.prepare.error.Error.{Error}
use Rattle.gix_ref_transaction.specs.declared.prepare.error.Error.TheVariants.{UnsafeName, DeviceName, DeleteMustNotExist, TargetNotFull, OtherHashKind, PreprocessingFailed, PackedTransactionAcquire, Packed, PackedFind, PathCollision, LockAcquire, DeleteReferenceMustExist, MustExist as must_exist, MustNotExist, ReferenceOutOfDate, Io, Memory}

-- how a fault of files is reported
abbrev pub cause_of : FileError → Error
cause_of (Device kind) = Io (Device kind)
cause_of NotUtf8 = Io NotUtf8
cause_of out_of_memory = Memory

-- `Io` is returned only with a fault that was counted, and never for want of memory.
abbrev pub IsCounted : FaultCounts → FaultCounts → Error → Type 0
IsCounted before now (Io error) = IsMet error before now × (error ≡ out_of_memory → ⊥)
IsCounted before now (Packed error) = ⊥
IsCounted before now (PackedFind error) = ⊥
IsCounted before now other = Unit {0}

-- And so where `packed-refs` is read too: of honest files, `Packed` of `Io` is returned only where this fault was counted by them or by
-- a reader.
abbrev pub IsCountedWith : (honest : Type 0) → (read : FileError → Type 0) → FaultCounts →
    FaultCounts → Error → Type 0
IsCountedWith honest read before now (Packed (unread error)) = honest →
    (IsMet error before now ⊎ read error)
    × (error ≡ out_of_memory → ⊥)
IsCountedWith honest read before now (Packed error) = Unit {0}
IsCountedWith honest read before now (PackedFind error) = Unit {0}
IsCountedWith honest read before now error = IsCounted before now error

-- a fault of files or of memory, which can come anywhere
abbrev pub IsIoOrMemory : Error → Type 0
IsIoOrMemory (Io error) = Unit {0}
IsIoOrMemory (Packed (unread error)) = Unit {0}
IsIoOrMemory Memory = Unit {0}
IsIoOrMemory other = ⊥

-- neither a fault of files nor one of `packed-refs`
abbrev pub IsNotIo : Error → Type 0
IsNotIo (Io error) = ⊥
IsNotIo (Packed error) = ⊥
IsNotIo (PackedFind error) = ⊥
IsNotIo other = Unit {0}

-- `Packed` is returned for a `packed-refs` that is refused: it cannot be read, its header cannot, or a line of it is no record
abbrev pub IsPackedRefusal : Kind → Option Content → Error → Type 0
IsPackedRefusal kind packed (Packed error) = IsRefusedFile kind packed error
IsPackedRefusal kind packed other = Unit {0}

-- `packed-refs` is well formed, or there is none
abbrev pub IsPackedWell : Kind → Option (List ℕ) → Type 0
IsPackedWell kind packed = (records : List Record) × ArePackedRecords kind packed records

-- Each edit by itself: its name is safe, its place is not prohibited, it is no deletion that expects nothing, the name of a symbolic
-- target is a full name, and its ids are of the store's kind.

-- a deletion does not expect that there is no reference
abbrev pub IsPossible : Change → Type 0
IsPossible (Update log expected new) = Unit {0}
IsPossible (Delete must_not_exist log) = ⊥
IsPossible (Delete expected log) = Unit {0}

-- a target whose name, if it has one, is a full name
abbrev pub IsFullTarget : Option TargetValue → Type 0
IsFullTarget (Some (symbolic_name name)) = IsFullName name
IsFullTarget other = Unit {0}

-- a target whose id, if it has one, is of the kind
abbrev pub IsOfKind : Kind → Option TargetValue → Type 0
IsOfKind kind (Some (object_id id)) = id_kind id ≡ kind
IsOfKind kind other = Unit {0}

-- a target whose id, if it has one, has as many bytes as its kind says: every target
abbrev pub IsWholeTarget : Option TargetValue → Type 0
IsWholeTarget (Some (object_id id)) = IsWhole id
IsWholeTarget other = Unit {0}

-- both ids of an edit, the new and the expected one
abbrev pub HasKind : Kind → RefEdit → Type 0
HasKind kind edit = IsOfKind kind (new_of edit.change)
    × IsOfKind kind (previous_of (expected_of edit.change))

-- a name that may be edited: it is safe, and its place is not prohibited
pub record IsWellNamed (s : Store) (name : List ℕ) : Type 0 where
  pub safe : is_safe name ≡ true
  pub allowed : s.is_prohibited (s.place name) ≡ false

-- the first of these that does not hold
abbrev pub IsMisnamed : Store → List ℕ → Error → Type 0
IsMisnamed s name UnsafeName = is_safe name ≡ false
IsMisnamed s name DeviceName = (is_safe name ≡ true) × (s.is_prohibited (s.place name) ≡ true)
IsMisnamed s name other = ⊥

pub record IsValidEdit (s : Store) (kind : Kind) (edit : RefEdit) : Type 0 where
  pub safe : is_safe (name_of edit) ≡ true
  pub allowed : s.is_prohibited (s.place (name_of edit)) ≡ false
  pub possible : IsPossible edit.change
  pub target : IsFullTarget (new_of edit.change)
  pub kinds : HasKind kind edit
  pub whole : IsWholeTarget (new_of edit.change)

-- the first of these that does not hold
abbrev pub IsInvalidEdit : Store → Kind → RefEdit → Error → Type 0
IsInvalidEdit s kind edit UnsafeName = is_safe (name_of edit) ≡ false
IsInvalidEdit s kind edit DeviceName = (is_safe (name_of edit) ≡ true)
    × (s.is_prohibited (s.place (name_of edit)) ≡ true)
IsInvalidEdit s kind edit DeleteMustNotExist = IsWellNamed s (name_of edit)
    × (IsPossible edit.change → ⊥)
IsInvalidEdit s kind edit TargetNotFull = IsWellNamed s (name_of edit) × IsPossible edit.change
    × (IsFullTarget (new_of edit.change) → ⊥)
IsInvalidEdit s kind edit OtherHashKind =
    IsWellNamed s (name_of edit) × IsPossible edit.change × IsFullTarget (new_of edit.change)
    × (HasKind kind edit → ⊥)
IsInvalidEdit s kind edit other = ⊥

abbrev pub AllValid : Store → Kind → List RefEdit → List RefEdit → Type 0
AllValid s kind seen edits = AllPass {E = Error} (λ _ edit. IsValidEdit s kind edit)
    (λ _ edit error. IsInvalidEdit s kind edit error) seen edits

abbrev pub IsFirstInvalid : Store → Kind → List RefEdit → List RefEdit → Error → Type 0
IsFirstInvalid s kind seen edits error = FirstFault (λ _ edit. IsValidEdit s kind edit)
    (λ _ edit error. IsInvalidEdit s kind edit error) seen edits error

-- No two edits have one name.

-- the names of edits
abbrev pub names_of : List RefEdit → List (List ℕ)
names_of edits = map name_of edits

-- the least name that occurs twice
abbrev pub IsDoubling : List RefEdit → Error → Type 0
IsDoubling edits (PreprocessingFailed (DoubledName name)) =
    IsLeastDoubled (names_of edits) (full_bytes name)
IsDoubling edits other = ⊥

-- The lock of `packed-refs`: it is taken before the records are read, where an edit of a reference may have one.

-- an edit of a reference, and not of its log alone, that may have a record
abbrev pub is_packable : Store → RefEdit → Bool
is_packable s edit = is_of_reference (mode_of edit.change) && is_some (s.key (name_of edit))

abbrev pub ask_packed : Store → List RefEdit → Bool
ask_packed s edits = list_any (is_packable s) edits

-- an update to an object
abbrev pub is_new_object : Option TargetValue → Bool
is_new_object None = false
is_new_object (Some target) = is_object target

abbrev pub updates_object : Change → Bool
updates_object change = is_new_object (new_of change)

-- an edit that puts the object of an update into `packed-refs`
abbrev pub packs_edit : Store → Mode → RefEdit → Bool
packs_edit s mode edit = (packs_updates mode && updates_object edit.change) && is_packable s edit

-- and whose loose file is removed
abbrev pub goes_alone : Store → Mode → RefEdit → Bool
goes_alone s mode edit = removes_packed mode && packs_edit s mode edit

-- something is at the path of a lock, or a file is in the way of it
abbrev pub IsInTheWay : Tree → Path → Type 0
IsInTheWay T lock = IsSome (T lock) ⊎ (is_blocked T lock ≡ true)

-- some edit puts an object into `packed-refs`
abbrev pub packs_some : Store → Mode → List RefEdit → Bool
packs_some s mode edits = list_any (packs_edit s mode) edits

-- `packed-refs` may change: it is a file, or an object is put into it
abbrev pub may_change : Store → Mode → Tree → List RefEdit → Bool
may_change s mode T edits = is_file (T s.packed_path) || packs_some s mode edits

-- It is asked for and cannot be taken: something is at its path, or it is to be taken and a file is in the way of it.
abbrev pub IsPackedLocked : Store → Mode → Tree → List RefEdit → Type 0
IsPackedLocked s mode T edits =
    (ask_packed s edits ≡ true)
    × (IsSome (T (lock_of s.packed_path))
    ⊎ ((may_change s mode T edits ≡ true) × IsInTheWay T (lock_of s.packed_path)))

abbrev pub IsPackedCause : Store → Mode → Tree → List RefEdit → Error → Type 0
IsPackedCause s mode T edits PackedTransactionAcquire = IsPackedLocked s mode T edits
IsPackedCause s mode T edits other = ⊥

-- It is taken where `packed-refs` may change: the place of the lock, or none.
abbrev pub packed_taken : Store → Mode → Tree → List RefEdit → List Path
packed_taken s mode T edits = if ask_packed s edits && may_change s mode T edits
    then s.packed_path ∷ [] else []

-- What is found of a reference: its reading, with a file that holds no target counted as none.

-- the target of a file, if it holds one
abbrev pub decoded : Store → Option (List ℕ) → Option TargetValue
decoded s None = None
decoded s (Some bytes) = s.target_of bytes

-- the id of a record, if there is one and its digits can be read
abbrev pub id_of_record : Option Record → Option ObjectId
id_of_record None = None
id_of_record (Some r) = id_read r.target

-- the id of the record of a key, if there is a key
abbrev pub packed_id : Option (List ℕ) → List Record → Option ObjectId
packed_id None records = None
packed_id (Some key) records = id_of_record (record_named key records)

-- the target of the loose file, or else the object of the record
abbrev pub found_by : Store → Option TargetValue → Option ObjectId → Option TargetValue
found_by s (Some target) packed = Some (as_read s target)
found_by s None packed = option_map object_id packed

-- the id of a name's record among these files
abbrev pub packed_of : Store → View → List ℕ → Option ObjectId
packed_of s view name = packed_id (s.key name) (records_of_file s (view s.packed_path))

abbrev pub found : Store → View → List ℕ → Option TargetValue
found s view name = found_by s (decoded s (view (s.place name))) (packed_of s view name)

-- The records of edits, on any text of `packed-refs`.

-- the change deletes its reference, and not its log alone
abbrev pub deletes_reference : Change → Bool
deletes_reference (Update log expected new) = false
deletes_reference (Delete expected log) = is_of_reference log

-- The record of an edit is not asked for: the edit does not delete its reference, and a loose file holds the target.
abbrev pub IsHidden : Store → View → RefEdit → Type 0
IsHidden s view edit = (deletes_reference edit.change ≡ false)
    × IsSome (decoded s (view (s.place (name_of edit))))

-- of honest files: it is not
abbrev pub NotHidden : (honest : Type 0) → Settings → View → RefEdit → Type 0
NotHidden honest settings view edit = honest → IsHidden (meaning_in settings) view edit → ⊥

-- the text of records of an open `packed-refs` has this
pub record OfOpened (kind : Kind) (packed : Option (List ℕ))
    (P : Kind → List ℕ → Type 0) : Type 0 where
  pub of_kind : Kind
  pub text : List ℕ
  pub opened : IsOpenedText kind packed of_kind text
  pub has : P of_kind text

-- the record of this key cannot be read: it is damaged, or it was not found and a line that is no record was met
abbrev pub IsUnreadableRecord : Kind → Option (List ℕ) → List ℕ → Type 0
IsUnreadableRecord kind packed key = OfOpened kind packed (λ k text. CannotRead k text key)

-- `PackedFind` is returned only as `Parse`, and only where this holds
abbrev pub OfFind : Type 0 → Error → Type 0
OfFind P (PackedFind Parse) = P
OfFind P (PackedFind other) = ⊥
OfFind P other = Unit {0}

-- and so only where this holds of the key of an edit whose record is asked for
abbrev pub OfSomeKey : (Asked : RefEdit → Type 0) → (Bad : List ℕ → Type 0) → Store →
    List RefEdit → Type 0
OfSomeKey Asked Bad s edits = Any (λ (edit : RefEdit). Asked edit × OfKey s (name_of edit) Bad)
    edits

-- `PackedFind` is returned only where the record of an edit is asked for and cannot be read
abbrev pub IsFindCause : Store → Kind → View → List RefEdit → Error → Type 0
IsFindCause s kind view edits error =
    OfFind (OfSomeKey (λ edit. IsHidden s view edit → ⊥)
    (IsUnreadableRecord kind (view s.packed_path)) s edits) error

-- what a search for a key finds: the id of a record that begins a line; none where there is no file, or a text that does not consist of
-- malformed lines alone
abbrev pub IsIdOfKey : Kind → Option (List ℕ) → (key : List ℕ) → Option ObjectId → Type 0
IsIdOfKey kind packed key None = (packed ≡ None) ⊎ OfOpened kind packed IsNotMalformed
IsIdOfKey kind packed key (Some id) =
    OfOpened kind packed (λ k text. (found : Found) × HitsRecord k text key found
    × (found.target ≡ id))

-- The id that an edit has of its record, which is asked for by the key. Nothing is said where it is not asked for.
abbrev pub IsRecordId : Store → Kind → View → RefEdit → Option ObjectId → Type 0
IsRecordId s kind view edit id =
    IsHidden s view edit
    ⊎ ((HasNoKey s (name_of edit) × (id ≡ None))
    ⊎ OfKey s (name_of edit) (λ key. IsIdOfKey kind (view s.packed_path) key id))

-- this holds of each edit and its id
abbrev pub AllWithIds : (RefEdit → Option ObjectId → Type 0) → List RefEdit →
    List (Option ObjectId) → Type 0
AllWithIds P [] [] = Unit {0}
AllWithIds P (edit ∷ edits) (id ∷ ids) = P edit id × AllWithIds P edits ids
AllWithIds P edits ids = ⊥

-- and so of edits: these are the ids of their records
abbrev pub AreRecordIds : Store → Kind → View → List RefEdit → List (Option ObjectId) → Type 0
AreRecordIds s kind view edits ids = AllWithIds (IsRecordId s kind view) edits ids

-- What an edit expects against what is found.

-- the target that has to be there; the null id means any
abbrev pub required : Kind → PreviousValue → Option TargetValue
required kind MustExist = Some (object_id (null_id kind))
required kind (MustExistAndMatch target) = Some (target_value target)
required kind other = None

-- nothing was found where something has to be; another target than the new one, where none was to be; another than the expected one
abbrev pub IsMismatch : Kind → RefEdit → Option TargetValue → Error → Type 0
IsMismatch kind edit found (DeleteReferenceMustExist name) =
    (full_bytes name ≡ name_of edit) × (new_of edit.change ≡ None)
    × IsSome (required kind (expected_of edit.change)) × (found ≡ None)
IsMismatch kind edit found (must_exist name expected) =
    (full_bytes name ≡ name_of edit) × IsSome (new_of edit.change)
    × (required kind (expected_of edit.change) ≡ Some (target_value expected)) × (found ≡ None)
IsMismatch kind edit found (MustNotExist name actual new) =
    (full_bytes name ≡ name_of edit) × (expected_of edit.change ≡ must_not_exist)
    × (new_of edit.change ≡ Some (target_value new))
    × (found ≡ Some (target_value actual)) × (target_value actual ≢ target_value new)
IsMismatch kind edit found (ReferenceOutOfDate name expected actual) =
    (full_bytes name ≡ name_of edit)
    × (previous_of (expected_of edit.change) ≡ Some (target_value expected))
    × (found ≡ Some (target_value actual)) × (target_value actual ≢ target_value expected)
IsMismatch kind edit found Memory = Unit {0}
IsMismatch kind edit found other = ⊥

-- the lock of each of these edits
abbrev pub locks_of : Store → List RefEdit → List Path
locks_of s edits = map (λ (edit : RefEdit). lock_of (s.place (name_of edit))) edits

module _ (s : Store) (kind : Kind) (T : Tree) where
  -- a file in the path of the lock; or something at the lock, in the tree or by an earlier edit of the same place
  abbrev pub IsUnlockable : List RefEdit → RefEdit → Error → Type 0
  IsUnlockable earlier edit (PathCollision name) = (full_bytes name ≡ name_of edit)
      × (is_blocked T (lock_of (s.place (name_of edit))) ≡ true)
  IsUnlockable earlier edit (LockAcquire name) =
      (full_bytes name ≡ name_of edit)
      × (IsSome (T (lock_of (s.place (name_of edit))))
      ⊎ (is_in (locks_of s earlier) (lock_of (s.place (name_of edit))) ≡ true))
  IsUnlockable earlier edit other = ⊥

  pub record IsLockable (earlier : List RefEdit) (edit : RefEdit) : Type 0 where
    pub way : is_blocked T (lock_of (s.place (name_of edit))) ≡ false
    pub free : T (lock_of (s.place (name_of edit))) ≡ None
    pub ours : is_in (locks_of s earlier) (lock_of (s.place (name_of edit))) ≡ false

  -- an edit passes: its lock can be taken, and it expects what is found
  abbrev pub IsEditAccepted : List RefEdit → RefEdit → Type 0
  IsEditAccepted earlier edit = IsLockable earlier edit
      × Expects (expected_of edit.change) (new_of edit.change) (found s (view_of T) (name_of edit))

  -- an edit is at fault: at its lock, and then at its expectation; files and memory can fail anywhere
  abbrev pub IsEditFault : List RefEdit → RefEdit → Error → Type 0
  IsEditFault earlier edit error =
      IsIoOrMemory error ⊎ (IsUnlockable earlier edit error ⊎ (IsLockable earlier edit
      × IsMismatch kind edit (found s (view_of T) (name_of edit)) error))

-- The lock of `packed-refs` is not that of an edit, nor on the way to it, nor its place; nor is that of the edit on the way to it.
pub record IsApartFromPacked (s : Store) (edit : RefEdit) : Type 0 where
  pub lock : lock_of (s.place (name_of edit)) ≢ lock_of s.packed_path
  pub way : is_in (fronts (lock_of (s.place (name_of edit)))) (lock_of s.packed_path) ≡ false
  pub place : s.place (name_of edit) ≢ lock_of s.packed_path
  pub behind : is_in (fronts (lock_of s.packed_path)) (lock_of (s.place (name_of edit))) ≡ false

-- No lock lies at a place, at `packed-refs` or on the way to a lock.
pub record LocksAreApart (s : Store) (edits : List RefEdit) : Type 0 where
  pub ways : (lock q : Path) → is_in (locks_of s edits) lock ≡ true →
      is_in (locks_of s edits) q ≡ true → is_in (fronts lock) q ≡ false
  pub places : All
      (λ (edit : RefEdit). is_in (locks_of s edits) (s.place (name_of edit)) ≡ false) edits
  pub packed : is_in (locks_of s edits) s.packed_path ≡ false
  pub packed_locks : All (IsApartFromPacked s) edits
  pub packed_lock : s.packed_path ≢ lock_of s.packed_path
  pub packed_way : is_in (fronts (lock_of s.packed_path)) s.packed_path ≡ false

-- No edit has a cause to be refused, each after those before it.
abbrev pub NoCause : Store → Kind → Tree → List RefEdit → List RefEdit → Type 0
NoCause s kind T seen edits = AllPass (IsEditAccepted s kind T) (IsEditFault s kind T) seen edits

-- The cause of the first edit that has one.
abbrev pub IsFirstCause : Store → Kind → Tree → List RefEdit → List RefEdit → Error → Type 0
IsFirstCause s kind T seen edits error = FirstFault (IsEditAccepted s kind T)
    (IsEditFault s kind T) seen edits error

-- no cause applies
pub record IsAccepted
    (s : Store) (mode : Mode) (kind : Kind) (T : Tree) (edits : List RefEdit) : Type 0 where
  pub sound : AllValid s kind [] edits
  pub single : NoneDoubled (names_of edits)
  pub unlocked : IsPackedLocked s mode T edits → ⊥
  pub no_cause : NoCause s kind T [] edits
