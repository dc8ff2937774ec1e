-- What the rounds of `prepare` leave.
use Rattle.std.specs.Prelude.{◌≡◌, ◌⊎◌, ℕ, List, [], ◌∷◌, ◌++◌, Bool, true, false, not, ◌||◌, Option, Some, None, IsSome, is_none, is_some, map, if◌then◌else◌}
use Rattle.std.specs.Option.{option_map}
use Rattle.gix_ref_name.specs.Names.{full_bytes}
use Rattle.gix_ref_target.specs.Targets.{TargetValue, target_value, stripped_target}
use Rattle.gix_ref_target.specs.declared.target.Target.{Target}
use Rattle.gix_ref_files.specs.Tree.{Tree, Path, is_blocked, put}
use Rattle.gix_ref_files.specs.Tree.Content.{File}
use Rattle.gix_ref_files.specs.Disk.{Disk}
use Rattle.gix_ref_files.specs.DiskCalls.{WritingOn}
use Rattle.gix_ref_files.specs.Settled.{IsWholeAt}
use Rattle.gix_ref_files.specs.Lock.{lock_of}
use Rattle.gix_ref_theory.specs.OnRealTrees.{view_of}
use Rattle.gix_ref_hash.specs.declared.hash.Kind.{Kind}
use Rattle.gix_ref_hash.specs.declared.hash.ObjectId.{ObjectId}
use Rattle.gix_ref_theory.specs.Edits.{Effect, Mode, effect, is_same_id}
use Rattle.gix_ref_theory.specs.Edits.Effect.{Writes, Removes, Keeps}
use Rattle.gix_ref_theory.specs.Views.{View}
use Rattle.gix_ref_theory.specs.Readings.{Store}
use Rattle.gix_ref_lookup.specs.Lookups.{meaning_in}
use Rattle.gix_ref_transaction.specs.OwnLocks.{is_in, AddsLocks}
use Rattle.gix_ref_transaction.specs.Causes.{found, locks_of, packed_of, packed_taken, IsLockable, NoCause}
use Rattle.gix_ref_transaction.specs.CarriedEdits.{edit_of}
use Rattle.gix_ref_edits.specs.RefEdits.{name_of, new_of, expected_of, mode_of, is_of_reference, Expects}
use Rattle.gix_ref_edits.specs.declared.transaction.Change.{Change}
use Rattle.gix_ref_target.specs.Targets.TargetValue.{object_id}
use Rattle.gix_ref_edits.specs.declared.transaction.RefEdit.{RefEdit}
use Rattle.gix_ref_lookup.specs.declared.settings.Settings.{Settings}
use Rattle.gix_ref_lookup.specs.declared.find.loose.Loose.{Loose}
use Rattle.gix_ref_lookup.specs.declared.find.loose.Loose.TheVariants as loose_files
use Rattle.gix_ref_theory.specs.ConcreteStore.{loose_text}
use Rattle.gix_ref_transaction.specs.First.{AllPass}
use Rattle.gix_ref_transaction.specs.declared.edit.Edit.{Edit}
use Rattle.gix_ref_transaction.specs.declared.edit.PackedObject.{PackedObject}
use Rattle.gix_ref_transaction.specs.declared.edit.Effect.{Effect as Decision}
use Rattle.gix_ref_transaction.specs.declared.edit.Effect.TheVariants.{Write, Remove, Keep}
use Rattle.gix_ref_transaction.specs.declared.prepare.error.Error.{Error}
use Rattle.gix_ref_transaction.specs.declared.prepare.error.Error.TheVariants.{PathCollision, LockAcquire, Io, Memory}

-- the store of a transaction
abbrev pub setting_of : Settings → Store
setting_of settings = meaning_in settings

-- the targets that were found
abbrev pub value_of : Option Target → Option TargetValue
value_of None = None
value_of (Some target) = Some (target_value target)

-- what is asked for by the edits of a transaction
abbrev pub updates : List Edit → List RefEdit
updates edits = map (λ (e : Edit). e.update) edits

-- their locks, and the places of these
abbrev pub lock_paths : List Edit → List Path
lock_paths edits = map (λ (e : Edit). lock_of e.lock) edits

abbrev pub place_paths : List Edit → List Path
place_paths edits = map (λ (e : Edit). e.lock) edits

-- what is asked for, with the place and the parent
abbrev pub all_asked : List Edit → List (RefEdit × Path × Option ℕ)
all_asked edits = map (λ (e : Edit). (e.update, e.lock, e.parent)) edits

-- and with the id of the record and what is put into `packed-refs`, which stay while locks are taken
abbrev pub Given : Type 0
Given = RefEdit × Path × Option ObjectId × Option ℕ × Option PackedObject

abbrev pub given : Edit → Given
given e = (e.update, e.lock, e.packed, e.parent, e.put)

abbrev pub all_given : List Edit → List Given
all_given edits = map given edits

-- the ids that the edits have of their records
abbrev pub ids_in : List Edit → List (Option ObjectId)
ids_in edits = map (λ (e : Edit). e.packed) edits

-- what the edits put into `packed-refs`
abbrev pub puts_in : List Edit → List (Option PackedObject)
puts_in edits = map (λ (e : Edit). e.put) edits

-- the places of edits
abbrev pub places_of : Store → List RefEdit → List Path
places_of s edits = map (λ (edit : RefEdit). s.place (name_of edit)) edits

-- All locks of a transaction that begins with this tree, and their places: that of `packed-refs`, where it is taken, and one for each
-- edit.
abbrev pub own_places : Store → Mode → Tree → List RefEdit → List Path
own_places s mode T edits = packed_taken s mode T edits ++ places_of s edits

abbrev pub packed_locks : Store → Mode → Tree → List RefEdit → List Path
packed_locks s mode T edits = map lock_of (packed_taken s mode T edits)

abbrev pub own_locks : Store → Mode → Tree → List RefEdit → List Path
own_locks s mode T edits = packed_locks s mode T edits ++ locks_of s edits

-- those that it can have
abbrev pub possible_locks : Store → List RefEdit → List Path
possible_locks s edits = lock_of s.packed_path ∷ locks_of s edits

-- each of these is an empty file
abbrev pub AreEmpty : Tree → List Path → Type 0
AreEmpty T locks = (q : Path) → is_in locks q ≡ true → T q ≡ Some (File [])

-- the place of the lock of `packed-refs`, where it is held
abbrev pub packed_places : Option Path → List Path
packed_places None = []
packed_places (Some place) = place ∷ []

abbrev pub IsPackedPlace : Store → Option Path → Type 0
IsPackedPlace s packed = (packed ≡ None) ⊎ (packed ≡ Some s.packed_path)

-- all locks that are held
abbrev pub held_locks : Option Path → List Edit → List Path
held_locks packed edits = map lock_of (packed_places packed) ++ lock_paths edits

-- The lock of `packed-refs` was taken, or not: it was free, and nothing else was added but folders that lead to it.
abbrev pub TakesPacked : (before : Tree) → Option Path → Tree → Type 0
TakesPacked before None T = T ≡ before
TakesPacked before (Some place) T = (before (lock_of place) ≡ None)
    × (T (lock_of place) ≡ Some (File []))
    × AddsLocks (lock_of place ∷ []) (lock_of place ∷ []) before T

-- why a lock is not taken in this tree
abbrev pub IsRefusedLock : Tree → List ℕ → Path → Error → Type 0
IsRefusedLock T name lock (PathCollision reported) = (full_bytes reported ≡ name)
    × (is_blocked T lock ≡ true)
IsRefusedLock T name lock (LockAcquire reported) = (full_bytes reported ≡ name) × IsSome (T lock)
IsRefusedLock T name lock (Io error) = Unit {0}
IsRefusedLock T name lock Memory = Unit {0}
IsRefusedLock T name lock other = ⊥

-- a lock that was taken
pub record IsNewLock (before : Tree) (lock : Path) (T : Tree) : Type 0 where
  pub way : is_blocked before lock ≡ false
  pub free : before lock ≡ None
  pub empty : T lock ≡ Some (File [])

-- the tree with some text in a lock
abbrev pub FillsLock : Tree → Path → Tree → Type 0
FillsLock before lock T = (T ≡ before)
    ⊎ ((text : List ℕ) × (T ≡ put before lock (Some (File text))))

-- the disks that are found while a lock gets its text, or none
abbrev pub FillingOn : Disk → Path → Disk → Type 0
FillingOn before lock D = (D ≡ before) ⊎ ((text : List ℕ) × WritingOn before lock text D)

-- what is found of each edit
abbrev pub old_targets : Store → Tree → List RefEdit → List (Option TargetValue)
old_targets s T edits = map (λ (edit : RefEdit). found s (view_of T) (name_of edit)) edits

-- the ids of the records of edits
abbrev pub packed_ids : Store → Tree → List RefEdit → List (Option ObjectId)
packed_ids s T edits = map (λ (edit : RefEdit). packed_of s (view_of T) (name_of edit)) edits

-- the target that was found is this object
abbrev pub is_found : Option TargetValue → TargetValue → Bool
is_found (Some (object_id old)) (object_id new) = is_same_id old new
is_found found new = false

-- there is a file, and it holds no target
abbrev pub is_damaged : Store → Option (List ℕ) → Bool
is_damaged s None = false
is_damaged s (Some bytes) = is_none (s.target_of bytes)

-- What becomes of the loose file of an edit among these files: it is decided once, as the lock gets its text.
abbrev pub effect_on : Store → Mode → View → RefEdit → Effect
effect_on s mode view edit = effect s mode view (edit_of edit)

-- the file is written
abbrev pub is_written : Effect → Bool
is_written (Writes text) = true
is_written Removes = false
is_written Keeps = false

-- the text that a lock gets: the one that is written
abbrev pub lock_text : Effect → List ℕ
lock_text (Writes text) = text
lock_text Removes = []
lock_text Keeps = []

-- The lock of each of these edits is in T, with its whole text by what was there before.
abbrev pub HoldTexts : Store → Mode → (before T : Tree) → List RefEdit → Type 0
HoldTexts s mode before T [] = Unit {0}
HoldTexts s mode before T (edit ∷ edits) =
    (T (lock_of (s.place (name_of edit))) ≡ Some
    (File (lock_text (effect_on s mode (view_of before) edit)))) × HoldTexts s mode before T edits

-- On the disk D a lock is whole: all of its text is synced.
abbrev pub IsSomeWhole : Disk → Path → Type 0
IsSomeWhole D lock = (text : List ℕ) × IsWholeAt D lock text

-- and so is each of these
abbrev pub AreWholeLocks : Disk → List Path → Type 0
AreWholeLocks D [] = Unit {0}
AreWholeLocks D (lock ∷ locks) = IsSomeWhole D lock × AreWholeLocks D locks

-- Each of these edits has a lock that can be taken, after those before it.
abbrev pub AreLockable : Store → Kind → Tree → (seen edits : List RefEdit) → Type 0
AreLockable s kind T seen edits = AllPass {E = Error} (IsLockable s kind T) (λ _ _ _. ⊥) seen edits

-- What there is of a reference before its edit.

-- the target of its loose file, or else the object of its record
abbrev pub target_by : List ℕ → Loose → Option ObjectId → Option TargetValue
target_by namespace (loose_files.Holds target) packed =
    Some (stripped_target namespace (target_value target))
target_by namespace other packed = option_map object_id packed

-- there is a loose file
abbrev pub is_loose_file : Loose → Bool
is_loose_file loose_files.Nothing = false
is_loose_file loose_files.Folder = false
is_loose_file (loose_files.Holds target) = true
is_loose_file (loose_files.Undecodable error) = true

-- there is one, and it holds no target
abbrev pub is_undecodable : Loose → Bool
is_undecodable (loose_files.Undecodable error) = true
is_undecodable other = false

-- an update changes its reference: it has not the new object already, in a file that can be read
abbrev pub is_new : TargetValue → (old : Option TargetValue) → (damaged : Bool) → Bool
is_new new old damaged = damaged || not (is_found old new)

-- The decision: an update of a reference removes where it goes into `packed-refs` `alone`, and else writes where it changes it; a deletion
-- removes; an edit of the log alone leaves the file.
abbrev pub decision_of : Option TargetValue → (alone : Bool) → (old : Option TargetValue) →
    (damaged : Bool) → Decision
decision_of None alone old damaged = Remove
decision_of (Some new) alone old damaged =
    if alone then Remove else if is_new new old damaged then Write else Keep

abbrev pub decision : Change → (alone : Bool) → (old : Option TargetValue) →
    (damaged : Bool) → Decision
decision change alone old damaged = if is_of_reference (mode_of change)
    then decision_of (new_of change) alone old damaged else Keep

-- the text of a new target
abbrev pub text_of_new : Option TargetValue → List ℕ
text_of_new None = []
text_of_new (Some target) = loose_text target

-- what was decided, as the plan of a commit has it
abbrev pub effect_value : Change → Decision → Effect
effect_value change Write = Writes (text_of_new (new_of change))
effect_value change Remove = Removes
effect_value change Keep = Keeps

-- a loose file is at the place of an edit
abbrev pub has_file_at : Store → Tree → RefEdit → Bool
has_file_at s T edit = is_some (view_of T (s.place (name_of edit)))

-- What was found and decided of an edit is by the files before, the edit expects what was found, and its lock has its text.
pub record IsDecided (s : Store) (mode : Mode) (before T : Tree) (old new : Edit) : Type 0 where
  pub was : value_of new.found ≡ found s (view_of before) (name_of old.update)
  pub file : new.has_file ≡ has_file_at s before old.update
  pub what :
      effect_value old.update.change new.effect ≡ effect_on s mode (view_of before) old.update
  pub expects : Expects (expected_of old.update.change) (new_of old.update.change)
      (found s (view_of before) (name_of old.update))
  pub filled : T ≡ put before (lock_of old.lock)
      (Some (File (lock_text (effect_on s mode (view_of before) old.update))))

-- what was decided of each edit
abbrev pub decisions : List Edit → List Decision
decisions edits = map (λ (e : Edit). e.effect) edits

-- what was found of each edit, and what was decided of it, as the plan of a commit has it
abbrev pub targets_of : List Edit → List (Option TargetValue)
targets_of edits = map (λ (e : Edit). value_of e.found) edits

abbrev pub effects_of : List Edit → List Effect
effects_of edits = map (λ (e : Edit). effect_value e.update.change e.effect) edits

-- whether there was a loose file, as was seen of each edit
abbrev pub seen_files : List Edit → List Bool
seen_files edits = map (λ (e : Edit). e.has_file) edits

-- and as it is in this tree
abbrev pub files_at : Store → Tree → List RefEdit → List Bool
files_at s T edits = map (has_file_at s T) edits

-- the effects of edits among these files
abbrev pub effects_on : Store → Mode → View → List RefEdit → List Effect
effects_on s mode view edits = map (effect_on s mode view) edits

-- All of these edits are settled, from the tree `before` to T: this was found and decided of each, none has a cause to be refused, and its
-- lock has its text.
pub record AreSettled (s : Store) (mode : Mode) (kind : Kind) (before T : Tree)
    (old new : List Edit) : Type 0 where
  pub was : targets_of new ≡ old_targets s before (updates old)
  pub files : seen_files new ≡ files_at s before (updates old)
  pub what : effects_of new ≡ effects_on s mode (view_of before) (updates old)
  pub ids : ids_in new ≡ packed_ids s before (updates old)
  pub no_cause : NoCause s kind before [] (updates old)
  pub texts : HoldTexts s mode before T (updates old)
