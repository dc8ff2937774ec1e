-- What the taking of all locks of a transaction requires, and what it leaves.
use Rattle.std.specs.Prelude.{◌≡◌, ◌≤◌, ◌⊎◌, ℕ, List, [], true, Option, None, Vec, length, map, take}
use Rattle.std.specs.declared.alloc.Global.{Global}
use Rattle.gix_ref_hash.specs.declared.hash.Kind.{Kind}
use Rattle.gix_ref_files.specs.declared.files.FileError.{FileError}
use Rattle.gix_ref_files.specs.Files.{Meaning, disk_of, Leaves, FaultCounts, NoFewer}
use Rattle.gix_ref_files.specs.Lock.{lock_of}
use Rattle.gix_ref_files.specs.Tree.{Tree, Path}
use Rattle.gix_ref_theory.specs.OnRealTrees.{view_of}
use Rattle.gix_ref_theory.specs.Edits.{Mode}
use Rattle.gix_ref_lookup.specs.Lookups.{packed_refs_in}
use Rattle.gix_ref_lookup.specs.declared.settings.Settings.{Settings}
use Rattle.gix_ref_theory.specs.Readings.{Store}
use Rattle.gix_ref_edits.specs.declared.transaction.RefEdit.{RefEdit}
use Rattle.gix_ref_transaction.specs.Causes.{locks_of, packed_taken, AllValid, IsCounted, IsCountedWith, IsFindCause, IsFirstCause, IsIoOrMemory, IsPackedLocked, IsPackedRefusal, IsPackedWell, LocksAreApart}
use Rattle.gix_ref_transaction.specs.LeftLocks.{AreNamedOnce}
use Rattle.gix_ref_transaction.specs.OwnLocks.{paths_of, is_in, AddsLocks, OnlyLocks}
use Rattle.gix_ref_transaction.specs.PrepareSteps.{all_asked, ids_in, own_locks, packed_ids, packed_places, place_paths, places_of, possible_locks, setting_of, updates, AreEmpty, AreLockable, AreSettled, AreWholeLocks, IsPackedPlace}
use Rattle.gix_ref_transaction.specs.declared.edit.Edit.{Edit}
use Rattle.gix_ref_transaction.specs.declared.prepare.error.Error.{Error}
use Rattle.gix_ref_transaction.specs.declared.release.Remains.{Remains}

-- Edits whose locks are to be taken: each has the place of its reference, no lock lies at a place or on the way to another, and each edit is
-- valid by itself.
pub record AreReady (s : Store) (kind : Kind) (edits : List Edit) : Type 0 where
  pub places : place_paths edits ≡ places_of s (updates edits)
  pub apart : LocksAreApart s (updates edits)
  pub valid : AllValid s kind [] (updates edits)

-- A run that takes some of these locks and gives them texts, and does nothing else but make folders that lead to them: on honest files no
-- stop in it leaves another tree, and none finds another disk; and no fault is forgotten.
pub record OnlyTakes {F : Type 0} (honest : Type 0) (means : F → Meaning) (faults : F → FaultCounts)
    (locks : List Path) (before now : F) : Type 0 where
  pub leaves : honest → Leaves (means before) (means now)
      (AddsLocks locks locks (means before).tree)
  pub passes : honest → OnlyLocks locks (means before) (means now)
  pub no_fewer : NoFewer (faults before) (faults now)

-- All locks of these edits are taken: where the records are `known`, each edit is settled; each lock could be taken, and has a whole text.
pub record AreTaken (known : Type 0) (s : Store) (mode : Mode) (kind : Kind) (locks : List Path)
    (old new : Meaning) (before now : List Edit) : Type 0 where
  pub settled : known → AreSettled s mode kind old.tree new.tree before now
  pub lockable : AreLockable s kind old.tree [] (updates before)
  pub whole : AreWholeLocks (disk_of new) locks

-- All locks of these edits are held: what is asked for and the room for what remains are the same; on honest files nothing was added but the
-- locks and folders that lead to them, and all are taken.
pub record HoldAllLocks
    (honest known : Type 0) (s : Store) (mode : Mode) (kind : Kind) (locks : List Path)
    (old new : Meaning) (before now : List Edit) (room rest : Remains) : Type 0 where
  pub asked : all_asked now ≡ all_asked before
  pub remains : rest ≡ room
  pub adds : honest → AddsLocks locks locks old.tree new.tree
  pub taken : honest → AreTaken known s mode kind locks old new before now

-- the locks of these edits, in a store of these settings
abbrev pub edit_locks : Settings → List Edit → List Path
edit_locks settings edits = locks_of (setting_of settings) (updates edits)

-- and that of `packed-refs` before them, where it is due
abbrev pub due_locks : Settings → Mode → Tree → List Edit → List Path
due_locks settings mode T edits = own_locks (setting_of settings) mode T (updates edits)

-- the edits have the ids of their records
abbrev pub HaveTheirIds : Settings → Tree → List Edit → Type 0
HaveTheirIds settings T edits = ids_in edits ≡ packed_ids (setting_of settings) T (updates edits)

-- `packed-refs` of a store of these settings is well formed, or there is none
abbrev pub HasPackedWell : Settings → Meaning → Type 0
HasPackedWell settings meaning = IsPackedWell settings.kind (packed_refs_in settings meaning)

module _ (honest : Type 0) (settings : Settings) (mode : Mode) (old new : Meaning) where
  -- the locks of edits that have the ids of their records are taken
  abbrev pub AreTakenByIds : (before now : List Edit) → Type 0
  AreTakenByIds before now = AreTaken (HaveTheirIds settings old.tree before) (setting_of settings)
      mode settings.kind (edit_locks settings before) old new before now

  -- and all are held
  abbrev pub HoldAllByIds : (before now : List Edit) → (room rest : Remains) → Type 0
  HoldAllByIds before now room rest = HoldAllLocks honest (HaveTheirIds settings old.tree before)
      (setting_of settings) mode settings.kind (edit_locks settings before) old new before now
      room rest

  -- the locks of edits whose records are found in a `packed-refs` that is well formed are held
  abbrev pub HoldAllFound : (before now : List Edit) → (room rest : Remains) → Type 0
  HoldAllFound before now room rest = HoldAllLocks honest (HasPackedWell settings old)
      (setting_of settings) mode settings.kind (edit_locks settings before) old new before now
      room rest

  -- and with that of `packed-refs`, where it is due
  abbrev pub HoldAllDue : (before now : List Edit) → (room rest : Remains) → Type 0
  HoldAllDue before now room rest = HoldAllLocks honest (HasPackedWell settings old)
      (setting_of settings) mode settings.kind (due_locks settings mode old.tree before) old new
      before now room rest

-- So many edits at the beginning have their locks: these were free, and nothing else was added but folders that lead to a lock.
pub record FirstAreTaken (honest : Type 0) (s : Store) (edits : List Edit) (n : ℕ)
    (old new : Tree) : Type 0 where
  pub within : n ≤ length edits
  pub adds : honest → AddsLocks (locks_of s (take n (updates edits)))
      (locks_of s (updates edits)) old new
  pub free : honest → (q : Path) → is_in (locks_of s (take n (updates edits))) q ≡ true →
      old q ≡ None

-- The lock of `packed-refs` is held where it is due: it is an empty file, and nothing was in the way of it.
pub record HoldsPackedLock
    (honest : Type 0) (s : Store) (mode : Mode) (old new : Tree) (edits : List RefEdit)
    (packed : Option Path) : Type 0 where
  pub place : IsPackedPlace s packed
  pub due : honest → packed_places packed ≡ packed_taken s mode old edits
  pub empty : honest → AreEmpty new (map lock_of (packed_places packed))
  pub free : honest → IsPackedLocked s mode old edits → ⊥

module _ {F : Type 0} (honest : Type 0) (means : F → Meaning) (faults : F → FaultCounts) where
  -- Why the locks of edits with the ids of their records are not taken: the first cause; and of `Io` this fault was counted.
  pub record IsTakingFault (s : Store) (kind : Kind) (edits : List Edit) (before now : F)
      (error : Error) : Type 0 where
    pub first : honest → ids_in edits ≡ packed_ids s (means before).tree (updates edits) →
        IsFirstCause s kind (means before).tree [] (updates edits) error
    pub counted : IsCounted (faults before) (faults now) error

  -- The locks that were taken are removed again: of these locks only those are left that are named, and each is named once.
  pub record AreRemovedAgain (locks possible : List Path) (left : Vec (Vec ℕ Global) Global)
      (before now : F) : Type 0 where
    pub as_before : honest → AddsLocks (paths_of left.items) locks (means before).tree
        (means now).tree
    pub named : AreNamedOnce possible left (faults before) (faults now)

  -- Why no lock is held. Where `packed-refs` is well formed, it is this cause, or a fault of files or of memory; `Packed` is returned for a
  -- `packed-refs` that is refused, and `PackedFind` where the record of an edit is asked for and cannot be read; a fault of files came with a
  -- rise of their count, or a read by a reader failed.
  pub record IsHeldBack (read : FileError → Type 0) (s : Store) (kind : Kind) (edits : List RefEdit)
      (Cause : Error → Type 0) (before now : F) (error : Error) : Type 0 where
    pub cause : honest → IsPackedWell kind (view_of (means before).tree s.packed_path) →
        IsIoOrMemory error ⊎ Cause error
    pub opened : honest → IsPackedRefusal kind ((means before).tree s.packed_path) error
    pub unread : honest → IsFindCause s kind (view_of (means before).tree) edits error
    pub counted : IsCountedWith honest read (faults before) (faults now) error

  -- The same of edits in a store of these settings; the cause is one of the tree before.
  abbrev pub NoneIsHeld : (read : FileError → Type 0) → Settings → List Edit →
      (Cause : Tree → List RefEdit → Error → Type 0) → (before now : F) → Error → Type 0
  NoneIsHeld read settings edits Cause before now error =
      IsHeldBack read (setting_of settings) settings.kind (updates edits)
      (Cause (means before).tree (updates edits)) before now error

  -- The locks of these edits, which were taken, are removed again.
  abbrev pub RemovesAgain : Settings → List Edit → (left : Vec (Vec ℕ Global) Global) →
      (before now : F) → Type 0
  RemovesAgain settings edits left before now = AreRemovedAgain (edit_locks settings edits)
      (edit_locks settings edits) left before now

  -- So is that of `packed-refs`, where it is due.
  abbrev pub RemovesDueAgain : Settings → Mode → List Edit → (left : Vec (Vec ℕ Global) Global) →
      (before now : F) → Type 0
  RemovesDueAgain settings mode edits left before now = AreRemovedAgain
      (due_locks settings mode (means before).tree edits)
      (possible_locks (setting_of settings) (updates edits)) left before now
