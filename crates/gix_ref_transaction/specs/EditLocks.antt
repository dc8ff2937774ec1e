-- What the taking of the lock of one edit leaves, and its text.
use Rattle.std.specs.Prelude.{◌≡◌, ◌⊎◌, ℕ, List, [], ◌∷◌, Some, false}
use Rattle.gix_ref_files.specs.Files.{Meaning, disk_of, Leaves, Passes, FaultCounts, NoFewer}
use Rattle.gix_ref_files.specs.Lock.{lock_of, LockingOn}
use Rattle.gix_ref_files.specs.Settled.{IsWholeAt}
use Rattle.gix_ref_files.specs.Tree.{Tree, Path, put}
use Rattle.gix_ref_files.specs.Tree.Content.{File}
use Rattle.gix_ref_theory.specs.OnRealTrees.{view_of}
use Rattle.gix_ref_theory.specs.Edits.{Mode}
use Rattle.gix_ref_theory.specs.Readings.{Store}
use Rattle.gix_ref_theory.specs.Views.{View}
use Rattle.gix_ref_lookup.specs.declared.settings.Settings.{Settings}
use Rattle.gix_ref_edits.specs.RefEdits.{name_of}
use Rattle.gix_ref_transaction.specs.Causes.{found, packed_of, IsCounted, IsIoOrMemory, IsMismatch, IsPossible}
use Rattle.gix_ref_transaction.specs.OwnLocks.{AddsLocks}
use Rattle.gix_ref_transaction.specs.PrepareSteps.{effect_value, lock_text, setting_of, FillingOn, FillsLock, IsDecided, IsNewLock, IsRefusedLock, IsSomeWhole}
use Rattle.gix_ref_transaction.specs.declared.edit.Edit.{Edit}
use Rattle.gix_ref_transaction.specs.declared.prepare.error.Error.{Error}

-- An edit that may be compared with what there is: it has the place of its reference, which is not prohibited, and it is no deletion that
-- expects nothing.
pub record IsInPlace (s : Store) (edit : Edit) : Type 0 where
  pub place : edit.lock ≡ s.place (name_of edit.update)
  pub allowed : s.is_prohibited edit.lock ≡ false
  pub possible : IsPossible edit.update.change

-- the edit has the id of its record
abbrev pub HasItsId : Store → Tree → Edit → Type 0
HasItsId s T edit = edit.packed ≡ packed_of s (view_of T) (name_of edit.update)

-- The lock is new, and its file, which is empty, is whole.
pub record IsLockTaken (old new : Meaning) (lock : Path) : Type 0 where
  pub made : IsNewLock old.tree lock new.tree
  pub whole : IsWholeAt (disk_of new) lock []

-- A fault of files or of memory; of `Io` this fault was counted.
pub record IsFileOrMemoryFault (before now : FaultCounts) (error : Error) : Type 0 where
  pub outside : IsIoOrMemory error
  pub counted : IsCounted before now error

module _ {F : Type 0} (honest : Type 0) (means : F → Meaning) (faults : F → FaultCounts) where
  -- A run that takes the lock of this place, or fails to, and does nothing else but make folders that lead to it: on honest files no stop in
  -- it leaves another tree, and none finds another disk; and no fault is forgotten.
  pub record TakesItsLock (place : Path) (before now : F) : Type 0 where
    pub leaves : honest → Leaves (means before) (means now)
        (AddsLocks (lock_of place ∷ []) (lock_of place ∷ []) (means before).tree)
    pub passes : honest → Passes (means before) (means now)
        (LockingOn (disk_of (means before)) place)
    pub no_fewer : NoFewer (faults before) (faults now)

  -- Why the lock of an edit of this name is not taken. Nothing was added then but folders; and of `Io` this fault was counted.
  pub record IsNotTaken (name : List ℕ) (lock : Path) (before now : F)
      (error : Error) : Type 0 where
    pub cause : honest → IsRefusedLock (means before).tree name lock error
    pub kept : honest → AddsLocks [] (lock ∷ []) (means before).tree (means now).tree
    pub counted : IsCounted (faults before) (faults now) error

  -- A run that gives this lock, which is empty, a text, or does nothing: on honest files no stop in it leaves another tree, and none finds
  -- another disk; and no fault is forgotten.
  pub record OnlyFills (lock : Path) (before now : F) : Type 0 where
    pub leaves : honest → (means before).tree lock ≡ Some (File []) →
        Leaves (means before) (means now) (FillsLock (means before).tree lock)
    pub passes : honest → Passes (means before) (means now)
        (FillingOn (disk_of (means before)) lock)
    pub no_fewer : NoFewer (faults before) (faults now)

  -- Why an edit with the id of its record is not accepted, by its own cause; and of `Io` this fault was counted.
  pub record IsNotAccepted (s : Store) (edit : Edit) (Cause : Error → Type 0) (before now : F)
      (error : Error) : Type 0 where
    pub cause : honest → HasItsId s (means before).tree edit → IsIoOrMemory error ⊎ Cause error
    pub counted : IsCounted (faults before) (faults now) error

-- What was found and decided of an edit with the id of its record is by the files before, if its lock was empty; and its lock is whole, if it
-- was.
pub record IsWritten
    (s : Store) (mode : Mode) (old new : Meaning) (before now : Edit) : Type 0 where
  pub decided : HasItsId s old.tree before → old.tree (lock_of before.lock) ≡ Some (File []) →
      IsDecided s mode old.tree new.tree before now
  pub whole : IsWholeAt (disk_of old) (lock_of before.lock) [] →
      IsSomeWhole (disk_of new) (lock_of before.lock)

-- the lock of an edit gets the text that is to be written, and nothing else changes
abbrev pub GetsItsText : Edit → (old new : Tree) → Type 0
GetsItsText edit old new = new ≡ put old (lock_of edit.lock)
    (Some (File (lock_text (effect_value edit.update.change edit.effect))))

-- what is found is not what the edit expects, in a store of these settings
abbrev pub IsNotAsExpected : Settings → View → Edit → Error → Type 0
IsNotAsExpected settings view edit error = IsMismatch settings.kind edit.update
    (found (setting_of settings) view (name_of edit.update)) error
