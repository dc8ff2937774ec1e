-- What the taking of the lock of `packed-refs` leaves, and why it fails.
use Rattle.std.specs.Prelude.{◌≡◌, ◌⊎◌, List, [], Option, Some, map}
use Rattle.gix_ref_files.specs.Files.{Meaning, disk_of, FaultCounts}
use Rattle.gix_ref_files.specs.Lock.{lock_of}
use Rattle.gix_ref_files.specs.Settled.{IsWholeAt}
use Rattle.gix_ref_files.specs.Tree.{Path}
use Rattle.gix_ref_theory.specs.Edits.{Mode}
use Rattle.gix_ref_theory.specs.Readings.{Store}
use Rattle.gix_ref_lookup.specs.declared.settings.Settings.{Settings}
use Rattle.gix_ref_edits.specs.declared.transaction.RefEdit.{RefEdit}
use Rattle.gix_ref_transaction.specs.Causes.{packed_taken, IsCounted, IsInTheWay, IsIoOrMemory, IsPackedCause, IsPackedLocked}
use Rattle.gix_ref_transaction.specs.OwnLocks.{AddsLocks}
use Rattle.gix_ref_transaction.specs.PrepareSteps.{packed_locks, packed_places, setting_of, updates, AreWholeLocks, IsPackedPlace, TakesPacked}
use Rattle.gix_ref_transaction.specs.Packing.{mode_of_packing}
use Rattle.gix_ref_transaction.specs.declared.edit.Edit.{Edit}
use Rattle.gix_ref_transaction.specs.declared.packing.Packing.{Packing}
use Rattle.gix_ref_transaction.specs.declared.prepare.error.Error.{Error}

-- The lock of this place is taken: nothing was in its way, and it is an empty file, and whole.
pub record IsPackedTaken (honest : Type 0) (place : Path) (old new : Meaning)
    (packed : Option Path) : Type 0 where
  pub same : packed ≡ Some place
  pub free : honest → IsInTheWay old.tree (lock_of place) → ⊥
  pub takes : honest → TakesPacked old.tree (Some place) new.tree
  pub whole : honest → IsWholeAt (disk_of new) (lock_of place) []

-- The lock of `packed-refs` is taken where it is due: it was free, and is an empty file, and whole.
pub record IsPackedTakenWhereDue (honest : Type 0) (s : Store) (mode : Mode) (edits : List RefEdit)
    (old new : Meaning) (packed : Option Path) : Type 0 where
  pub place : IsPackedPlace s packed
  pub due : honest → packed_places packed ≡ packed_taken s mode old.tree edits
  pub free : honest → IsPackedLocked s mode old.tree edits → ⊥
  pub takes : honest → TakesPacked old.tree packed new.tree
  pub whole : honest → AreWholeLocks (disk_of new) (map lock_of (packed_places packed))

-- It is not taken, and nothing is added but folders on these ways, by this cause or by a fault of files or of memory; and of `Io`
-- this fault was counted.
pub record IsPackedFault {F : Type 0} (honest : Type 0) (means : F → Meaning)
    (faults : F → FaultCounts)
    (ways : List Path) (Cause : Error → Type 0) (before now : F) (error : Error) : Type 0 where
  pub cause : honest → IsIoOrMemory error ⊎ Cause error
  pub kept : honest → AddsLocks [] ways (means before).tree (means now).tree
  pub counted : IsCounted (faults before) (faults now) error

-- the lock of `packed-refs`, where these edits take it
abbrev pub packed_locks_due : Settings → Packing → Meaning → List Edit → List Path
packed_locks_due settings packing meaning edits =
    packed_locks (setting_of settings) (mode_of_packing packing) meaning.tree (updates edits)

-- it is taken by these edits, in a store of these settings
abbrev pub TakesPackedLock : (honest : Type 0) → Settings → Packing → List Edit →
    (old new : Meaning) → Option Path → Type 0
TakesPackedLock honest settings packing edits old new packed = IsPackedTakenWhereDue honest
    (setting_of settings) (mode_of_packing packing) (updates edits) old new packed

-- or it is not
abbrev pub TakesNoPackedLock : {F : Type 0} → (honest : Type 0) → (means : F → Meaning) →
    (faults : F → FaultCounts) → Settings → Packing → List Edit → (before now : F) → Error → Type 0
TakesNoPackedLock honest means faults settings packing edits before now error =
    IsPackedFault honest means faults (packed_locks_due settings packing (means before) edits)
    (IsPackedCause (setting_of settings) (mode_of_packing packing) (means before).tree
    (updates edits)) before now error
