-- The lock files of a store, and their removal.
use Rattle.std.specs.Prelude.{ℕ, List, Vec}
use Rattle.std.specs.declared.alloc.Global.{Global}
use Rattle.gix_ref_files.specs.Files.{Meaning, Leaves}
use Rattle.gix_ref_locks.specs.LockFiles.{AreLockFiles}
use Rattle.gix_ref_locks.specs.Removals as removals
use Rattle.gix_ref_locks.specs.declared.remove.Error.{Error}
use Rattle.gix_ref_store.specs.Store.{files_of, meaning_of}
use Rattle.gix_ref_store.specs.declared.file.store.Store.{Store}

module _ {F : Type 0} (means : F → Meaning) where
  -- these are the paths of its lock files
  abbrev pub AreLocks : Store F → List (Vec ℕ Global) → Type 0
  AreLocks store paths = AreLockFiles (meaning_of store) (means (files_of store)).tree paths

  -- and of those that were removed: all of them, and nothing else
  abbrev pub AreRemoved : (old new : Store F) → List (Vec ℕ Global) → Type 0
  AreRemoved old new paths = removals.IsUnlocked (meaning_of old) (means (files_of old)).tree
      (means (files_of new)).tree paths

  -- what a removal leaves that failed: all as it was, or without the first of the lock files
  abbrev pub IsLeftLocked : (old new : Store F) → Error → Type 0
  IsLeftLocked old new error = removals.IsLeftLocked (meaning_of old) (means (files_of old)).tree
      (means (files_of new)).tree error

  -- what a stop in it could leave: all as it was, or without the first of the lock files
  abbrev pub Unlocks : (old new : Store F) → Type 0
  Unlocks old new = Leaves (means (files_of old)) (means (files_of new))
      (removals.IsPartlyUnlocked (meaning_of old) (means (files_of old)).tree)
