-- What the removal of lock files makes of a tree.
use Rattle.std.specs.Prelude.{◌≡◌, ◌≢◌, ◌⊎◌, ℕ, ◌+◌, List, [], ◌∷◌, ◌++◌, Vec, if◌then◌else◌, take, slice_index_or}
use Rattle.std.specs.declared.alloc.Global.{Global}
use Rattle.gix_ref_files.specs.Tree.{Tree, Path, removed, is_file}
use Rattle.gix_ref_files.specs.Files.{FaultCounts, IsMet}
use Rattle.gix_ref_files.specs.declared.files.FileError.TheVariants as faulty
use Rattle.gix_ref_theory.specs.Readings.{Store}
use Rattle.gix_ref_lookup.specs.declared.settings.Settings.{Settings}
use Rattle.gix_ref_locks.specs.LockFiles.{AreLockFiles, IsLockFailure}
use Rattle.gix_ref_locks.specs.declared.remove.Stopped.{Stopped}
use Rattle.gix_ref_locks.specs.declared.remove.Error.{Error}
use Rattle.gix_ref_locks.specs.declared.remove.Error.TheVariants.{List as ListError, RemoveFile}

-- the tree without the file at a path, if there is one
abbrev pub without_file : Tree → Path → Tree
without_file T path = if is_file (T path) then removed T path else T

-- and without the files at all of these
abbrev pub without : Tree → List (Vec ℕ Global) → Tree
without T [] = T
without T (p ∷ ps) = without (without_file T p.items) ps

-- some of the files are gone, the first ones
abbrev pub IsPartlyWithout : List (Vec ℕ Global) → Tree → Tree → Type 0
IsPartlyWithout paths before T = (n : ℕ) × (T ≡ without before (take n paths))

-- A removal ended at one of the files: those before it are gone, and it is there or gone too.
abbrev pub EndsAt : List (Vec ℕ Global) → Tree → Tree → Stopped → Type 0
EndsAt paths before T stopped = (T ≡ without before (take stopped.at paths))
    ⊎ (T ≡ without before (take (stopped.at + 1) paths))

-- the error of a removal that ended at one of the files: the paths of those before it, its own, and why
abbrev pub IsStoppedAt : List (Vec ℕ Global) → Stopped → Error → Type 0
IsStoppedAt paths stopped error = (removed : Vec (Vec ℕ Global) Global) × (path : Vec ℕ Global)
    × (error ≡ RemoveFile removed path stopped.source)
    × (removed.items ≡ take stopped.at paths)
    × (path ≡ slice_index_or paths stopped.at path)

-- some of the lock files of a store are gone, the first ones
abbrev pub IsPartlyUnlocked : Store → Tree → Tree → Type 0
IsPartlyUnlocked s before T = (T ≡ before)
    ⊎ ((paths : List (Vec ℕ Global)) × AreLockFiles s before paths × IsPartlyWithout paths before T)

-- all lock files of a store are gone, and these are their paths
abbrev pub IsUnlocked : Store → Tree → Tree → List (Vec ℕ Global) → Type 0
IsUnlocked s before T paths = AreLockFiles s before paths × (T ≡ without before paths)

-- The lock files of a store up to one are gone, and that one is there or gone too.
pub record StopsAt (s : Store) (before T : Tree) (removed : List (Vec ℕ Global))
    (path : Vec ℕ Global) : Type 0 where
  pub rest : List (Vec ℕ Global)
  pub locks : AreLockFiles s before (removed ++ path ∷ rest)
  pub tree : (T ≡ without before removed) ⊎ (T ≡ without before (removed ++ path ∷ []))

-- the tree that a removal of lock files leaves that failed
abbrev pub IsLeftLocked : Store → Tree → Tree → Error → Type 0
IsLeftLocked s before T (ListError error) = T ≡ before
IsLeftLocked s before T (RemoveFile removed path source) = StopsAt s before T removed.items path

-- why it failed: the locks could not be listed; or by a fault that was counted
abbrev pub IsUnlockFailure : Settings → (before now : FaultCounts) → Error → Type 0
IsUnlockFailure settings before now (ListError error) = IsLockFailure settings before now error
IsUnlockFailure settings before now (RemoveFile removed path source) =
    (source ≢ faulty.Memory) × IsMet source before now
