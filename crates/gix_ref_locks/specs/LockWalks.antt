-- What a walk of a folder of a store finds: the lock files of references.
use Rattle.std.specs.Prelude.{◌≡◌, ◌≢◌, ◌⊎◌, ℕ, List, [], ◌∷◌, ◌++◌, Vec, true, false, codes}
use Rattle.std.specs.declared.alloc.Global.{Global}
use Rattle.gix_ref_hash.specs.Bytes.{BeginsWith, NoByte}
use Rattle.gix_ref_files.specs.Tree.{Tree, Path, is_file}
use Rattle.gix_ref_files.specs.Lock.{lock_of}
use Rattle.gix_ref_files.specs.Files.{FaultCounts, IsMet}
use Rattle.gix_ref_files.specs.declared.files.Entry.{Entry as ListedEntry}
use Rattle.gix_ref_files.specs.declared.files.FileError.TheVariants as faulty
use Rattle.gix_ref_theory.specs.Readings.{Store}
use Rattle.gix_ref_listing.specs.Walks.{IsBelow}
use Rattle.gix_ref_locks.specs.LockFiles.{IsLockOf, HasPath}
use Rattle.gix_ref_locks.specs.declared.locks.Error.{Error}
use Rattle.gix_ref_locks.specs.declared.locks.Error.TheVariants.{Memory, Io}

-- The lock of a reference that is named by what its path has between a folder of the store and `.lock`: by that as it is, or as a
-- name of the main worktree.
abbrev pub IsStemOf : Store → (stem : List ℕ) → Path → Type 0
IsStemOf s stem path = IsLockOf s stem path ⊎ IsLockOf s (codes "main-worktree/" ++ stem) path

-- and a file is there
abbrev pub IsLockBelow : Store → (front : List ℕ) → Tree → (stem : List ℕ) → Type 0
IsLockBelow s front T stem = IsStemOf s stem (front ++ lock_of stem)
    × (is_file (T (front ++ lock_of stem)) ≡ true)

-- where such names are: directly in the folder, below `refs/`, and below the folders of linked worktrees
abbrev pub IsSought : (stem : List ℕ) → Type 0
IsSought stem = NoByte 47 stem ⊎ (BeginsWith stem (codes "refs/")
    ⊎ BeginsWith stem (codes "worktrees/"))

-- each path that was found stays found
abbrev pub StaysFound : (old new : List (Vec ℕ Global)) → Type 0
StaysFound old new = (path : Path) → HasPath path old → HasPath path new

-- each lock of a reference in this folder of the store whose stem has this is found
abbrev pub FindsLocks : Store → (front : List ℕ) → Tree → (List ℕ → Type 0) →
    (found : List (Vec ℕ Global)) → Type 0
FindsLocks s front T Has found = (stem : List ℕ) → IsLockBelow s front T stem → Has stem →
    HasPath (front ++ lock_of stem) found

-- a file of this name is found, if it is the lock of a reference
abbrev pub FindsLock : Store → (front file : List ℕ) → (found : List (Vec ℕ Global)) → Type 0
FindsLock s front file found = (stem : List ℕ) → file ≡ lock_of stem →
    IsStemOf s stem (front ++ lock_of stem) → HasPath (front ++ lock_of stem) found

-- An entry of a folder was looked at: the lock of a reference is found, and a folder is to be walked.
pub record IsTaken (s : Store) (front folder : List ℕ) (found next : List (Vec ℕ Global))
    (entry : ListedEntry) : Type 0 where
  pub file : entry.is_folder ≡ false → FindsLock s front (folder ++ entry.name.items) found
  pub leads : entry.is_folder ≡ true → (name : List ℕ) →
      BeginsWith name (folder ++ (entry.name.items ++ codes "/")) → IsBelow next name

-- Of the locks whose stem has this, each is found, or is below a folder that is to be walked.
abbrev pub Reaches : Store → (front : List ℕ) → Tree → (List ℕ → Type 0) →
    (found next : List (Vec ℕ Global)) → Type 0
Reaches s front T Has found next = (stem : List ℕ) → IsLockBelow s front T stem → Has stem →
    HasPath (front ++ lock_of stem) found ⊎ IsBelow next stem

-- an entry of a folder is there, if it is a file
abbrev pub IsFileIn : Tree → (front folder : List ℕ) → ListedEntry → Type 0
IsFileIn T front folder entry = entry.is_folder ≡ false →
    is_file (T (front ++ (folder ++ entry.name.items))) ≡ true

-- why a walk ended: no memory; or a fault that was counted, at a folder behind this front
abbrev pub FailsBelow : (front : List ℕ) (before now : FaultCounts) → Error → Type 0
FailsBelow front before now Memory = Unit {0}
FailsBelow front before now (Io path source) = (source ≢ faulty.Memory) × IsMet source before now
    × ((folder : List ℕ) × (path.items ++ 47 ∷ [] ≡ front ++ folder))
