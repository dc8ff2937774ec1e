-- A lock: a file beside a place, which is renamed to the place.
use Rattle.std.specs.Prelude.{◌≡◌, ◌⊎◌, ℕ, zero, suc, List, [], ◌++◌, take, codes, Bool, true, false, Result, Ok, Err, if◌then◌else◌}
use Rattle.gix_ref_files.specs.Tree.{Tree, Path, is_blocked, fronts, folders_to, with_folders}
use Rattle.gix_ref_files.specs.Disk.{Disk, created_on, moved_on, with_folders_on}
use Rattle.gix_ref_files.specs.DiskCalls.{CreatingOn}
use Rattle.gix_ref_files.specs.Files.{FaultCounts, count_with}
use Rattle.gix_ref_files.specs.Calls.{Creates, Creating, Renames}
use Rattle.gix_ref_files.specs.declared.files.Create.{Create}
use Rattle.gix_ref_files.specs.declared.files.Create.TheVariants.{Made, Standing as FileStanding, Blocked as FileBlocked}
use Rattle.gix_ref_files.specs.declared.files.Rename.TheVariants.{Moved as FileMoved, FolderStands as FileFolderStands}
use Rattle.gix_ref_files.specs.declared.files.FileError.TheVariants.{Memory}
use Rattle.gix_ref_files.specs.declared.lock.Acquire.{Acquire}
use Rattle.gix_ref_files.specs.declared.lock.Acquire.TheVariants.{Held, Standing, Blocked}
use Rattle.gix_ref_files.specs.declared.lock.Commit.{Commit}
use Rattle.gix_ref_files.specs.declared.lock.Commit.TheVariants.{Moved, FolderStands}
use Rattle.gix_ref_files.specs.declared.lock.Unspent.{Unspent}

-- where the lock of a place is
abbrev pub lock_of : Path → Path
lock_of place = place ++ codes ".lock"

-- the tree with the folders that lead to a path
abbrev pub readied : Tree → Path → Tree
readied before path = with_folders before (fronts path)

-- the folders that lead to a path are made, or a file is in it
abbrev pub Readies : Tree → Path → Tree → Bool → Type 0
Readies before path T true = (is_blocked before path ≡ false) × (T ≡ readied before path)
Readies before path T false = (is_blocked before path ≡ true) × (T ≡ before)

-- what a stop could leave meanwhile: a beginning of these folders
abbrev pub Readying : Tree → Path → Tree → Type 0
Readying before path T = (T ≡ before) ⊎ ((is_blocked before path ≡ false)
    × ((n : ℕ) × (T ≡ with_folders before (take n (fronts path)))))

-- the folders that lead to a path are made, and then its lock, where there is nothing
abbrev pub MakesLock : Tree → Path → Tree → Create → Type 0
MakesLock before path T Made = (is_blocked before path ≡ false)
    × Creates (readied before path) (lock_of path) T Made
MakesLock before path T FileStanding = (is_blocked before path ≡ false)
    × Creates (readied before path) (lock_of path) T FileStanding
MakesLock before path T FileBlocked = (is_blocked before path ≡ true) × (T ≡ before)

-- the disk with the folders that lead to a path
abbrev pub readied_on : Disk → Path → Disk
readied_on before path = with_folders_on before (fronts path)

-- the disk after they are made; where a file is in the path, the one before
abbrev pub after_readying : Disk → Path → Bool → Disk
after_readying before path made = if made then readied_on before path else before

-- the disks that are found meanwhile: with a beginning of these folders
abbrev pub ReadyingOn : Disk → Path → Disk → Type 0
ReadyingOn before path D = (D ≡ before) ⊎ ((is_blocked before.tree path ≡ false)
    × ((n : ℕ) × (D ≡ with_folders_on before (take n (fronts path)))))

-- the disk after each result of `make_lock`
abbrev pub after_locking : Disk → Path → Create → Disk
after_locking before path Made = created_on (readied_on before path) (lock_of path)
after_locking before path FileStanding = readied_on before path
after_locking before path FileBlocked = before

-- the disks that are found in `make_lock`: in the making of the folders, and then in that of the lock
abbrev pub LockingOn : Disk → Path → Disk → Type 0
LockingOn before path D = ReadyingOn before path D
    ⊎ ((is_blocked before.tree path ≡ false) × CreatingOn (readied_on before path) (lock_of path) D)

-- The results of `acquire`: the folders that lead to the place are made, and then the lock, where there is nothing.
abbrev pub Acquires : Tree → Path → Tree → Acquire → Type 0
Acquires before path T (Held lock) = (lock ≡ path) × MakesLock before path T Made
Acquires before path T Standing = MakesLock before path T FileStanding
Acquires before path T Blocked = MakesLock before path T FileBlocked

-- the disk after each result of `acquire`
abbrev pub after_acquire : Disk → Path → Acquire → Disk
after_acquire before path (Held lock) = after_locking before path Made
after_acquire before path Standing = after_locking before path FileStanding
after_acquire before path Blocked = after_locking before path FileBlocked

-- what a stop in `acquire` could leave
abbrev pub Acquiring : Tree → Path → Tree → Type 0
Acquiring before path T = Readying before path T
    ⊎ ((is_blocked before path ≡ false) × Creating (readied before path) (lock_of path) T)

-- the results of `commit`: one rename to the place, or the lock given back
abbrev pub Commits : Tree → Path → Tree → Commit → Type 0
Commits before place T Moved = Renames before (lock_of place) place T FileMoved
Commits before place T (FolderStands lock) = (lock ≡ place)
    × Renames before (lock_of place) place T FileFolderStands

-- the disk after each result of `commit`
abbrev pub after_commit : Disk → Path → Commit → Disk
after_commit before place Moved = moved_on before (lock_of place) place
after_commit before place (FolderStands lock) = before

-- A call that gives the lock of a place back where it fails. The fault is counted, and is no lack of memory.
abbrev pub GivesBack : {T : Type 0} → Path → Result T Unspent → FaultCounts → FaultCounts → Type 0
GivesBack place (Ok value) before now = now ≡ before
GivesBack place (Err unspent) before now = (unspent.lock ≡ place) × (now ≡ count_with unspent.error before)
    × (unspent.error ≡ Memory → ⊥)

-- the folders up to a slash of the path; none where there is no such slash
abbrev pub folders_up_to : Path → ℕ → List Path
folders_up_to path zero = []
folders_up_to path (suc end) = folders_to (take (suc end) path)
