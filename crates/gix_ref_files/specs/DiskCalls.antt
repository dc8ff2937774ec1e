-- What each call of files makes of a disk, and which disks a stop or a loss of power in it finds.
use Rattle.std.specs.Prelude.{◌≡◌, ◌⊎◌, ℕ, List, take, Bool, true, false, Result, Ok, Err, if◌then◌else◌}
use Rattle.gix_ref_files.specs.Tree.{Path, is_file, folders_to, IsEmptyFolder}
use Rattle.gix_ref_files.specs.Disk.{Disk, created_on, appended_on, moved_on, removed_on, with_folders_on, file_synced}
use Rattle.gix_ref_files.specs.Calls.{IsFree, IsMovable, is_in_the_way}
use Rattle.gix_ref_files.specs.declared.files.Create.{Create}
use Rattle.gix_ref_files.specs.declared.files.Create.TheVariants.{Made}
use Rattle.gix_ref_files.specs.declared.files.Rename.{Rename}
use Rattle.gix_ref_files.specs.declared.files.Rename.TheVariants.{Moved}

-- the disk is this one
abbrev pub Untouched : Disk → Disk → Type 0
Untouched before D = D ≡ before

-- the disk is the one before, or, only where this is allowed, the one after
abbrev pub BeforeOrAfterOn : Disk → Type 0 → Disk → Disk → Type 0
BeforeOrAfterOn before Allowed after D = (D ≡ before) ⊎ (Allowed × (D ≡ after))

-- the disk after each result of `create_new`
abbrev pub after_create : Disk → Path → Create → Disk
after_create before p Made = created_on before p
after_create before p other = before

-- the disks that are found in `create_new`
abbrev pub CreatingOn : Disk → Path → Disk → Type 0
CreatingOn before p = BeforeOrAfterOn before (IsFree before.tree p) (created_on before p)

-- the disk after each result of `make_folders`
abbrev pub after_folders : Disk → Path → Bool → Disk
after_folders before p made = if made then with_folders_on before (folders_to p) else before

-- the disks that are found in `make_folders`: with a beginning of the folders
abbrev pub MakingFoldersOn : Disk → Path → Disk → Type 0
MakingFoldersOn before p D =
    (D ≡ before) ⊎ ((is_in_the_way before.tree p ≡ false)
    × ((n : ℕ) × (D ≡ with_folders_on before (take n (folders_to p)))))

-- the disk after each result of `append`
abbrev pub after_append : Disk → Path → List ℕ → Bool → Disk
after_append before p bytes there = if there then appended_on before p bytes else before

-- the disks that are found in `append`: with a beginning of the bytes
abbrev pub AppendingOn : Disk → Path → List ℕ → Disk → Type 0
AppendingOn before p bytes D =
    (D ≡ before)
    ⊎ ((is_file (before.tree p) ≡ true) × ((n : ℕ) × (D ≡ appended_on before p (take n bytes))))

-- the disk after each result of `rename`
abbrev pub after_rename : Disk → Path → Path → Rename → Disk
after_rename before from to Moved = moved_on before from to
after_rename before from to other = before

-- the disks that are found in `rename`
abbrev pub RenamingOn : Disk → Path → Path → Disk → Type 0
RenamingOn before from to = BeforeOrAfterOn before (IsMovable before.tree from to)
    (moved_on before from to)

-- the disk after each result of `remove_file` and of `remove_folder`
abbrev pub after_removal : Disk → Path → Bool → Disk
after_removal before p removed = if removed then removed_on before p else before

-- the disks that are found in `remove_file`
abbrev pub RemovingFileOn : Disk → Path → Disk → Type 0
RemovingFileOn before p = BeforeOrAfterOn before (is_file (before.tree p) ≡ true)
    (removed_on before p)

-- the disks that are found in `remove_folder`
abbrev pub RemovingFolderOn : Disk → Path → Disk → Type 0
RemovingFolderOn before p = BeforeOrAfterOn before (IsEmptyFolder before.tree p)
    (removed_on before p)

-- A sync: true, and then all is synced that it names, or false where there is no such thing. A fault syncs nothing.
abbrev pub Syncs : {E : Type 0} → Bool → Disk → Disk → Disk → Result Bool E → Type 0
Syncs there before after D (Ok true) = (there ≡ true) × (D ≡ after)
Syncs there before after D (Ok false) = (there ≡ false) × (D ≡ before)
Syncs there before after D (Err error) = D ≡ before

-- the disks that are found in a sync
abbrev pub SyncingOn : Bool → Disk → Disk → Disk → Type 0
SyncingOn there before after = BeforeOrAfterOn before (there ≡ true) after

-- the disk after each result of a write of a lock: the text is there, and all of it is synced
abbrev pub after_synced_append : Disk → Path → List ℕ → Bool → Disk
after_synced_append before p bytes there = if there
    then file_synced (appended_on before p bytes) p else before

-- the disks that are found in a write of a lock
abbrev pub WritingOn : Disk → Path → List ℕ → Disk → Type 0
WritingOn before p bytes D =
    AppendingOn before p bytes D ⊎ (D ≡ file_synced (appended_on before p bytes) p)
