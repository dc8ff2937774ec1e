-- What stops in the calls leave, by the disks that they find.
use Rattle.std.proofs.Common.{◌≡◌, inl, inr, ⊎_elim, ℕ, List, take, Bool, true, false, Option, Some, None, refl, sym, ◌∙◌, ap}
use Rattle.gix_ref_files.specs.Tree.{Tree, Path, Content, appended, more, is_file, folders_to}
use Rattle.gix_ref_files.specs.Tree.Content.{File, Folder}
use Rattle.gix_ref_files.specs.Disk.{Disk, appended_on, with_folders_on, file_synced, folder_synced}
use Rattle.gix_ref_files.specs.Files.{Meaning, disk_of, Leaves, Passes, Adds, AddsDisks}
use Rattle.gix_ref_files.specs.Calls.{Unchanged, BeforeOrAfter, Creating, Appending, Appends, MakingFolders, Renaming, RemovingFile, RemovingFolder}
use Rattle.gix_ref_files.specs.DiskCalls.{BeforeOrAfterOn, CreatingOn, AppendingOn, MakingFoldersOn, RenamingOn, RemovingFileOn, RemovingFolderOn, SyncingOn}
use Rattle.gix_ref_files.proofs.Folders.{with_folders_tree}
use Rattle.gix_ref_files.proofs.Moments.{stops, adds_trees}
use Rattle.gix_ref_files.proofs.Puts.{appended_none, put_same}

-- the tree before or the tree after
one_step : (before after : Disk) (Allowed : Type 0) (D : Disk) → BeforeOrAfterOn before Allowed after D → BeforeOrAfter before.tree Allowed after.tree D.tree
one_step before after Allowed D = ⊎_elim (λ same. inl (ap (λ (E : Disk). E.tree) same)) (λ done. inr (done.0, ap (λ (E : Disk). E.tree) done.1))

pub creating_leaves : (old new : Meaning) (p : Path) → Passes old new (CreatingOn (disk_of old) p) → Leaves old new (Creating old.tree p)
creating_leaves old new p run = stops (Creating old.tree p) (λ D found. one_step _ _ _ D found) run

pub renaming_leaves : (old new : Meaning) (from to : Path) → Passes old new (RenamingOn (disk_of old) from to) → Leaves old new (Renaming old.tree from to)
renaming_leaves old new from to run = stops (Renaming old.tree from to) (λ D found. one_step _ _ _ D found) run

pub removing_file_leaves : (old new : Meaning) (p : Path) → Passes old new (RemovingFileOn (disk_of old) p) → Leaves old new (RemovingFile old.tree p)
removing_file_leaves old new p run = stops (RemovingFile old.tree p) (λ D found. one_step _ _ _ D found) run

pub removing_folder_leaves : (old new : Meaning) (p : Path) → Passes old new (RemovingFolderOn (disk_of old) p) → Leaves old new (RemovingFolder old.tree p)
removing_folder_leaves old new p run = stops (RemovingFolder old.tree p) (λ D found. one_step _ _ _ D found) run

pub appending_leaves : (old new : Meaning) (p : Path) (bytes : List ℕ) → Passes old new (AppendingOn (disk_of old) p bytes) → Leaves old new (Appending old.tree p bytes)
appending_leaves old new p bytes run =
    stops (Appending old.tree p bytes)
    (λ D. ⊎_elim (λ same. (0, ap (λ (E : Disk). E.tree) same ∙ sym (appended_none old.tree p))) (λ grows. (grows.1.0, ap (λ (E : Disk). E.tree) grows.1.1)))
    run

pub making_leaves : (old new : Meaning) (p : Path) → Passes old new (MakingFoldersOn (disk_of old) p) → Leaves old new (MakingFolders old.tree p)
making_leaves old new p run =
    stops (MakingFolders old.tree p)
    (λ D. ⊎_elim (λ same. inl (ap (λ (E : Disk). E.tree) same))
    (λ made. inr (made.0, (made.1.0, ap (λ (E : Disk). E.tree) made.1.1 ∙ with_folders_tree (disk_of old) (take made.1.0 (folders_to p))))))
    run

pub syncing_file_leaves : (old new : Meaning) (there : Bool) (p : Path) → Passes old new (SyncingOn there (disk_of old) (file_synced (disk_of old) p)) → Leaves old new (Unchanged old.tree)
syncing_file_leaves old new there p run =
    stops (Unchanged old.tree) (λ D. ⊎_elim (λ same. ap (λ (E : Disk). E.tree) same) (λ done. ap (λ (E : Disk). E.tree) done.1)) run

pub syncing_folder_leaves : (old new : Meaning) (there : Bool) (p : Path) → Passes old new (SyncingOn there (disk_of old) (folder_synced (disk_of old) p)) → Leaves old new (Unchanged old.tree)
syncing_folder_leaves old new there p run =
    stops (Unchanged old.tree) (λ D. ⊎_elim (λ same. ap (λ (E : Disk). E.tree) same) (λ done. ap (λ (E : Disk). E.tree) done.1)) run

-- where there is no file, none grows
no_more : (T : Tree) (p : Path) (bytes : List ℕ) → is_file (T p) ≡ false → appended T p bytes ≡ T
no_more T p bytes none = put_same T p (more (T p) bytes) (by (T p) none)
  where
    by : (content : Option Content) → is_file content ≡ false → more content bytes ≡ content
    by (Some (File old)) h = cc
    by (Some Folder) h = refl
    by None h = refl

pub appends_done : (T S : Tree) (p : Path) (bytes : List ℕ) (there : Bool) → Appends T p bytes S there → S ≡ appended T p bytes
appends_done T S p bytes true done = done.1
appends_done T S p bytes false done = done.1 ∙ sym (no_more T p bytes done.0)

pub appending_adds : (old new : Meaning) (p : Path) (bytes : List ℕ) → AddsDisks old new (AppendingOn (disk_of old) p bytes) → Adds old new (Appending old.tree p bytes)
appending_adds old new p bytes adds =
    adds_trees old new (AppendingOn (disk_of old) p bytes) (Appending old.tree p bytes) (λ T some. by (is_file (old.tree p)) refl T some) adds
  where
    by : (b : Bool) → is_file (old.tree p) ≡ b → (T : Tree) → Appending old.tree p bytes T → (D : Disk) × AppendingOn (disk_of old) p bytes D × (D.tree ≡ T)
    by true file T some = (appended_on (disk_of old) p (take some.0 bytes), inr (file, (some.0, refl)), sym some.1)
    by false none T some = (disk_of old, inl refl, sym (some.1 ∙ no_more old.tree p (take some.0 bytes) none))

pub making_folders_adds : (old new : Meaning) (p : Path) → AddsDisks old new (MakingFoldersOn (disk_of old) p) → Adds old new (MakingFolders old.tree p)
making_folders_adds old new p adds =
    adds_trees old new (MakingFoldersOn (disk_of old) p) (MakingFolders old.tree p) by adds
  where
    by : (T : Tree) → MakingFolders old.tree p T → (D : Disk) × MakingFoldersOn (disk_of old) p D × (D.tree ≡ T)
    by T (inl same) = (disk_of old, inl refl, sym same)
    by T (inr (free, (n, made))) = (with_folders_on (disk_of old) (take n (folders_to p)), inr (free, (n, refl)), with_folders_tree (disk_of old) (take n (folders_to p)) ∙ sym made)
