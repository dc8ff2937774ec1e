-- What stops leave, from the disks that are found: where the tree of each disk that has P has Q, leaving Q follows from passing P.
use Rattle.std.proofs.Common.{◌≡◌, inl, inr, ℕ, List, [], ◌∷◌, length, take, refl, sym, ◌∙◌, ap, subst}
use Rattle.std.proofs.Math.Seq.{take-length}
use Rattle.gix_ref_files.specs.Tree.{Tree, Path, fronts, appended, folders_to}
use Rattle.gix_ref_files.specs.Disk.{Disk}
use Rattle.gix_ref_files.specs.Files.{Meaning, disk_of, Leaves, Passes}
use Rattle.gix_ref_files.specs.Calls.{Unchanged, Creating, MakingFolders, Appending, Renaming, RemovingFile, RemovingFolder}
use Rattle.gix_ref_files.specs.DiskCalls.{Untouched, CreatingOn, MakingFoldersOn, AppendingOn, RenamingOn, RemovingFileOn, RemovingFolderOn, WritingOn}
use Rattle.gix_ref_files.specs.Lock.{Readying, ReadyingOn, Acquiring, LockingOn, readied_on, lock_of}
use Rattle.gix_ref_files.specs.Settled.{Sync, synced, synced_by}
use Rattle.gix_ref_files.specs.Settled.Sync.{OfFile, OfFolder}
use Rattle.gix_ref_files.specs.Steps.{Step, Does, Begins, IsLeftBy, steps_of, step_of}
use Rattle.gix_ref_files.specs.Steps.Step.{Create, Append, Line, Rename, RemoveFile, MakeFolders, RemoveFolder, End}
use Rattle.gix_ref_files.specs.DiskSteps.{DoesOn, BeginsOn, Synced, needed, IsReachedBy, IsSomeSynced, Settling, synced_steps}
use Rattle.gix_ref_files.specs.DiskSteps.Synced.{With}
use Rattle.gix_ref_files.specs.declared.steps.Planned.{Planned}
use Rattle.gix_ref_files.proofs.Puts.{appended_none}
use Rattle.gix_ref_files.proofs.Folders.{with_folders_tree}
use Rattle.gix_ref_files.proofs.Between.{done_is_begun}
use Rattle.gix_ref_files.proofs.Moments.{stops}

-- a relation of two disks gives another of their trees
abbrev pub OfTrees : (Disk → Disk → Type 0) → (Tree → Tree → Type 0) → Type 0
OfTrees On At = (D E : Disk) → On D E → At D.tree E.tree

-- What stops leave, of each relation that the trees of what is found have.
pub leaves_of : {old new : Meaning} (On : Disk → Disk → Type 0) (At : Tree → Tree → Type 0) → OfTrees On At → Passes old new (On (disk_of old)) → Leaves old new (At old.tree)
leaves_of {old = old} On At trees run = stops (At old.tree) (λ D found. trees (disk_of old) D found) run

-- the same disk has the same tree
tree_is : (D E : Disk) → E ≡ D → E.tree ≡ D.tree
tree_is D E e = ap (λ (X : Disk). X.tree) e

-- Each call of files.

pub untouched_trees : OfTrees Untouched Unchanged
untouched_trees D E e = tree_is D E e

pub creating_trees : (p : Path) → OfTrees (λ D. CreatingOn D p) (λ T. Creating T p)
creating_trees p D E (inl e) = inl (tree_is D E e)
creating_trees p D E (inr (free, e)) = inr (free, ap (λ (X : Disk). X.tree) e)

pub making_trees : (p : Path) → OfTrees (λ D. MakingFoldersOn D p) (λ T. MakingFolders T p)
making_trees p D E (inl e) = inl (tree_is D E e)
making_trees p D E (inr (free, (n, e))) =
    inr (free, (n, ap (λ (X : Disk). X.tree) e ∙ with_folders_tree D (take n (folders_to p))))

pub appending_trees : (p : Path) (bytes : List ℕ) → OfTrees (λ D. AppendingOn D p bytes) (λ T. Appending T p bytes)
appending_trees p bytes D E (inl e) = (0, tree_is D E e ∙ sym (appended_none D.tree p))
appending_trees p bytes D E (inr (file, (n, e))) = (n, ap (λ (X : Disk). X.tree) e)

pub renaming_trees : (from to : Path) → OfTrees (λ D. RenamingOn D from to) (λ T. Renaming T from to)
renaming_trees from to D E (inl e) = inl (tree_is D E e)
renaming_trees from to D E (inr (can, e)) = inr (can, ap (λ (X : Disk). X.tree) e)

pub removing_file_trees : (p : Path) → OfTrees (λ D. RemovingFileOn D p) (λ T. RemovingFile T p)
removing_file_trees p D E (inl e) = inl (tree_is D E e)
removing_file_trees p D E (inr (can, e)) = inr (can, ap (λ (X : Disk). X.tree) e)

pub removing_folder_trees : (p : Path) → OfTrees (λ D. RemovingFolderOn D p) (λ T. RemovingFolder T p)
removing_folder_trees p D E (inl e) = inl (tree_is D E e)
removing_folder_trees p D E (inr (can, e)) = inr (can, ap (λ (X : Disk). X.tree) e)

-- Syncs change no tree.

pub synced_tree : (s : Sync) (D : Disk) → (synced s D).tree ≡ D.tree
synced_tree (OfFile p) D = refl
synced_tree (OfFolder p) D = refl

pub synced_by_tree : (ss : List Sync) (D : Disk) → (synced_by ss D).tree ≡ D.tree
synced_by_tree [] D = refl
synced_by_tree (s ∷ ss) D = synced_by_tree ss (synced s D) ∙ synced_tree s D

pub settling_trees : (s : Sync) → OfTrees (Settling s) Unchanged
settling_trees s D E (inl e) = tree_is D E e
settling_trees s D E (inr e) = ap (λ (X : Disk). X.tree) e ∙ synced_tree s D

pub some_synced_trees : (ss : List Sync) → OfTrees (IsSomeSynced ss) Unchanged
some_synced_trees ss D E (n, e) = ap (λ (X : Disk). X.tree) e ∙ synced_by_tree (take n ss) D

-- Locks.

pub writing_trees : (p : Path) (bytes : List ℕ) → OfTrees (λ D. WritingOn D p bytes) (λ T. Appending T p bytes)
writing_trees p bytes D E (inl found) = appending_trees p bytes D E found
writing_trees p bytes D E (inr e) =
    (length bytes, ap (λ (X : Disk). X.tree) e ∙ ap (λ (l : List ℕ). appended D.tree p l) (sym (take-length bytes)))

pub readying_trees : (p : Path) → OfTrees (λ D. ReadyingOn D p) (λ T. Readying T p)
readying_trees p D E (inl e) = inl (tree_is D E e)
readying_trees p D E (inr (free, (n, e))) =
    inr (free, (n, ap (λ (X : Disk). X.tree) e ∙ with_folders_tree D (take n (fronts p))))

pub locking_trees : (p : Path) → OfTrees (λ D. LockingOn D p) (λ T. Acquiring T p)
locking_trees p D E (inl found) = inl (readying_trees p D E found)
locking_trees p D E (inr (free, found)) =
    inr (free, subst (λ (T : Tree). Creating T (lock_of p) E.tree) (with_folders_tree D (fronts p)) (creating_trees (lock_of p) (readied_on D p) E found))

-- A step, and steps with their syncs.

pub begins_trees : (step : Step) → OfTrees (BeginsOn step) (Begins step)
begins_trees (Create p) D E found = creating_trees p D E found
begins_trees (Append p bytes) D E found = appending_trees p bytes D E found
begins_trees (Line p bytes) D E (inl e) = inl (0, tree_is D E e ∙ sym (appended_none D.tree p))
begins_trees (Line p bytes) D E (inr (inl (file, (n, e)))) = inl (n, ap (λ (X : Disk). X.tree) e)
begins_trees (Line p bytes) D E (inr (inr (free, inl e))) = inr (free, inl (ap (λ (X : Disk). X.tree) e))
begins_trees (Line p bytes) D E (inr (inr (free, inr (n, e)))) = inr (free, inr (n, ap (λ (X : Disk). X.tree) e))
begins_trees (Rename from to) D E found = renaming_trees from to D E found
begins_trees (RemoveFile p) D E found = removing_file_trees p D E found
begins_trees (MakeFolders p) D E found = making_trees p D E found
begins_trees (RemoveFolder p) D E found = removing_folder_trees p D E found
begins_trees End D E e = tree_is D E e

pub does_trees : (step : Step) → OfTrees (DoesOn step) (Does step)
does_trees (Create p) D E (free, e) = (free, ap (λ (X : Disk). X.tree) e)
does_trees (Append p bytes) D E (file, e) = (file, ap (λ (X : Disk). X.tree) e)
does_trees (Line p bytes) D E (inl (file, e)) = inl (file, ap (λ (X : Disk). X.tree) e)
does_trees (Line p bytes) D E (inr (free, e)) = inr (free, ap (λ (X : Disk). X.tree) e)
does_trees (Rename from to) D E (can, e) = (can, ap (λ (X : Disk). X.tree) e)
does_trees (RemoveFile p) D E (inl (file, e)) = inl (file, ap (λ (X : Disk). X.tree) e)
does_trees (RemoveFile p) D E (inr (none, e)) = inr (none, tree_is D E e)
does_trees (MakeFolders p) D E (free, e) = (free, ap (λ (X : Disk). X.tree) e ∙ with_folders_tree D (folders_to p))
does_trees (RemoveFolder p) D E (inl (empty, e)) = inl (empty, ap (λ (X : Disk). X.tree) e)
does_trees (RemoveFolder p) D E (inr (full, e)) = inr (full, tree_is D E e)
does_trees End D E none = none

-- the steps, without their syncs
abbrev pub bare : List Synced → List Step
bare [] = []
bare (With step syncs ∷ plan) = step ∷ bare plan

pub bare_steps : {A : Type 0} (plan : List (Planned A)) → bare (synced_steps plan) ≡ steps_of plan
bare_steps [] = refl
bare_steps (planned ∷ plan) = ap (λ (l : List Step). step_of planned.action ∷ l) (bare_steps plan)

pub reached_trees : (plan : List Synced) → OfTrees (IsReachedBy plan) (IsLeftBy (bare plan))
reached_trees [] D E e = tree_is D E e
reached_trees (With step ss ∷ plan) D E (inl begun) = inl (begins_trees step D E begun)
reached_trees (With step ss ∷ plan) D E (inr (mid, does, inl (n, e))) =
    inl (subst (λ (T : Tree). Begins step D.tree T) (sym (some_synced_trees (needed step D ss) mid E (n, e)))
    (done_is_begun step D.tree mid.tree (does_trees step D mid does)))
reached_trees (With step ss ∷ plan) D E (inr (mid, does, inr rest)) =
    inr (
      mid.tree,
      does_trees step D mid does,
      subst (λ (T : Tree). IsLeftBy (bare plan) T E.tree) (synced_by_tree (needed step D ss) mid) (reached_trees plan (synced_by (needed step D ss) mid) E rest),
    )

-- one step alone
pub reached_alone_trees : (step : Step) (ss : List Sync) → OfTrees (IsReachedBy (With step ss ∷ [])) (Begins step)
reached_alone_trees step ss D E (inl begun) = begins_trees step D E begun
reached_alone_trees step ss D E (inr (mid, does, inl (n, e))) =
    subst (λ (T : Tree). Begins step D.tree T) (sym (some_synced_trees (needed step D ss) mid E (n, e)))
    (done_is_begun step D.tree mid.tree (does_trees step D mid does))
reached_alone_trees step ss D E (inr (mid, does, inr e)) =
    subst (λ (T : Tree). Begins step D.tree T) (sym (tree_is (synced_by (needed step D ss) mid) E e ∙ synced_by_tree (needed step D ss) mid))
    (done_is_begun step D.tree mid.tree (does_trees step D mid does))

-- the steps of a plan
pub planned_trees : {A : Type 0} (plan : List (Planned A)) → OfTrees (IsReachedBy (synced_steps plan)) (IsLeftBy (steps_of plan))
planned_trees plan D E reached =
    subst (λ (steps : List Step). IsLeftBy steps D.tree E.tree) (bare_steps plan) (reached_trees (synced_steps plan) D E reached)
