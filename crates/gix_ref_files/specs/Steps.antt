-- Steps on a tree: what they make of it, and what a stop among them could leave.
use Rattle.std.specs.Prelude.{◌≡◌, ◌≢◌, ◌⊎◌, ℕ, zero, suc, List, [], ◌∷◌, true, false, IsSome, map}
use Rattle.gix_ref_files.specs.Tree.{Tree, Path, appended, is_file, is_folder, is_blocked}
use Rattle.gix_ref_files.specs.Files.{FaultCounts, count_with}
use Rattle.gix_ref_files.specs.Calls.{IsFree, created, Creates, Creating, Appends, Appending, Renames, Renaming, RemovesFile, RemovingFile, MakesFolders, MakingFolders, RemovesFolder, RemovingFolder, is_in_the_way}
use Rattle.gix_ref_files.specs.declared.files.Create.TheVariants.{Made}
use Rattle.gix_ref_files.specs.declared.files.Rename.TheVariants.{Moved}
use Rattle.gix_ref_files.specs.declared.files.FileError.TheVariants.{Memory as no_memory}
use Rattle.gix_ref_files.specs.declared.steps.Action.{Action}
use Rattle.gix_ref_files.specs.declared.steps.Action.TheVariants.{Create as CreateAction, Append as AppendAction, Line as LineAction, Rename as RenameAction, RemoveFile as RemoveFileAction, MakeFolders as MakeFoldersAction, RemoveFolder as RemoveFolderAction, End as EndAction}
use Rattle.gix_ref_files.specs.declared.steps.Planned.{Planned}
use Rattle.gix_ref_files.specs.declared.steps.Cause.{Cause}
use Rattle.gix_ref_files.specs.declared.steps.Cause.TheVariants.{File, Sync, Unexpected, Asked}

-- One step on a tree: a call of files that changes it, or an end that the maker of the steps asks for.
pub data Step : Type 0 where
  Create : (path : Path) → Step
  Append : (path : Path) (bytes : List ℕ) → Step
  -- an append that makes the file where it is missing, as for a line of a log
  Line : (path : Path) (bytes : List ℕ) → Step
  Rename : (from to : Path) → Step
  RemoveFile : (path : Path) → Step
  MakeFolders : (path : Path) → Step
  RemoveFolder : (path : Path) → Step
  End : Step

-- The step is done: it leads from the tree `before` to the tree T. To remove what is not there is done as it is.
abbrev pub Does : Step → Tree → Tree → Type 0
Does (Create path) before T = Creates before path T Made
Does (Append path bytes) before T = Appends before path bytes T true
Does (Line path bytes) before T = Appends before path bytes T true
    ⊎ (IsFree before path × (T ≡ appended (created before path) path bytes))
Does (Rename from to) before T = Renames before from to T Moved
Does (RemoveFile path) before T = RemovesFile before path T true ⊎ RemovesFile before path T false
Does (MakeFolders path) before T = MakesFolders before path T true
Does (RemoveFolder path) before T = RemovesFolder before path T true
    ⊎ RemovesFolder before path T false
Does End before T = ⊥

-- A stop inside the step could leave T: the tree before, the tree after, or a beginning of the bytes or folders.
abbrev pub Begins : Step → Tree → Tree → Type 0
Begins (Create path) before T = Creating before path T
Begins (Append path bytes) before T = Appending before path bytes T
Begins (Line path bytes) before T =
    Appending before path bytes T ⊎ (IsFree before path
    × ((T ≡ created before path) ⊎ Appending (created before path) path bytes T))
Begins (Rename from to) before T = Renaming before from to T
Begins (RemoveFile path) before T = RemovingFile before path T
Begins (MakeFolders path) before T = MakingFolders before path T
Begins (RemoveFolder path) before T = RemovingFolder before path T
Begins End before T = T ≡ before

-- T is the tree after all of the steps.
abbrev pub IsAfter : List Step → Tree → Tree → Type 0
IsAfter [] before T = T ≡ before
IsAfter (step ∷ steps) before T = (mid : Tree) × Does step before mid × IsAfter steps mid T

-- A stop among the steps could leave T: some of the steps are done, and the next one is perhaps begun.
abbrev pub IsLeftBy : List Step → Tree → Tree → Type 0
IsLeftBy [] before T = T ≡ before
IsLeftBy (step ∷ steps) before T =
    Begins step before T ⊎ ((mid : Tree) × Does step before mid × IsLeftBy steps mid T)

-- An honest result that ends the run: something is there or a file is in the way where one was to be made, no file to
-- append to, a folder or a file in the way where a line is to be added, a folder at the end of a rename, or a file in the
-- way of folders. A removal has no such result.
abbrev pub IsRefused : Step → Tree → Type 0
IsRefused (Create path) T = IsSome (T path) ⊎ (is_blocked T path ≡ true)
IsRefused (Append path bytes) T = is_file (T path) ≡ false
IsRefused (Line path bytes) T = (is_folder (T path) ≡ true) ⊎ (is_blocked T path ≡ true)
IsRefused (Rename from to) T = is_folder (T to) ≡ true
IsRefused (RemoveFile path) T = ⊥
IsRefused (MakeFolders path) T = is_in_the_way T path ≡ true
IsRefused (RemoveFolder path) T = ⊥
IsRefused End T = ⊥

-- something may be synced after the step: it is not one of folders, nor an end
abbrev pub MayBeSynced : Step → Type 0
MayBeSynced (Create path) = Unit {0}
MayBeSynced (Append path bytes) = Unit {0}
MayBeSynced (Line path bytes) = Unit {0}
MayBeSynced (Rename from to) = Unit {0}
MayBeSynced (RemoveFile path) = Unit {0}
MayBeSynced (MakeFolders path) = ⊥
MayBeSynced (RemoveFolder path) = ⊥
MayBeSynced End = ⊥

-- A step ends the run for this cause, and leaves the tree T. Where a sync failed the step is done.
abbrev pub EndsBy : Step → Cause → Tree → Tree → Type 0
EndsBy step (File error) before T = Begins step before T
EndsBy step (Sync error) before T = MayBeSynced step × Does step before T
EndsBy step Unexpected before T = IsRefused step before × (T ≡ before)
EndsBy step Asked before T = (step ≡ End) × (T ≡ before)

-- The steps before the one at this place are done, and that one ends the run.
abbrev pub EndsAt : List Step → ℕ → Cause → Tree → Tree → Type 0
EndsAt [] at cause before T = ⊥
EndsAt (step ∷ steps) zero cause before T = EndsBy step cause before T
EndsAt (step ∷ steps) (suc at) cause before T = (mid : Tree) × Does step before mid
    × EndsAt steps at cause mid T

-- the step of an action
abbrev pub step_of : Action → Step
step_of (CreateAction path) = Create path.now
step_of (AppendAction path bytes) = Append path.now bytes.now
step_of (LineAction path bytes seen) = Line path.now bytes.now
step_of (RenameAction from to) = Rename from.now to.now
step_of (RemoveFileAction path) = RemoveFile path.now
step_of (MakeFoldersAction path) = MakeFolders path.now
step_of (RemoveFolderAction path) = RemoveFolder path.now
step_of EndAction = End

-- the steps of a plan
abbrev pub steps_of : {E : Type 0} → List (Planned E) → List Step
steps_of plan = map (λ planned. step_of planned.action) plan

-- the count of faults after a step that ended a run
abbrev pub count_ended : Cause → FaultCounts → FaultCounts
count_ended (File error) n = count_with error n
count_ended (Sync error) n = count_with error n
count_ended Unexpected n = n
count_ended Asked n = n

-- a run that ended for this cause did not want memory
abbrev pub HasMemory : Cause → Type 0
HasMemory (File error) = error ≢ no_memory
HasMemory (Sync error) = error ≢ no_memory
HasMemory Unexpected = Unit {0}
HasMemory Asked = Unit {0}

-- a step ended for this cause, whose fault is counted
abbrev pub IsCounted : Cause → FaultCounts → FaultCounts → Type 0
IsCounted cause before now = (now ≡ count_ended cause before) × HasMemory cause
