-- Steps on a disk, each with the syncs that settle it: what they make of it, and which disks a stop, a fault or a loss of power
-- among them finds.
use Rattle.std.specs.Prelude.{◌≡◌, ◌⊎◌, ℕ, List, [], ◌∷◌, take, drop, map, Bool, true, false, if◌then◌else◌}
use Rattle.gix_ref_files.specs.Tree.{Tree, Path, is_file, has_folders, folders_to, IsEmptyFolder}
use Rattle.gix_ref_files.specs.Disk.{Disk, created_on, appended_on, moved_on, removed_on, with_folders_on, folder_of}
use Rattle.gix_ref_files.specs.Calls.{IsFree, IsMovable, is_in_the_way}
use Rattle.gix_ref_files.specs.DiskCalls.{CreatingOn, AppendingOn, RenamingOn, RemovingFileOn, MakingFoldersOn, RemovingFolderOn}
use Rattle.gix_ref_files.specs.Settled.{Sync, synced, synced_by, sync_of_folder, climb}
use Rattle.gix_ref_files.specs.Settled.Sync.{OfFile}
use Rattle.gix_ref_files.specs.Steps.{Step, step_of}
use Rattle.gix_ref_files.specs.Steps.Step.{Create, Append, Line, Rename, RemoveFile, MakeFolders, RemoveFolder, End}
use Rattle.gix_ref_files.specs.declared.steps.Action.{Action}
use Rattle.gix_ref_files.specs.declared.steps.Action.TheVariants as actions
use Rattle.gix_ref_files.specs.declared.steps.Settle.{Settle}
use Rattle.gix_ref_files.specs.declared.steps.Settle.TheVariants as settles
use Rattle.gix_ref_files.specs.declared.steps.Planned.{Planned}
use Rattle.gix_ref_files.specs.declared.steps.Cause.{Cause}
use Rattle.gix_ref_files.specs.declared.steps.Cause.TheVariants as causes

-- The step is done: it leads from one disk to another. To remove what is not there is done as it is.
abbrev pub DoesOn : Step → Disk → Disk → Type 0
DoesOn (Create p) D E = IsFree D.tree p × (E ≡ created_on D p)
DoesOn (Append p bytes) D E = (is_file (D.tree p) ≡ true) × (E ≡ appended_on D p bytes)
DoesOn (Line p bytes) D E =
    ((is_file (D.tree p) ≡ true) × (E ≡ appended_on D p bytes))
    ⊎ (IsFree D.tree p × (E ≡ appended_on (created_on D p) p bytes))
DoesOn (Rename from to) D E = IsMovable D.tree from to × (E ≡ moved_on D from to)
DoesOn (RemoveFile p) D E = ((is_file (D.tree p) ≡ true) × (E ≡ removed_on D p))
    ⊎ ((is_file (D.tree p) ≡ false) × (E ≡ D))
DoesOn (MakeFolders p) D E = (is_in_the_way D.tree p ≡ false)
    × (E ≡ with_folders_on D (folders_to p))
DoesOn (RemoveFolder p) D E = (IsEmptyFolder D.tree p × (E ≡ removed_on D p))
    ⊎ ((IsEmptyFolder D.tree p → ⊥) × (E ≡ D))
DoesOn End D E = ⊥

-- The step is perhaps begun, and perhaps done: the disks that a stop, a fault or a loss of power in it finds.
abbrev pub BeginsOn : Step → Disk → Disk → Type 0
BeginsOn (Create p) D E = CreatingOn D p E
BeginsOn (Append p bytes) D E = AppendingOn D p bytes E
BeginsOn (Line p bytes) D E =
    (E ≡ D)
    ⊎ (((is_file (D.tree p) ≡ true) × ((n : ℕ) × (E ≡ appended_on D p (take n bytes))))
    ⊎ (IsFree D.tree p
    × ((E ≡ created_on D p) ⊎ ((n : ℕ) × (E ≡ appended_on (created_on D p) p (take n bytes))))))
BeginsOn (Rename from to) D E = RenamingOn D from to E
BeginsOn (RemoveFile p) D E = RemovingFileOn D p E
BeginsOn (MakeFolders p) D E = MakingFoldersOn D p E
BeginsOn (RemoveFolder p) D E = RemovingFolderOn D p E
BeginsOn End D E = E ≡ D

-- A step and its syncs.
pub data Synced : Type 0 where
  With : (step : Step) (syncs : List Sync) → Synced

-- What a step needs synced, on the disk that it finds: a removal that finds no file needs nothing, and its folder may not be
-- there.
abbrev pub needed : Step → Disk → List Sync → List Sync
needed (RemoveFile p) D syncs = if is_file (D.tree p) then syncs else []
needed step D syncs = syncs

-- A stop, a fault or a loss of power among the steps finds this disk: some of the steps are done with their syncs; and the
-- next one is perhaps begun, or done with some of its syncs.
abbrev pub IsReachedBy : List Synced → Disk → Disk → Type 0
IsReachedBy [] D E = E ≡ D
IsReachedBy (With step syncs ∷ plan) D E =
    BeginsOn step D E
    ⊎ ((mid : Disk) × DoesOn step D mid
    × (((n : ℕ) × (E ≡ synced_by (take n (needed step D syncs)) mid))
    ⊎ IsReachedBy plan (synced_by (needed step D syncs) mid) E))

-- this is the disk after all of them
abbrev pub IsSyncedAfter : List Synced → Disk → Disk → Type 0
IsSyncedAfter [] D E = E ≡ D
IsSyncedAfter (With step syncs ∷ plan) D E = (mid : Disk) × DoesOn step D mid
    × IsSyncedAfter plan (synced_by (needed step D syncs) mid) E

-- some of the syncs were done
abbrev pub IsSomeSynced : List Sync → Disk → Disk → Type 0
IsSomeSynced syncs D E = (n : ℕ) × (E ≡ synced_by (take n syncs) D)

-- A step with its syncs ends the run for this cause, and leaves the disk E. Where its call failed,
-- it is perhaps begun; where a sync failed, it is done with some of its syncs; else E is D.
abbrev pub EndsOn : Synced → Cause → Disk → Disk → Type 0
EndsOn (With step syncs) (causes.File error) D E = BeginsOn step D E
EndsOn (With step syncs) (causes.Sync error) D E = (mid : Disk) × DoesOn step D mid
    × IsSomeSynced (needed step D syncs) mid E
EndsOn (With step syncs) causes.Unexpected D E = E ≡ D
EndsOn (With step syncs) causes.Asked D E = E ≡ D

-- The run ended at this place for this cause: the steps before it are done, each with its syncs;
-- the step there ends the run; and none after it is begun.
abbrev pub IsEndedAt : List Synced → ℕ → Cause → Disk → Disk → Type 0
IsEndedAt plan at cause D E = (mid : Disk) × IsSyncedAfter (take at plan) D mid
    × (step : Synced) × (rest : List Synced) × (drop at plan ≡ step ∷ rest)
    × EndsOn step cause mid E

-- a sync was done, or not
abbrev pub Settling : Sync → Disk → Disk → Type 0
Settling sync D E = (E ≡ D) ⊎ (E ≡ synced sync D)

-- the folders of a path that are synced
abbrev pub folder_syncs : Path → Settle → List Sync
folder_syncs p settles.Nothing = []
folder_syncs p settles.File = []
folder_syncs p settles.Folder = sync_of_folder (folder_of p)
folder_syncs p (settles.UpTo root) = climb p root

-- and before these the bytes of its file, where they grew
abbrev pub path_syncs : Bool → Path → Settle → List Sync
path_syncs grows p settles.Nothing = []
path_syncs true p settles.File = OfFile p ∷ folder_syncs p settles.File
path_syncs true p settles.Folder = OfFile p ∷ folder_syncs p settles.Folder
path_syncs true p (settles.UpTo root) = OfFile p ∷ folder_syncs p (settles.UpTo root)
path_syncs false p settle = folder_syncs p settle

-- the syncs of an action: none where folders are made or removed
abbrev pub syncs_of : Action → Settle → List Sync
syncs_of (actions.Create path) settle = path_syncs false path.now settle
syncs_of (actions.Append path bytes) settle = path_syncs true path.now settle
syncs_of (actions.Line path bytes seen) settle = path_syncs true path.now settle
syncs_of (actions.Rename from to) settle = path_syncs false to.now settle
syncs_of (actions.RemoveFile path) settle = path_syncs false path.now settle
syncs_of (actions.MakeFolders path) settle = []
syncs_of (actions.RemoveFolder path) settle = []
syncs_of actions.End settle = []

-- a step of a plan with its syncs
abbrev pub synced_step : {E : Type 0} → Planned E → Synced
synced_step planned = With (step_of planned.action) (syncs_of planned.action planned.settle)

-- the steps of a plan with their syncs
abbrev pub synced_steps : {E : Type 0} → List (Planned E) → List Synced
synced_steps plan = map synced_step plan

-- the step needs its syncs on this disk
abbrev pub needs : Step → Tree → Bool
needs (RemoveFile p) T = is_file (T p)
needs step T = true

-- what the syncs of a path want: folders lead there, and a file is there where its bytes grew
abbrev pub CanSync : Bool → Tree → Path → Type 0
CanSync grows T p = (has_folders T p ≡ true) × (grows ≡ true → is_file (T p) ≡ true)

-- what the syncs of an action want
abbrev pub CanSettle : Action → Tree → Type 0
CanSettle (actions.Create path) T = CanSync false T path.now
CanSettle (actions.Append path bytes) T = CanSync true T path.now
CanSettle (actions.Line path bytes seen) T = CanSync true T path.now
CanSettle (actions.Rename from to) T = CanSync false T to.now
CanSettle (actions.RemoveFile path) T = CanSync false T path.now
CanSettle (actions.MakeFolders path) T = Unit {0}
CanSettle (actions.RemoveFolder path) T = Unit {0}
CanSettle actions.End T = Unit {0}
