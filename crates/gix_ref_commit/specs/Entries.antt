-- The plan of a commit: its steps with their syncs, each with what it is about.
use Rattle.std.specs.Prelude.{◌≡◌, ℕ, ◌+◌, List, [], ◌∷◌, ◌++◌, map, Option, Some, None, Bool, true, false, ◌<◌, if◌then◌else◌}
use Rattle.gix_ref_files.specs.Tree.{Path}
use Rattle.gix_ref_files.specs.Disk.{folder_of}
use Rattle.gix_ref_files.specs.Lock.{lock_of}
use Rattle.gix_ref_files.specs.Settled.{Sync, sync_of_folder, climb}
use Rattle.gix_ref_files.specs.Settled.Sync.{OfFile}
use Rattle.gix_ref_files.specs.Steps.{Step}
use Rattle.gix_ref_files.specs.Steps.Step.{Line, MakeFolders, Rename, RemoveFile}
use Rattle.gix_ref_files.specs.DiskSteps.{Synced, synced_step}
use Rattle.gix_ref_files.specs.DiskSteps.Synced.{With}
use Rattle.gix_ref_files.specs.declared.steps.Cause.{Cause}
use Rattle.gix_ref_files.specs.declared.steps.Cause.TheVariants as causes
use Rattle.gix_ref_files.specs.declared.steps.Planned.{Planned}
use Rattle.gix_ref_lookup.specs.StoreLayout.{root_in}
use Rattle.gix_ref_lookup.specs.declared.folders.Dirs.{Dirs}
use Rattle.gix_ref_packed_text.specs.declared.outcome.Rewrite.{Rewrite}
use Rattle.gix_ref_packed_text.specs.declared.outcome.Rewrite.TheVariants.{Unchanged, Removed, Text}
use Rattle.gix_ref_transaction.specs.CommitRenames.{is_file_seen}
use Rattle.gix_ref_transaction.specs.declared.edit.Edit.{Edit}
use Rattle.gix_ref_transaction.specs.declared.edit.Effect.{Effect}
use Rattle.gix_ref_transaction.specs.declared.edit.Effect.TheVariants as effects
use Rattle.gix_ref_transaction.specs.declared.edit.LogEffect.{LogEffect}
use Rattle.gix_ref_transaction.specs.declared.edit.LogEffect.TheVariants as logs
use Rattle.gix_ref_commit.specs.declared.plan.About.{About}
use Rattle.gix_ref_commit.specs.declared.plan.About.TheVariants as about
use Rattle.gix_ref_commit.specs.declared.run.Unfinished.{Unfinished}
use Rattle.gix_ref_commit.specs.declared.run.Unfinished.TheVariants.{Memory, Step as AtStep}

-- a step with its syncs, and what it is about
abbrev pub Entry : Type 0
Entry = Synced × About

abbrev pub entry : Planned About → Entry
entry planned = (synced_step planned, planned.about)

abbrev pub entries : List (Planned About) → List Entry
entries plan = map entry plan

abbrev pub entry_of : Option (Planned About) → List Entry
entry_of None = []
entry_of (Some planned) = entry planned ∷ []

-- the folders of a path are synced, up to its root
abbrev pub syncs_at : Dirs → Path → List Sync
syncs_at dirs path = climb path (root_in dirs path)

-- the folders that lead to a log, which are made before a line is added to it
abbrev pub folders_for : ℕ → LogEffect → List Entry
folders_for at (logs.Append log line) =
    (With (MakeFolders (folder_of log.items)) [], about.Folders at) ∷ []
folders_for at logs.Keep = []
folders_for at (logs.Remove log) = []

-- where there was no log
abbrev pub folders_entry : ℕ → Edit → List Entry
folders_entry at e = if is_file_seen e.log_seen then [] else folders_for at e.log

-- the line of a log
abbrev pub line_for : Dirs → ℕ → LogEffect → List Entry
line_for dirs at (logs.Append log line) = (
  With (Line log.items line.items)
      (OfFile log.items ∷ syncs_at dirs log.items),
  about.Line at,
) ∷ []
line_for dirs at logs.Keep = []
line_for dirs at (logs.Remove log) = []

abbrev pub line_entry : Dirs → ℕ → Edit → List Entry
line_entry dirs at e = line_for dirs at e.log

-- the rename of the lock of a place
abbrev pub rename_for : Dirs → ℕ → Path → Effect → List Entry
rename_for dirs at place effects.Write =
    (With (Rename (lock_of place) place) (syncs_at dirs place), about.Rename at) ∷ []
rename_for dirs at place effects.Remove = []
rename_for dirs at place effects.Keep = []

abbrev pub rename_entry : Dirs → ℕ → Edit → List Entry
rename_entry dirs at e = rename_for dirs at e.lock e.effect

-- the removal of a file, settled by the sync of its folder
abbrev pub removal_of : Path → Synced
removal_of path = With (RemoveFile path) (sync_of_folder (folder_of path))

-- the removal of a log
abbrev pub log_removal_for : ℕ → LogEffect → List Entry
log_removal_for at (logs.Remove log) =
    (removal_of log.items, about.LogRemoval at) ∷ []
log_removal_for at logs.Keep = []
log_removal_for at (logs.Append log line) = []

abbrev pub log_removal_entry : ℕ → Edit → List Entry
log_removal_entry at e = log_removal_for at e.log

-- the removal of the loose file at a place
abbrev pub removal_for : ℕ → Path → Effect → List Entry
removal_for at place effects.Remove =
    (removal_of place, about.Removal at) ∷ []
removal_for at place effects.Write = []
removal_for at place effects.Keep = []

abbrev pub removal_entry : ℕ → Edit → List Entry
removal_entry at e = removal_for at e.lock e.effect

-- what is done with `packed-refs`
abbrev pub packed_entry : Dirs → Path → Rewrite → List Entry
packed_entry dirs path Unchanged = []
packed_entry dirs path Removed = (removal_of path, about.Packed) ∷ []
packed_entry dirs path (Text text) =
    (With (Rename (lock_of path) path) (syncs_at dirs path), about.Packed) ∷ []

-- where its lock is held
abbrev pub packed_entries : Dirs → Option Path → Rewrite → List Entry
packed_entries dirs None rewrite = []
packed_entries dirs (Some path) rewrite = packed_entry dirs path rewrite

-- for each edit, the first at this place of the list
abbrev pub each : (ℕ → Edit → List Entry) → ℕ → List Edit → List Entry
each f at [] = []
each f at (e ∷ edits) = f at e ++ each f (at + 1) edits

-- the line of an edit, after the folders that lead to its log, and then its rename: so no reference is changed without its line
abbrev pub update_entries : Dirs → ℕ → Edit → List Entry
update_entries dirs at e = folders_entry at e ++ (line_entry dirs at e ++ rename_entry dirs at e)

-- all of them, in their order
abbrev pub planned_entries : Dirs → List Edit → Option Path → Rewrite → List Entry
planned_entries dirs edits packed rewrite =
    each (update_entries dirs) 0 edits ++ (each log_removal_entry 0 edits
    ++ (packed_entries dirs packed rewrite ++ each removal_entry 0 edits))

-- this is the plan of these edits, whatever becomes of `packed-refs`
abbrev pub IsPlanOf : Dirs → List Edit → List Entry → Type 0
IsPlanOf dirs edits plan = (packed : Option Path) × (rewrite : Rewrite)
    × (plan ≡ planned_entries dirs edits packed rewrite)

-- the steps of entries, with their syncs
abbrev pub steps_in : List Entry → List Synced
steps_in es = map (λ (e : Entry). e.0) es

-- a step without its syncs
abbrev pub bare : Synced → Step
bare (With step syncs) = step

abbrev pub bare_steps : List Entry → List Step
bare_steps es = map (λ (e : Entry). bare e.0) es

-- the locks of so many edits, of n, were renamed before this step, where they are written
abbrev pub done_before : ℕ → About → ℕ
done_before n (about.Folders at) = at
done_before n (about.Line at) = at
done_before n (about.Rename at) = at
done_before n (about.LogRemoval at) = n
done_before n about.Packed = n
done_before n (about.Removal at) = n

-- `packed-refs` was changed before it
abbrev pub packed_before : About → Bool
packed_before (about.Removal at) = true
packed_before other = false

-- the lock of `packed-refs` is renamed
abbrev pub renames_packed : Rewrite → Bool
renames_packed (Text text) = true
renames_packed other = false

-- and where the run ended at this step for this cause: the step is done where a sync after it failed
abbrev pub done_at : ℕ → About → Cause → ℕ
done_at n (about.Rename at) (causes.Sync error) = at + 1
done_at n (about.Rename at) (causes.File error) = at
done_at n (about.Rename at) causes.Unexpected = at
done_at n (about.Rename at) causes.Asked = at
done_at n (about.Folders at) cause = at
done_at n (about.Line at) cause = at
done_at n (about.LogRemoval at) cause = n
done_at n about.Packed cause = n
done_at n (about.Removal at) cause = n

-- how many edits, from the first on, have their locks renamed where a commit ended so
abbrev pub done_of : ℕ → Unfinished → ℕ
done_of n Memory = 0
done_of n (AtStep about cause) = done_at n about cause

-- and whether the lock of `packed-refs` was renamed
abbrev pub packed_done : Rewrite → Unfinished → Bool
packed_done rewrite Memory = false
packed_done rewrite (AtStep (about.Removal at) cause) = renames_packed rewrite
packed_done rewrite (AtStep (about.Folders at) cause) = false
packed_done rewrite (AtStep (about.Line at) cause) = false
packed_done rewrite (AtStep (about.Rename at) cause) = false
packed_done rewrite (AtStep (about.LogRemoval at) cause) = false
packed_done rewrite (AtStep about.Packed (causes.Sync error)) = renames_packed rewrite
packed_done rewrite (AtStep about.Packed (causes.File error)) = false
packed_done rewrite (AtStep about.Packed causes.Unexpected) = false
packed_done rewrite (AtStep about.Packed causes.Asked) = false

-- it names one of so many edits, or `packed-refs`
abbrev pub IsOfEdit : ℕ → About → Type 0
IsOfEdit n (about.Folders at) = at < n
IsOfEdit n (about.Line at) = at < n
IsOfEdit n (about.Rename at) = at < n
IsOfEdit n (about.LogRemoval at) = at < n
IsOfEdit n about.Packed = Unit {0}
IsOfEdit n (about.Removal at) = at < n
