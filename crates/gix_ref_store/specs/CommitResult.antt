-- What `commit` returns and leaves.
use Rattle.std.specs.Prelude.{◌≡◌, ◌≢◌, ◌<◌, ◌≤◌, ◌⊎◌, ℕ, List, true, false, Option, Some, None, Result, Ok, Err, length, ◌++◌}
use Rattle.std.specs.List.{list_any}
use Rattle.gix_ref_target.specs.PackedRecords.{Record}
use Rattle.gix_ref_files.specs.Tree.{Tree, Path, is_blocked, is_file, is_folder, IsEmptyFolder}
use Rattle.gix_ref_files.specs.declared.files.FileError.{FileError}
use Rattle.gix_ref_files.specs.declared.files.FileError.TheVariants.{Memory as no_memory}
use Rattle.gix_ref_files.specs.declared.steps.Cause.{Cause}
use Rattle.gix_ref_files.specs.declared.steps.Cause.TheVariants.{File, Sync, Unexpected}
use Rattle.gix_ref_files.specs.Disk.{Lost, folder_of}
use Rattle.gix_ref_files.specs.Files.{Meaning, Leaves, Loses, FaultCounts, IsMet}
use Rattle.gix_ref_lookup.specs.Lookups.{ArePackedRecords}
use Rattle.gix_ref_lookup.specs.declared.folders.Dirs.{Dirs}
use Rattle.gix_ref_packed_text.specs.declared.outcome.Rewrite.{Rewrite}
use Rattle.gix_ref_theory.specs.Between.{AreEdits}
use Rattle.gix_ref_theory.specs.Edits.{Mode}
use Rattle.gix_ref_theory.specs.Losses.{IsLostWell}
use Rattle.gix_ref_theory.specs.OnRealTrees.{view_of}
use Rattle.gix_ref_edits.specs.declared.transaction.RefEdit.{RefEdit}
use Rattle.gix_ref_transaction.specs.CommitRenames.{SeeLogs, place_at}
use Rattle.gix_ref_transaction.specs.OwnLocks.{is_in, paths_of, times, RemovesLocks}
use Rattle.gix_ref_transaction.specs.PackedCauses.{ids_among}
use Rattle.gix_ref_transaction.specs.Packing.{HaveTheirPuts, plan_edits}
use Rattle.gix_ref_transaction.specs.PrepareSteps.{held_locks, ids_in, possible_locks, updates, IsPackedPlace}
use Rattle.gix_ref_transaction.specs.declared.edit.Edit.{Edit}
use Rattle.gix_ref_log.specs.declared.actor.SignatureRef.{SignatureRef}
use Rattle.gix_ref_reflog.specs.AskedEdits.{all_but_logs, asked, outcomes_of}
use Rattle.gix_ref_reflog.specs.DueLines.{log_outcomes}
use Rattle.gix_ref_reflog.specs.LineCauses.{FirstFails}
use Rattle.gix_ref_reflog.specs.declared.create_or_update.Error.{Error as LogError}
use Rattle.gix_ref_reflog.specs.declared.create_or_update.Error.TheVariants.{CreateLeadingDirectories, Append}
use Rattle.gix_ref_packed_transaction.specs.Refusals.{IsBadLine, IsReadFile}
use Rattle.gix_ref_packed_transaction.specs.Repacks.{AllCanBePut, IsRepack, alters_record}
use Rattle.gix_ref_packed_transaction.specs.declared.error.Error.TheVariants as repack
use Rattle.gix_ref_commit.specs.Cleared.{AllInWay, AreAllFolders, FoldersGo, HasEntries, HoldsMore, all_removed, commit_entries, folder_lists, is_seen, removals}
use Rattle.gix_ref_commit.specs.CommittedTrees.{AreCommitted, IsOldOrNew}
use Rattle.gix_ref_commit.specs.Decided.{IsFilled, IsPackedLockEmpty}
use Rattle.gix_ref_commit.specs.Entries.{Entry, planned_entries}
use Rattle.gix_ref_commit.specs.Failures.{IsNameAt}
use Rattle.gix_ref_commit.specs.LogEffects.{Extra, with_extras}
use Rattle.gix_ref_commit.specs.Unfinished.{EndsAtStep}
use Rattle.gix_ref_commit.specs.declared.error.Error.{Error}
use Rattle.gix_ref_commit.specs.declared.error.Error.TheVariants.{CreateOrUpdateRefLog, PackedTransactionCommit, LockCommit, DeleteReference, DeleteReflog, FolderInPlace, PreprocessingFailed, Memory}
use Rattle.gix_ref_commit.specs.declared.folders.EmptyDirs.{EmptyDirs}
use Rattle.gix_ref_commit.specs.declared.plan.About.{About}
use Rattle.gix_ref_commit.specs.declared.plan.About.TheVariants.{Folders, Line, Rename, LogRemoval, Packed, Removal}
use Rattle.gix_ref_store.specs.CommitLines.{LinesPass, extras_due, line_rules, log_path_at}
use Rattle.gix_ref_store.specs.Prepared.{PreparesFrom, HasGoodRecords, tree_of, disk_in, IsAtRest, locks_in, places_in}
use Rattle.gix_ref_store.specs.Store.{files_of, kind_of, meaning_of}
use Rattle.gix_ref_store.specs.declared.file.store.Store.{Store}
use Rattle.gix_ref_store.specs.declared.file.transaction.outcome.Done.{Done}
use Rattle.gix_ref_transaction.specs.declared.packing.PackedRefs.{PackedRefs}
use Rattle.gix_ref_store.specs.declared.file.transaction.outcome.Failed.{Failed}

module _ {T : Type 0} where
  -- the locks that the result of a commit names
  abbrev pub left_of : Result (Done T) (Failed T) → List Path
  left_of (Ok done) = paths_of done.locks_left.items
  left_of (Err failed) = paths_of failed.locks_left.items

  -- the mode that the result of a commit hands back
  abbrev pub mode_handed_back : Result (Done T) (Failed T) → PackedRefs T
  mode_handed_back (Ok done) = done.packed_refs
  mode_handed_back (Err failed) = failed.packed_refs

-- `packed-refs` has a line that is no record
abbrev pub IsOfBadLine : Error → Type 0
IsOfBadLine (PackedTransactionCommit (repack.Iteration line)) = Unit {0}
IsOfBadLine other = ⊥

-- nothing but these locks has changed
abbrev pub ChangesLocks : List Path → (before T : Tree) → Type 0
ChangesLocks locks before T = (q : Path) → is_in locks q ≡ false → T q ≡ before q

module _ {F : Type 0} (honest : Type 0) (means : F → Meaning) (faults : F → FaultCounts) where
  -- A commit, from the store `start` with these edits of a `prepare` that began with the store `old`: where `packed-refs` was well
  -- formed, every stop leaves each reference as before or as edited; of the locks only those stay that are named, and one is named
  -- only where a fault came.
  pub record EveryStopIsOldOrNew (mode : Mode) (old start new : Store F) (given : List RefEdit)
      (extras : List Extra) (left : List Path) : Type 0 where
    -- the tree with which it begins, which a stop before its first change leaves
    pub began : honest → HasGoodRecords means old →
        IsOldOrNew (meaning_of old) mode given extras (tree_of means old) (tree_of means start)
    pub leaves : honest → Leaves (means (files_of start)) (means (files_of new)) (λ T.
        HasGoodRecords
        means old → IsOldOrNew (meaning_of old) mode given extras (tree_of means old) T)
    pub gone : honest → (q : Path) → is_in (locks_in means mode old given) q ≡ true →
        is_in left q ≡ false → is_file (tree_of means new q) ≡ false
    pub ours : (q : Path) → is_in left q ≡ true →
        is_in (possible_locks (meaning_of old) given) q ≡ true
    -- and each is named once: no more often than it is among the locks that the edits can have
    pub once : (q : Path) → times q left ≤ times q (possible_locks (meaning_of old) given)

  -- and so for every store and all edits from which `prepare` gave these
  abbrev pub EveryStopFrom : (start new : Store F) → Option SignatureRef → Option Path → List Edit →
      List Path → Type 0
  EveryStopFrom start new committer packed held left =
      (old : Store F) (mode : Mode) (given : List RefEdit) →
      PreparesFrom honest means faults mode old start given packed held →
      EveryStopIsOldOrNew mode old start new given (extras_due means start committer held) left

  -- a commit that succeeds: the edits are committed
  abbrev pub CommitsFrom : (start new : Store F) → Option SignatureRef → Option Path → List Edit →
      List Path → Type 0
  CommitsFrom start new committer packed held left =
      (old : Store F) (mode : Mode) (given : List RefEdit) →
      PreparesFrom honest means faults mode old start given
      packed held → honest → HasGoodRecords means old →
      AreCommitted (meaning_of old) mode given (extras_due means start committer held)
      (tree_of means old) left (tree_of means new)

  -- where a record was put, or that of a deleted reference was found, each line of `packed-refs` is a record
  abbrev pub ReadsPacked : Store F → Option Path → List Edit → Type 0
  ReadsPacked start packed held =
      honest → packed ≢ None → list_any alters_record held ≡ true →
      IsReadFile (kind_of start) (tree_of means start (meaning_of start).packed_path)

  -- What was decided of `packed-refs`, where its lock is held.
  pub record RepacksFrom (start : Store F) (packed : Option Path) (held : List Edit)
      (rewrite : Rewrite) : Type 0 where
    -- where it was well formed, it is that with what was put and without the records of deleted references
    pub made :
        honest →
        (mode : Mode) → AreEdits (meaning_of start) (plan_edits held) → (rs : List Record) →
        ArePackedRecords (kind_of start)
        (view_of (tree_of means start) (meaning_of start).packed_path) rs →
        ids_in held ≡ ids_among (meaning_of start) rs (updates held) →
        HaveTheirPuts (meaning_of start) mode held →
        AllCanBePut (meaning_of start) (kind_of start) held → packed ≢ None →
        IsRepack (meaning_of start) mode (kind_of start) rs (plan_edits held) rewrite
    -- of any file, no line was passed over
    pub read : ReadsPacked start packed held

  -- the lock of `packed-refs` is empty, where it is held
  abbrev pub IsPackedEmpty : Store F → Option Path → Type 0
  IsPackedEmpty start packed = IsPackedLockEmpty packed (tree_of means start)

  -- Where a commit ended early: at the step about this, for this cause. All lines and `packed-refs` were decided before, the new
  -- text of `packed-refs` is in its lock, the steps before that one are done, and none after it is begun; then locks were removed,
  -- and empty folders above what is deleted.
  pub record EndsEarlyAt (start new : Store F) (committer : Option SignatureRef)
      (packed : Option Path) (held : List Edit) (about : About) (cause : Cause) : Type 0 where
    pub ran : List Edit
    pub alike : all_but_logs ran ≡ all_but_logs held
    pub logs : honest → outcomes_of ran ≡ log_outcomes (line_rules start committer)
        (view_of (tree_of means start)) (asked held)
    -- what was seen at the logs of its edits
    pub logged : honest → SeeLogs (tree_of means start) ran
    pub passed : LinesPass honest means start committer held
    pub rewrite : Rewrite
    pub repacked : RepacksFrom start packed held rewrite
    pub filled : Tree
    pub fills : honest → IsPackedEmpty start packed →
        IsFilled packed rewrite (tree_of means start) filled
    -- the folders that are removed before each step
    pub ways : List EmptyDirs
    pub in_way : honest → AllInWay ran start.dirs filled (folder_lists ways)
        (planned_entries start.dirs ran packed rewrite)
    pub mid : Tree
    pub stops : EndsAtStep honest
        (commit_entries start.dirs ran packed rewrite ways) filled mid about cause
    pub released : Tree
    pub removes : honest → RemovesLocks (held_locks packed held) mid released
    pub tidies : honest → FoldersGo start.dirs (all_removed ran) released (tree_of means new)

  -- nothing but the transaction's locks has changed
  abbrev pub OnlyItsLocks : (start new : Store F) → Option Path → List Edit → Type 0
  OnlyItsLocks start new packed held = honest → IsPackedEmpty start packed →
      ChangesLocks (held_locks packed held) (tree_of means start) (tree_of means new)

  -- a call of files failed with this fault, which is no want of memory
  abbrev pub IsFaultBetween : (start new : Store F) → FileError → Type 0
  IsFaultBetween start new fault = IsMet fault (faults (files_of start)) (faults (files_of new))
      × (fault ≢ no_memory)

  -- a call of files failed at this step, or a sync after it
  abbrev pub EndsByFault : (start new : Store F) → Option SignatureRef → Option Path → List Edit →
      About → FileError → Type 0
  EndsByFault start new committer packed held about fault =
      EndsEarlyAt start new committer packed held about (File fault)
      ⊎ EndsEarlyAt start new committer packed held about (Sync fault)

  -- a call of files failed at the step about the edit of this name
  abbrev pub FailsAtStep : (start new : Store F) → Option SignatureRef → Option Path → List Edit →
      (ℕ → About) → FileError → (ℕ → Type 0) → Type 0
  FailsAtStep start new committer packed held about fault is_named =
      IsFaultBetween start new fault × ((at : ℕ) × (at < length held) × is_named at
      × EndsByFault start new committer packed held (about at) fault)

  -- or no folder in the way of the write of that edit could be listed
  abbrev pub FailsAtWrite : (start new : Store F) → Option SignatureRef → Option Path → List Edit →
      (ℕ → About) → FileError → (ℕ → Type 0) → Type 0
  FailsAtWrite start new committer packed held about fault is_named =
      IsFaultBetween start new fault
      × ((at : ℕ) × (at < length held) × is_named at × (OnlyItsLocks start new packed held
      ⊎ EndsByFault start new committer packed held (about at) fault))

  -- the run ended at the folders of a log, or at its line, and reports that log
  abbrev pub EndsAtLog : (start new : Store F) → Option SignatureRef → Option Path → List Edit →
      (ℕ → About) → Cause → (reports : Path → Type 0) → Type 0
  EndsAtLog start new committer packed held about cause reports =
      (at : ℕ) × (at < length held) × (honest → reports (log_path_at start held at))
      × EndsEarlyAt start new committer packed held (about at) cause

  -- a due line was refused before the first write: this is the first cause, edit by edit
  abbrev pub RefusesLine : (start new : Store F) → Option SignatureRef → Option Path → List Edit →
      LogError → Type 0
  RefusesLine start new committer packed held error =
      (honest → FirstFails (line_rules start committer) (view_of (tree_of means start))
      (asked held) error) × OnlyItsLocks start new packed held

  -- Why a line was not added: it was refused, or the run ended at its log.
  abbrev pub FailsForLog : (start new : Store F) → Option SignatureRef → Option Path → List Edit →
      LogError → Type 0
  FailsForLog start new committer packed held (CreateLeadingDirectories None folder) =
      RefusesLine start new committer packed held (CreateLeadingDirectories None folder)
      ⊎ EndsAtLog start new committer packed held Folders Unexpected
      (λ log. folder.items ≡ folder_of log)
  FailsForLog start new committer packed held (CreateLeadingDirectories (Some fault) folder) =
      IsFaultBetween start new fault
      × (RefusesLine start new committer packed held (CreateLeadingDirectories (Some fault) folder)
      ⊎ (EndsAtLog start new committer packed held Folders (File fault)
      (λ log. folder.items ≡ folder_of log)
      ⊎ EndsAtLog start new committer packed held Folders (Sync fault)
      (λ log. folder.items ≡ folder_of log)))
  FailsForLog start new committer packed held (Append source path) =
      FailsAtWrite start new committer packed held Line source
      (λ at. honest → path.items ≡ log_path_at start held at)
  FailsForLog start new committer packed held error =
      RefusesLine start new committer packed held error

  -- Right before this step a folder and each one below it were removed in turn, all that was there before the first write, and yet
  -- it is not empty as the run ends: then a file was written below it since.
  pub record IsFilledAgain (dirs : Dirs) (about : About) (first mid : Tree) (before : List Entry)
      (path : Path) : Type 0 where
    pub front : List Entry
    pub folders : List Path
    pub removed : before ≡ front ++ removals about folders
    pub all : AreAllFolders first path folders
    pub full : IsEmptyFolder mid path → ⊥
    pub file : HasEntries first path → HoldsMore dirs mid path

  -- What is in a folder at this path as a run ends.
  pub record IsNotEmptied (start new : Store F) (committer : Option SignatureRef)
      (packed : Option Path) (held : List Edit) (about : About) (cause : Cause)
      (at : EndsEarlyAt start new committer packed held about cause) (path : Path) : Type 0 where
    -- a folder that was there before the first write held more than empty folders then, or a file was written below it since; where
    -- it was seen that no folder is there none was sought
    pub there : is_seen at.ran about ≡ false →
        is_folder (at.filled path) ≡ true → HoldsMore start.dirs at.filled path
        ⊎ IsFilledAgain start.dirs about at.filled at.mid at.stops.before path
    -- any other holds a file
    pub came : is_folder (at.filled path) ≡ false → HoldsMore start.dirs at.mid path

  -- the run ended at this step, and a folder at this path was not emptied
  abbrev pub EndsAtFolder : (start new : Store F) → Option SignatureRef → Option Path → List Edit →
      About → Path → Type 0
  EndsAtFolder start new committer packed held about path =
      (at : EndsEarlyAt start new committer packed held about Unexpected) × (is_folder (at.mid path)
      ≡ true → IsNotEmptied start new committer packed held about Unexpected at path)

  -- Where a folder was in the place of a reference, of its log, or of `packed-refs`, as the run ended; or a file was in the path of
  -- the log.
  abbrev pub MeetsFolder : (start new : Store F) → Option SignatureRef → Option Path → List Edit →
      Path → Type 0
  MeetsFolder start new committer packed held path =
      ((at : ℕ) × (at < length held) × (path ≡ place_at held at) × ((before : EndsAtFolder start new
      committer packed held (Rename at) path) × (is_folder (before.0.mid path) ≡ true)))
      ⊎ (((at : ℕ) × (at < length held) × (path ≡ log_path_at start held at)
      × ((before : EndsAtFolder start new committer packed held (Line at) path)
      × ((is_folder (before.0.mid path) ≡ true) ⊎ (is_blocked before.0.mid path ≡ true))))
      ⊎ ((path ≡ (meaning_of start).packed_path)
      × ((before : EndsEarlyAt start new committer packed held Packed Unexpected)
      × (IsPackedPlace (meaning_of start) packed → is_folder (before.mid path) ≡ true))))

  -- Why a commit failed, with these edits. A fault of a call of files came with a rise of their count and is no want of memory, and
  -- the error says at which edit; a folder is in the place where the commit ended; a line or `packed-refs` was refused or memory
  -- was, and then nothing but locks has changed.
  abbrev pub FailsFor : (start new : Store F) → Option SignatureRef → Option Path → List Edit →
      Error → Type 0
  FailsFor start new committer packed held (CreateOrUpdateRefLog error) =
      FailsForLog start new committer packed held error
  FailsFor start new committer packed held (LockCommit source name) = FailsAtWrite start new
      committer packed held Rename source (λ at. IsNameAt (updates held) at name)
  FailsFor start new committer packed held (DeleteReflog name source) = FailsAtStep start new
      committer packed held LogRemoval source (λ at. IsNameAt (updates held) at name)
  FailsFor start new committer packed held (DeleteReference name err) = FailsAtStep start new
      committer packed held Removal err (λ at. IsNameAt (updates held) at name)
  FailsFor start new committer packed held (PackedTransactionCommit (repack.Io fault)) =
      IsFaultBetween start new fault × (OnlyItsLocks start new packed held
      ⊎ EndsByFault start new committer packed held Packed fault)
  FailsFor start new committer packed held (PackedTransactionCommit (repack.Iteration line)) =
      (honest → IsBadLine (kind_of start) (tree_of means start (meaning_of start).packed_path) line)
      × LinesPass honest means start committer held
      × OnlyItsLocks start new packed held
  FailsFor start new committer packed held (PackedTransactionCommit other) = ⊥
  FailsFor start new committer packed held (FolderInPlace path) = honest →
      MeetsFolder start new committer packed held path.items
  FailsFor start new committer packed held (PreprocessingFailed source) = ⊥
  FailsFor start new committer packed held Memory = OnlyItsLocks start new packed held

  -- where `packed-refs` was well formed, none of its lines is the cause
  abbrev pub NoBadLineFrom : (start : Store F) → Option Path → List Edit → Error → Type 0
  NoBadLineFrom start packed held error =
      (old : Store F) (mode : Mode) (given : List RefEdit) →
      PreparesFrom honest means faults mode old start given
      packed held → honest → HasGoodRecords means old → IsOfBadLine error → ⊥

  -- Every loss of power inside a commit, from the store `start` with these edits of a `prepare` that began with the store `old`,
  -- where all was at rest: each reference reads as before or as edited, and all else is as it was, except for locks.
  pub record EveryLossIsOldOrNew (mode : Mode) (old start new : Store F)
      (given : List RefEdit) (extras : List Extra) : Type 0 where
    -- on the disk with which it begins
    pub began : (T : Tree) → Lost (disk_in means start) T →
        IsLostWell (meaning_of old) mode (places_in means mode old given)
        (with_extras given extras) (disk_in means start) (tree_of means old) T
    pub loses : Loses (means (files_of start)) (means (files_of new))
        (IsLostWell (meaning_of old) mode (places_in means mode old given)
        (with_extras given extras) (disk_in means start) (tree_of means old))

  abbrev pub EveryLossFrom : (start new : Store F) → Option SignatureRef → Option Path →
      List Edit → Type 0
  EveryLossFrom start new committer packed held =
      (old : Store F) (mode : Mode) (given : List RefEdit) →
      PreparesFrom honest means faults mode old start given
      packed held → honest → HasGoodRecords means old → IsAtRest means old →
      EveryLossIsOldOrNew mode old start new given (extras_due means start committer held)

  -- a commit that succeeds leaves `packed-refs` well formed again, or there is none
  abbrev pub StaysGoodFrom : (start new : Store F) → Option Path → List Edit → Type 0
  StaysGoodFrom start new packed held =
      (old : Store F) (mode : Mode) (given : List RefEdit) →
      PreparesFrom honest means faults mode old start given packed held → honest →
      HasGoodRecords means old → HasGoodRecords means new

  -- a commit that succeeds leaves all at rest: a later loss of power leaves what it did
  abbrev pub SettlesFrom : (start new : Store F) → Option Path → List Edit → Type 0
  SettlesFrom start new packed held =
      (old : Store F) (mode : Mode) (given : List RefEdit) →
      PreparesFrom honest means faults mode old start given packed held → honest →
      IsAtRest means old → IsAtRest means new
