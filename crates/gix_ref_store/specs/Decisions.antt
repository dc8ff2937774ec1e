-- What a commit decides inside of a store of logs, of `packed-refs` and of the folders in its way, or why it could not; and the
-- locks that it names.
use Rattle.std.specs.Prelude.{◌≡◌, ◌≢◌, ◌<◌, ℕ, List, Option, None, Result, Ok, Err, length}
use Rattle.gix_ref_target.specs.PackedRecords.{Record}
use Rattle.gix_ref_files.specs.Files.{Meaning, FaultCounts}
use Rattle.gix_ref_lookup.specs.Lookups.{ArePackedRecords}
use Rattle.gix_ref_theory.specs.Between.{AreEdits}
use Rattle.gix_ref_theory.specs.OnRealTrees.{view_of}
use Rattle.gix_ref_transaction.specs.CommitRenames.{SeeLogs}
use Rattle.gix_ref_transaction.specs.Packing.{plan_edits}
use Rattle.gix_ref_transaction.specs.PrepareSteps.{updates, AreWholeLocks}
use Rattle.gix_ref_transaction.specs.declared.edit.Edit.{Edit}
use Rattle.gix_ref_log.specs.declared.actor.SignatureRef.{SignatureRef}
use Rattle.gix_ref_reflog.specs.AskedEdits.{asked, outcomes_of}
use Rattle.gix_ref_reflog.specs.DueLines.{log_outcomes}
use Rattle.gix_ref_reflog.specs.LineCauses.{FirstFails, IsCountedError}
use Rattle.gix_ref_packed_transaction.specs.Refusals.{IsBadLine}
use Rattle.gix_ref_packed_transaction.specs.declared.error.Error.TheVariants as repack
use Rattle.gix_ref_commit.specs.declared.error.Error.{Error}
use Rattle.gix_ref_commit.specs.declared.error.Error.TheVariants.{CreateOrUpdateRefLog, LockCommit, PackedTransactionCommit, Memory}
use Rattle.gix_ref_commit.specs.Cleared.{AllInWay, all_removed, commit_entries, folder_lists}
use Rattle.gix_ref_commit.specs.Decided.{IsFilled, OnlyFillsPacked}
use Rattle.gix_ref_commit.specs.Entries.{planned_entries}
use Rattle.gix_ref_commit.specs.Failures.{IsNameAt}
use Rattle.gix_ref_commit.specs.Unfinished.{RunsOnly, RunsTo}
use Rattle.gix_ref_commit.specs.declared.folders.EmptyDirs.{EmptyDirs}
use Rattle.gix_ref_reflog.specs.declared.create_or_update.Error.TheVariants.{Append}
use Rattle.gix_ref_store.specs.CommitLines.{LinesPass, line_rules, log_path_at}
use Rattle.gix_ref_store.specs.CommitResult.{IsFaultBetween, IsPackedEmpty, RepacksFrom}
use Rattle.gix_ref_store.specs.Prepared.{disk_in, tree_of}
use Rattle.gix_ref_store.specs.Store.{files_of, kind_of, meaning_of, with_files}
use Rattle.gix_ref_store.specs.declared.file.store.Store.{Store}
use Rattle.gix_ref_store.specs.declared.file.transaction.commit.decide.Published.{Published}
use Rattle.gix_ref_packed_text.specs.declared.outcome.Rewrite.{Rewrite}
use Rattle.gix_ref_files.specs.Tree.{Path}
use Rattle.gix_ref_transaction.specs.OwnLocks.{paths_of}
use Rattle.gix_ref_transaction.specs.declared.release.Failure.{Failure}
use Rattle.gix_ref_transaction.specs.declared.release.Remains.{Remains}

-- the locks that are named by a commit
abbrev pub left_in : Result Remains (Failure Error) → List Path
left_in (Ok remains) = paths_of remains.left.items
left_in (Err ended) = paths_of ended.locks_left.items

module _ {F : Type 0} (honest : Type 0) (means : F → Meaning) (faults : F → FaultCounts) where
  -- A due line was refused; a call of files failed, with a rise of their count, where a folder in the way of a line or of a rename
  -- was listed, or at `packed-refs`; `packed-refs` has a bad line, and so it is not well formed; or memory was refused.
  abbrev pub IsUndecided : (start new : Store F) → Option SignatureRef → List Edit → Error → Type 0
  IsUndecided start new committer held (CreateOrUpdateRefLog (Append source path)) =
      IsFaultBetween honest means faults start new source
      × ((at : ℕ) × (at < length held) × (honest → path.items ≡ log_path_at start held at))
  IsUndecided start new committer held (LockCommit source name) =
      IsFaultBetween honest means faults start new source
      × ((at : ℕ) × (at < length held) × IsNameAt (updates held) at name)
  IsUndecided start new committer held (CreateOrUpdateRefLog error) =
      (honest → FirstFails (line_rules start committer) (view_of (tree_of means start))
      (asked held) error)
      × IsCountedError (faults (files_of start)) (faults (files_of new)) error
  IsUndecided start new committer held (PackedTransactionCommit (repack.Io fault)) =
      IsFaultBetween honest means faults start new fault
  IsUndecided start new committer held (PackedTransactionCommit (repack.Iteration line)) =
      (honest → IsBadLine (kind_of start) (tree_of means start (meaning_of start).packed_path) line)
      × (honest → AreEdits (meaning_of start) (plan_edits held) → (rs : List Record) →
      ArePackedRecords (kind_of start)
      (view_of (tree_of means start) (meaning_of start).packed_path) rs → ⊥)
      × LinesPass honest means start committer held
  IsUndecided start new committer held Memory = Unit {0}
  IsUndecided start new committer held other = ⊥

  -- What was decided of the logs of these edits, which became `ran`, and of `packed-refs`, with the path that it has. The new text
  -- of `packed-refs` is in its lock.
  pub record TextsAreDecided (start new : Store F) (committer : Option SignatureRef)
      (packed : Option Path) (held ran : List Edit) (rewrite : Rewrite)
      (place : Path) : Type 0 where
    -- each edit has what becomes of its log
    pub logs : honest → outcomes_of ran ≡ log_outcomes (line_rules start committer)
        (view_of (tree_of means start)) (asked held)
    -- and whether that was seen to be there
    pub logged : honest → SeeLogs (tree_of means start) ran
    -- each line that is due can be made and added
    pub passed : LinesPass honest means start committer held
    -- what becomes of `packed-refs`
    pub repacked : RepacksFrom honest means faults start packed held rewrite
    -- the path of `packed-refs`, where its lock is held
    pub path : packed ≢ None → place ≡ (meaning_of start).packed_path
    -- no other file has changed
    pub filled : honest → IsPackedEmpty honest means faults start packed →
        IsFilled packed rewrite (tree_of means start) (tree_of means new)
    -- each lock whose text was synced has a synced one still
    pub wholes : honest → IsPackedEmpty honest means faults start packed → (locks : List Path) →
        AreWholeLocks (disk_in means start) locks → AreWholeLocks (disk_in means new) locks

  -- All that a commit decides before its first write, with the folders that are removed before each step.
  pub record AllIsDecided (start new : Store F) (committer : Option SignatureRef)
      (packed : Option Path) (held ran : List Edit) (published : Published)
      (ways : List EmptyDirs) : Type 0 where
    -- what becomes of logs and of `packed-refs`
    pub texts : TextsAreDecided start new committer packed held ran published.rewrite
        published.path.items
    -- the paths of the logs and loose files that are removed
    pub removed : paths_of published.removed.items ≡ all_removed ran
    -- the folders that are in the way
    pub in_way : honest → AllInWay ran start.dirs (tree_of means new) (folder_lists ways)
        (planned_entries start.dirs ran packed published.rewrite)

  -- A commit that was decided, and whose steps were then run, to their end or not.
  pub record IsPublished (start new : Store F) (committer : Option SignatureRef)
      (packed : Option Path) (held ran : List Edit) (published : Published) : Type 0 where
    -- the files before its first write
    pub before : F
    -- until then nothing was written but the lock of `packed-refs`
    pub fills : OnlyFillsPacked honest means faults packed (files_of start) before
    -- and all was decided
    pub ways : List EmptyDirs
    pub decided : AllIsDecided start (with_files start before) committer packed held ran published
        ways
    -- then nothing but these steps was run
    pub runs : RunsOnly honest means faults
        (commit_entries start.dirs ran packed published.rewrite ways) before (files_of new)
    -- all of them, or up to the one at which the run ended
    pub ended : RunsTo honest means faults
        (commit_entries start.dirs ran packed published.rewrite ways) before (files_of new)
        published.ended
