-- Which folders a commit removes.
use Rattle.std.specs.Prelude.{◌≡◌, ◌⊎◌, List, [], ◌∷◌, ◌++◌, Option, Some}
use Rattle.std.specs.List.{flat_map}
use Rattle.gix_ref_files.specs.Files.{Meaning, FaultCounts}
use Rattle.gix_ref_files.specs.Settled.{IsIn}
use Rattle.gix_ref_files.specs.Tree.{Tree, Path}
use Rattle.gix_ref_files.specs.Tree.Content.{Folder}
use Rattle.gix_ref_lookup.specs.declared.folders.Dirs.{Dirs}
use Rattle.gix_ref_theory.specs.Edits as plan
use Rattle.gix_ref_theory.specs.Readings as readings
use Rattle.gix_ref_edits.specs.RefEdits.{name_of}
use Rattle.gix_ref_transaction.specs.CarriedEdits.{change_of}
use Rattle.gix_ref_transaction.specs.PrepareSteps.{packed_places}
use Rattle.gix_ref_transaction.specs.declared.edit.Edit.{Edit}
use Rattle.gix_ref_transaction.specs.declared.edit.Effect.{Effect}
use Rattle.gix_ref_transaction.specs.declared.edit.Effect.TheVariants as effects
use Rattle.gix_ref_log.specs.declared.actor.SignatureRef.{SignatureRef}
use Rattle.gix_ref_reflog.specs.AskedEdits.{asked}
use Rattle.gix_ref_reflog.specs.DueLines.{LogOutcome, log_outcomes}
use Rattle.gix_ref_reflog.specs.DueLines.LogOutcome.{Stays, Gains, Goes}
use Rattle.gix_ref_theory.specs.OnRealTrees.{view_of}
use Rattle.gix_ref_commit.specs.Cleared.{IsAbove, IsAtOrBelow, removed_file, roots_of}
use Rattle.gix_ref_store.specs.CommitLines.{line_rules}
use Rattle.gix_ref_store.specs.CommitResult.{IsPackedEmpty}
use Rattle.gix_ref_store.specs.Store.{files_of, meaning_of}
use Rattle.gix_ref_store.specs.declared.file.store.Store.{Store}

-- the loose file that an edit writes, if it writes one
abbrev pub written_file : Path → Effect → List Path
written_file place effects.Write = place ∷ []
written_file place effects.Remove = []
written_file place effects.Keep = []

abbrev pub written_by : Edit → List Path
written_by edit = written_file edit.lock edit.effect

-- the log that gains a line
abbrev pub lined_by : LogOutcome → List Path
lined_by (Gains log line) = log ∷ []
lined_by Stays = []
lined_by (Goes log) = []

-- the log that a change removes
abbrev pub log_of_deletion : Path → plan.Change → List Path
log_of_deletion log plan.Change.Delete = log ∷ []
log_of_deletion log (plan.Change.Update target) = []

-- the paths that an edit removes: the log of a deletion, and its loose file, where that goes
abbrev pub deleted_by : readings.Store → Edit → List Path
deleted_by s edit = log_of_deletion (s.log (name_of edit.update))
    (change_of edit.update.change) ++ removed_file edit.lock edit.effect

-- at or below one of these paths
abbrev pub IsInOneOf : List Path → Path → Type 0
IsInOneOf [] q = ⊥
IsInOneOf (path ∷ paths) q = IsAtOrBelow path q ⊎ IsInOneOf paths q

-- Each folder of the tree `before` is in T, but those at or below a path that is written, which were in the way of its file, and
-- those above a path that was removed: up to `logs`, or `refs` and one component more. The git folder, the common folder and those
-- above them stay.
abbrev pub FoldersStay : Dirs → (written deleted : List Path) → (before T : Tree) → Type 0
FoldersStay dirs written deleted before T =
    (q : Path) → before q ≡ Some Folder → (T q ≡ Some Folder)
    ⊎ ((IsIn q (roots_of dirs) → ⊥) × (IsInOneOf written q ⊎ IsAbove dirs deleted q))

module _ {F : Type 0} (honest : Type 0) (means : F → Meaning) (faults : F → FaultCounts) where
  -- what becomes of the logs of these edits as their commit begins
  abbrev pub outcomes_in : Store F → Option SignatureRef → List Edit → List LogOutcome
  outcomes_in start committer held = log_outcomes (line_rules start committer)
      (view_of (means (files_of start)).tree) (asked held)

  -- where a commit of these edits writes: `packed-refs`, where its lock is held, each loose file that is written, and each log
  -- whose line is due
  abbrev pub written_in : Store F → Option SignatureRef → Option Path → List Edit → List Path
  written_in start committer packed held = packed_places packed
      ++ (flat_map written_by held ++ flat_map lined_by (outcomes_in start committer held))

  -- and so for a commit of these edits, whose lock of `packed-refs` is empty, where it is held
  abbrev pub KeepsFolders : (start new : Store F) → Option SignatureRef → Option Path →
      List Edit → Type 0
  KeepsFolders start new committer packed held =
      honest → IsPackedEmpty honest means faults start packed →
      FoldersStay start.dirs (written_in start committer packed held)
      (flat_map (deleted_by (meaning_of start)) held)
      (means (files_of start)).tree (means (files_of new)).tree
