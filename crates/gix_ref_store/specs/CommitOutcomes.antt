-- How a commit ended, from a store with the edits of a `prepare` whose locks it holds: what is so where it succeeded, where it
-- failed, and in every case.
use Rattle.std.specs.Prelude.{◌≡◌, List, Option, length}
use Rattle.gix_ref_edits.specs.declared.transaction.RefEdit.{RefEdit}
use Rattle.gix_ref_files.specs.Files.{Meaning, HasRisenBy, FaultCounts}
use Rattle.gix_ref_files.specs.Tree.{Path}
use Rattle.gix_ref_object.specs.declared.object.Find.{Ghosts}
use Rattle.gix_ref_transaction.specs.PrepareSteps.{updates}
use Rattle.gix_ref_transaction.specs.declared.edit.Edit.{Edit}
use Rattle.gix_ref_log.specs.declared.actor.SignatureRef.{SignatureRef}
use Rattle.gix_ref_commit.specs.declared.error.Error.{Error}
use Rattle.gix_ref_store.specs.CommitLines.{LinesPass}
use Rattle.gix_ref_store.specs.CommitResult.{CommitsFrom, EveryLossFrom, EveryStopFrom, FailsFor, NoBadLineFrom, ReadsPacked, SettlesFrom, StaysGoodFrom}
use Rattle.gix_ref_store.specs.CommittedFolders.{KeepsFolders}
use Rattle.gix_ref_store.specs.PreparedFields.{held_edits, held_packed}
use Rattle.gix_ref_store.specs.Store.{files_of}
use Rattle.gix_ref_store.specs.declared.file.store.Store.{Store}
use Rattle.gix_ref_store.specs.declared.file.transaction.Plan.{Plan}

module _ {F : Type 0} (honest : Type 0) (means : F → Meaning) (faults : F → FaultCounts) where
  -- A commit that succeeded: it hands back these edits, and names these locks.
  pub record HasSucceeded (start new : Store F) (committer : Option SignatureRef)
      (packed : Option Path) (held : List Edit) (returned : List RefEdit)
      (left : List Path) : Type 0 where
    -- the edits are those that were prepared
    pub edits : returned ≡ updates held
    -- they are committed
    pub commits : CommitsFrom honest means faults start new committer packed held left
    -- each line that was due could be made and added
    pub passed : LinesPass honest means start committer held
    -- where a record was to be removed, no line of `packed-refs` was passed over
    pub read : ReadsPacked honest means faults start packed held
    -- where `packed-refs` was well formed or missing, it is so again
    pub good : StaysGoodFrom honest means faults start new packed held
    -- where all was at rest, all is: a later loss of power leaves what was committed
    pub settled : SettlesFrom honest means faults start new packed held

  -- The plan of a prepared transaction is committed so.
  abbrev pub PlanSucceeds : {T : Type 0} → {G : Ghosts T} → (start new : Store F) →
      (committer : Option SignatureRef) → Plan T G → (returned : List RefEdit) →
      (left : List Path) → Type 0
  PlanSucceeds start new committer plan returned left = HasSucceeded start new committer
      (held_packed plan) (held_edits plan) returned left

  -- A commit that failed with this error.
  pub record HasEndedEarly (start new : Store F) (committer : Option SignatureRef)
      (packed : Option Path) (held : List Edit) (error : Error) : Type 0 where
    -- the cause, and the step at which it ended
    pub cause : FailsFor honest means faults start new committer packed held error
    -- which is no line of a well-formed `packed-refs`
    pub sound : NoBadLineFrom honest means faults start packed held error

  -- At each moment of a commit, where `packed-refs` was well formed, each reference reads as before or as edited; and of the locks
  -- only these stay, which it names.
  pub record EveryMomentIsSafe (start new : Store F) (committer : Option SignatureRef)
      (packed : Option Path) (held : List Edit) (left : List Path) : Type 0 where
    -- at every stop, and at its end
    pub stops : EveryStopFrom honest means faults start new committer packed held left
    -- after every loss of power
    pub losses : EveryLossFrom honest means faults start new committer packed held

  -- What else holds of every commit. It names these locks.
  pub record KeepsTheRest (start new : Store F) (committer : Option SignatureRef)
      (packed : Option Path) (held : List Edit) (left : List Path) : Type 0 where
    -- no folder goes but those at or below a path that is written, and those above one that is removed
    pub folders : KeepsFolders honest means faults start new committer packed held
    -- for each lock that is named a fault was counted
    pub named : HasRisenBy (length left) (faults (files_of start)) (faults (files_of new))
