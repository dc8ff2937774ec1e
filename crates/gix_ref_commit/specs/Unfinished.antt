-- The run of a plan: that all of it was run, or where and why it ended early.
use Rattle.std.specs.Prelude.{◌≡◌, ◌≢◌, List, [], ◌∷◌, ◌++◌, get_or, Result, Ok, Err}
use Rattle.gix_ref_files.specs.Tree.{Tree}
use Rattle.gix_ref_files.specs.Files.{Meaning, disk_of, Leaves, Passes, FaultCounts, NoFewer, IsMet}
use Rattle.gix_ref_files.specs.Steps.{IsAfter, IsLeftBy, EndsBy}
use Rattle.gix_ref_files.specs.DiskSteps.{Synced, IsReachedBy, IsSyncedAfter}
use Rattle.gix_ref_files.specs.declared.files.FileError.TheVariants.{Memory as no_memory}
use Rattle.gix_ref_files.specs.declared.steps.Cause.{Cause}
use Rattle.gix_ref_files.specs.declared.steps.Cause.TheVariants.{File, Sync, Unexpected, Asked}
use Rattle.gix_ref_files.specs.declared.steps.Ended.{Ended}
use Rattle.gix_ref_files.specs.declared.steps.Planned.{Planned}
use Rattle.gix_ref_commit.specs.Entries.{Entry, bare, bare_steps, steps_in}
use Rattle.gix_ref_commit.specs.declared.plan.About.{About}
use Rattle.gix_ref_commit.specs.declared.run.Unfinished.{Unfinished}
use Rattle.gix_ref_commit.specs.declared.run.Unfinished.TheVariants.{Memory, Step}

-- A run of these entries ended at one of them: those before it are done, and it ended the run for this cause, which left the tree
-- T.
pub record EndsAtStep (honest : Type 0) (entries : List Entry) (start T : Tree) (about : About)
    (cause : Cause) : Type 0 where
  pub before : List Entry
  pub step : Synced
  pub rest : List Entry
  pub cut : entries ≡ before ++ (step, about) ∷ rest
  pub ended : honest → (mid : Tree) × IsAfter (bare_steps before) start mid
      × EndsBy (bare step) cause mid T

abbrev pub EndsIn : (honest : Type 0) → List Entry → (start T : Tree) → Unfinished → Type 0
EndsIn honest entries start T Memory = Unit {0}
EndsIn honest entries start T (Step about cause) = EndsAtStep honest entries start T about cause

-- this is the step of the plan at which a run ended
abbrev pub IsStepAt : List (Planned About) → Ended → Unfinished → Type 0
IsStepAt plan ended Memory = ⊥
IsStepAt plan ended (Step about cause) =
    ((d : Planned About) → (get_or plan ended.at d).about ≡ about) × (cause ≡ ended.cause)

-- a fault of files was counted, and is no want of memory
abbrev pub IsRaisedBy : (before now : FaultCounts) → Cause → Type 0
IsRaisedBy before now (File error) = IsMet error before now × (error ≢ no_memory)
IsRaisedBy before now (Sync error) = IsMet error before now × (error ≢ no_memory)
IsRaisedBy before now Unexpected = Unit {0}
IsRaisedBy before now Asked = Unit {0}

abbrev pub IsRaised : (before now : FaultCounts) → Unfinished → Type 0
IsRaised before now Memory = Unit {0}
IsRaised before now (Step about cause) = IsRaisedBy before now cause

-- All of these entries were run.
pub record RunsAll (honest : Type 0) (entries : List Entry) (old new : Meaning) : Type 0 where
  -- in their order, from the first to the last
  pub done : honest → IsAfter (bare_steps entries) old.tree new.tree
  -- each with its syncs
  pub synced : honest → IsSyncedAfter (steps_in entries) (disk_of old) (disk_of new)

module _ {F : Type 0} (honest : Type 0) (means : F → Meaning) (faults : F → FaultCounts) where
  -- Nothing but these entries was run, in their order, and perhaps not all.
  pub record RunsOnly (entries : List Entry) (old new : F) : Type 0 where
    -- every stop leaves the tree after some of them, with perhaps a beginning of the next
    pub leaves : honest → Leaves (means old) (means new)
        (IsLeftBy (bare_steps entries) (means old).tree)
    -- every disk that is found is one after some of them with their syncs, with perhaps a beginning of the next
    pub passes : honest → Passes (means old) (means new)
        (IsReachedBy (steps_in entries) (disk_of (means old)))
    -- no fault is forgotten
    pub no_fewer : NoFewer (faults old) (faults new)

  -- Where and why the run of these entries ended early.
  pub record StopsEarly (entries : List Entry) (old new : F)
      (unfinished : Unfinished) : Type 0 where
    -- for want of memory, and then nothing was done
    pub memory : unfinished ≡ Memory → new ≡ old
    -- or at a step, those before it being done
    pub ended : EndsIn honest entries (means old).tree (means new).tree unfinished
    -- a fault of files was counted
    pub counted : IsRaised (faults old) (faults new) unfinished

  -- how the run of these entries ended: all were run, or it ended early
  abbrev pub RunsTo : (entries : List Entry) → (old new : F) → Result (Unit {0}) Unfinished → Type 0
  RunsTo entries old new (Ok done) = RunsAll honest entries (means old) (means new)
  RunsTo entries old new (Err unfinished) = StopsEarly entries old new unfinished

-- the paths above which empty folders are tried: those of all that the plan removes, or none where no step was begun
abbrev pub tried_after : {A : Type 0} → Unfinished → List A → List A
tried_after Memory removed = []
tried_after (Step about cause) removed = removed
