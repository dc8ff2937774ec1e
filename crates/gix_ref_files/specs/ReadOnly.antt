-- Runs of calls that only read.
use Rattle.gix_ref_files.specs.Calls.{Unchanged}
use Rattle.gix_ref_files.specs.DiskCalls.{Untouched}
use Rattle.gix_ref_files.specs.Files.{FaultCounts, NoFewer, Meaning, disk_of, Leaves, Passes}

-- A run that only reads: on honest files no stop in it leaves another tree, and none finds another disk; and no fault is forgotten.
pub record OnlyReads {F : Type 0} (honest : Type 0) (means : F → Meaning) (faults : F → FaultCounts)
    (before now : F) : Type 0 where
  pub leaves : honest → Leaves (means before) (means now) (Unchanged (means before).tree)
  pub passes : honest → Passes (means before) (means now) (Untouched (disk_of (means before)))
  pub no_fewer : NoFewer (faults before) (faults now)
