-- What stops and losses of power find in a call that is done in parts.
use Rattle.std.specs.Prelude.{Result, OnOk}
use Rattle.gix_ref_files.specs.Tree.{Tree}
use Rattle.gix_ref_files.specs.Disk.{Disk}
use Rattle.gix_ref_files.specs.Files.{Meaning, Leaves, Adds, Passes, AddsDisks}

-- a stop leaves a tree that has P, and in a call that was done it could have left each of them
pub record LeavesEach {T E : Type 0} (old new : Meaning) (P : Tree → Type 0)
    (result : Result T E) : Type 0 where
  pub leaves : Leaves old new P
  pub adds : OnOk result (Adds old new P)

-- the same of disks: a stop or a loss of power finds one that has P, and in a call that was done it could have found each
pub record PassesEach {T E : Type 0} (old new : Meaning) (P : Disk → Type 0)
    (result : Result T E) : Type 0 where
  pub passes : Passes old new P
  pub adds : OnOk result (AddsDisks old new P)
