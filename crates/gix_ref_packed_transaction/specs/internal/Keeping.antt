-- The disks of a commit of `packed-refs`, from the disk with which it begins.
use Rattle.std.specs.Prelude.{◌≡◌, ◌⊎◌}
use Rattle.gix_ref_files.specs.Calls.{IsMovable}
use Rattle.gix_ref_files.specs.Disk.{Disk, moved_on}
use Rattle.gix_ref_files.specs.Lock.{lock_of}
use Rattle.gix_ref_files.specs.Settled.{AllStay, MayHold}
use Rattle.gix_ref_files.specs.Tree.{Path, file_of}
use Rattle.gix_ref_packed_text.specs.declared.outcome.Rewrite.{Rewrite}
use Rattle.gix_ref_packed_transaction.specs.PackedLosses.{BecomesFile, OthersSettled, folders_at}

-- `packed-refs` may hold what it held, or what the rewrite makes of it; its folders stay, and so do all other files
pub record KeepsSettled (rewrite : Rewrite) (place : Path) (D E : Disk) : Type 0 where
  pub file : MayHold E (file_of (D.tree place))
      (λ f. (f ≡ file_of (D.tree place)) ⊎ BecomesFile rewrite (file_of (D.tree place)) f) place
  pub others : OthersSettled place D E
  pub folders : AllStay E (folders_at place)

-- the lock is renamed to the place
abbrev pub IsMoved : (place : Path) → (D E : Disk) → Type 0
IsMoved place D E = IsMovable D.tree (lock_of place) place × (E ≡ moved_on D (lock_of place) place)
