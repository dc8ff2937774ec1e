-- What a run of steps with their syncs loses, from the clause `passes` of the run.
use Rattle.std.proofs.Common.{List}
use Rattle.gix_ref_files.specs.Tree.{Path}
use Rattle.gix_ref_files.specs.Disk.{Disk}
use Rattle.gix_ref_files.specs.Files.{Meaning, disk_of, Passes, Loses}
use Rattle.gix_ref_files.proofs.Moments.{losses}
use Rattle.gix_ref_theory.specs.OnDisks.{IsWithin, IsSpokenOf}
use Rattle.gix_ref_theory.specs.OnRealTrees.{view_of}
use Rattle.gix_ref_theory.specs.Views.{Write, IsLostBy}
use Rattle.gix_ref_theory.proofs.OnDisks as disks

-- Among these writes, as a caller carries it through calls of its own.
abbrev pub PassesWithin : (locked : List Path) (writes : List Write) → Disk → Meaning → Meaning → Type 0
PassesWithin locked writes first old new = Passes old new (IsWithin (IsSpokenOf locked first) writes (view_of first.tree))

-- and what all of it loses
pub within_loses : (locked : List Path) (writes : List Write) (old new : Meaning) → PassesWithin locked writes (disk_of old) old new → Loses old new (λ T. IsLostBy (IsSpokenOf locked (disk_of old)) writes (view_of old.tree) (view_of T))
within_loses locked writes old new run =
    losses (λ T. IsLostBy (IsSpokenOf locked (disk_of old)) writes (view_of old.tree) (view_of T))
    (λ D inside T lost. disks.losses locked writes (disk_of old) D T inside lost) run
