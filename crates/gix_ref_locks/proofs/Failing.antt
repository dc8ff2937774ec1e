-- Why a search for locks failed, over more calls.
use Rattle.std.proofs.Common.{◌≡◌, ℕ, List, inr, subst, sym}
use Rattle.gix_ref_files.specs.Files.{FaultCounts, NoFewer}
use Rattle.gix_ref_files.proofs.Meeting.{no_fewer_starts, met_wider}
use Rattle.gix_ref_lookup.specs.declared.settings.Settings.{Settings}
use Rattle.gix_ref_listing.specs.LooseListings.{IsFront}
use Rattle.gix_ref_locks.specs.LockFiles.{IsLockFailure}
use Rattle.gix_ref_locks.specs.LockWalks.{FailsBelow}
use Rattle.gix_ref_locks.specs.declared.locks.Error.{Error}
use Rattle.gix_ref_locks.specs.declared.locks.Error.TheVariants.{Memory, Io}

-- a walk that began earlier
pub fails_from : (front : List ℕ) (a b d : FaultCounts) (error : Error) → NoFewer a b → FailsBelow front b d error → FailsBelow front a d error
fails_from front a b d Memory before fails = _
fails_from front a b d (Io path source) before (other, met, at) = (other, met_wider before (no_fewer_starts d) met, at)

-- and a search of the store
pub store_fails : (settings : Settings) (front other : List ℕ) (a b d : FaultCounts) (error : Error) → IsFront settings front → other ≡ front → NoFewer a b → FailsBelow other b d error → IsLockFailure settings a d error
store_fails settings front other a b d Memory of is before fails = _
store_fails settings front other a b d (Io path source) of is before (not_memory, met, at) =
    (not_memory, met_wider before (no_fewer_starts d) met, inr (other, at.0, subst (IsFront settings) (sym is) of, at.1))

pub fails_earlier : (settings : Settings) (a b d : FaultCounts) (error : Error) → NoFewer a b → IsLockFailure settings b d error → IsLockFailure settings a d error
fails_earlier settings a b d Memory before fails = _
fails_earlier settings a b d (Io path source) before (other, met, at) = (other, met_wider before (no_fewer_starts d) met, at)
