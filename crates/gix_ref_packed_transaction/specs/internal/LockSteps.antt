-- The steps of a commit of `packed-refs`, over the tree.
use Rattle.std.specs.Prelude.{◌≡◌, ◌≢◌, ◌⊎◌, false, true}
use Rattle.gix_ref_files.specs.Files.{FaultCounts, IsMet}
use Rattle.gix_ref_files.specs.Lock.{lock_of}
use Rattle.gix_ref_files.specs.Tree.{Tree, Path, is_file, is_folder}
use Rattle.gix_ref_files.specs.declared.files.FileError.TheVariants.{Memory as no_memory}
use Rattle.gix_ref_packed_transaction.specs.PackedTransactions.{OnlyLockChanges}
use Rattle.gix_ref_packed_transaction.specs.declared.error.Error.{Error}
use Rattle.gix_ref_packed_transaction.specs.declared.error.Error.TheVariants.{Commit, Iteration, Io, Memory}

-- the lock is gone, and nothing else has changed
abbrev pub IsUnlocked : (place : Path) → (before T : Tree) → Type 0
IsUnlocked place before T = OnlyLockChanges place before T × (is_file (T (lock_of place)) ≡ false)

-- why a rewrite was not put in place: its rename failed, or a folder is there; or another call of files failed
abbrev pub IsWhyNotPut : (honest : Type 0) → (place : Path) → (before now : FaultCounts) → Tree →
    Error → Type 0
IsWhyNotPut honest place before now T (Commit error) =
    (IsMet error before now ⊎ (honest → is_folder (T place) ≡ true)) × (error ≢ no_memory)
IsWhyNotPut honest place before now T (Io error) = IsMet error before now × (error ≢ no_memory)
IsWhyNotPut honest place before now T (Iteration line) = ⊥
IsWhyNotPut honest place before now T Memory = ⊥
