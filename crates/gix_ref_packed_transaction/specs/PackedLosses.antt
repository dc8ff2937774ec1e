-- What a loss of power may leave of a commit of `packed-refs`, and what is settled after it.
use Rattle.std.specs.Prelude.{◌≡◌, ◌≢◌, ◌⊎◌, ℕ, List, Option, Some, None, [], ◌∷◌}
use Rattle.gix_ref_hash.specs.declared.hash.Kind.{Kind}
use Rattle.gix_ref_files.specs.Disk.{Disk, folder_of}
use Rattle.gix_ref_files.specs.Lock.{lock_of}
use Rattle.gix_ref_files.specs.Settled.{AllStay, IsSettledAt, IsWholeAt}
use Rattle.gix_ref_files.specs.Tree.{Tree, Path, file_of, fronts}
use Rattle.gix_ref_packed.specs.declared.packed.buffer.Buffer.{Buffer}
use Rattle.gix_ref_packed_transaction.specs.Changes.{ChangeValue}
use Rattle.gix_ref_packed_text.specs.declared.outcome.Rewrite.{Rewrite}
use Rattle.gix_ref_packed_text.specs.declared.outcome.Rewrite.TheVariants.{Unchanged, Removed, Text}
use Rattle.gix_ref_packed_transaction.specs.PackedTransactions.{IsMadeOf, changes_of, records_of, transaction_kind, transaction_place}
use Rattle.gix_ref_packed_transaction.specs.declared.transaction.Transaction.{Transaction}

-- the file as the rewrite makes it: its bytes, or none
abbrev pub BecomesFile : Rewrite → (before now : Option (List ℕ)) → Type 0
BecomesFile Unchanged before now = now ≡ before
BecomesFile Removed before now = now ≡ None
BecomesFile (Text text) before now = now ≡ Some text.items

-- the folder of the place, and those that lead to it
abbrev pub folders_at : Path → List Path
folders_at place = folder_of place ∷ fronts place

-- Before a commit: the lock is there and empty, as it was taken; and a loss of power leaves `packed-refs` and its folders as they
-- are.
pub record IsReadyOn (place : Path) (D : Disk) : Type 0 where
  pub lock : IsWholeAt D (lock_of place) []
  pub file : IsSettledAt D (file_of (D.tree place)) place
  pub folders : AllStay D (folders_at place)

-- the other files that were settled are as before
abbrev pub OthersStay : (place : Path) → Disk → Tree → Type 0
OthersStay place D T = (q : Path) → q ≢ place → q ≢ lock_of place →
    IsSettledAt D (file_of (D.tree q)) q → file_of (T q) ≡ file_of (D.tree q)

-- they are settled still
abbrev pub OthersSettled : (place : Path) → (D E : Disk) → Type 0
OthersSettled place D E = (q : Path) → q ≢ place → q ≢ lock_of place →
    IsSettledAt D (file_of (D.tree q)) q → IsSettledAt E (file_of (D.tree q)) q

-- A loss of power in a commit, which begins with the disk D: `packed-refs` is as before or as the rewrite makes it, and the others
-- are as before.
abbrev pub IsLostOf :
    Kind → Option Buffer → List ChangeValue → (place : Path) → Disk → Tree → Type 0
IsLostOf kind records changes place D T =
    OthersStay place D T
    × ((file_of (T place) ≡ file_of (D.tree place))
    ⊎ ((rewrite : Rewrite) × IsMadeOf kind records changes rewrite
    × BecomesFile rewrite (file_of (D.tree place)) (file_of (T place))))

-- and so of a commit of the transaction
abbrev pub IsLostBy : Transaction → Disk → Tree → Type 0
IsLostBy t = IsLostOf (transaction_kind t) (records_of t) (changes_of t) (transaction_place t)

-- A commit that succeeds settles `packed-refs`: each later loss of power leaves it as it is then, and the others too.
abbrev pub SettlesPackedRefs : (place : Path) → (D E : Disk) → Type 0
SettlesPackedRefs place D E = OthersSettled place D E × IsSettledAt E (file_of (E.tree place)) place

-- A loss of power in a rollback: each file that was settled is as before, except for the lock.
abbrev pub OnlyLockIsLost : (place : Path) → Disk → Tree → Type 0
OnlyLockIsLost place D T = (q : Path) → q ≢ lock_of place → IsSettledAt D (file_of (D.tree q)) q →
    file_of (T q) ≡ file_of (D.tree q)
