-- A transaction of `packed-refs` alone: what it keeps, and what its commit leaves.
use Rattle.std.specs.Prelude.{◌≡◌, ◌≢◌, ◌⊎◌, ℕ, List, Option, Some, None, Vec, MatchOption, true, false, []}
use Rattle.std.specs.declared.alloc.Global.{Global}
use Rattle.gix_ref_hash.specs.declared.hash.Kind.{Kind}
use Rattle.gix_ref_target.specs.PackedRecords.{Record}
use Rattle.gix_ref_files.specs.Files.{FaultCounts, HasRisen, IsMet}
use Rattle.gix_ref_files.specs.Lock.{lock_of}
use Rattle.gix_ref_files.specs.Tree.{Tree, Path, Content, is_file, is_folder}
use Rattle.gix_ref_files.specs.Tree.Content.{File}
use Rattle.gix_ref_files.specs.declared.files.FileError.TheVariants.{Memory as no_memory}
use Rattle.gix_ref_packed.specs.Buffers.{buffer_text, buffer_line, HoldsRecords}
use Rattle.gix_ref_packed.specs.declared.packed.buffer.Buffer.{Buffer}
use Rattle.gix_ref_packed_text.specs.declared.outcome.Rewrite.{Rewrite}
use Rattle.gix_ref_packed_text.specs.declared.outcome.Rewrite.TheVariants.{Unchanged, Removed, Text}
use Rattle.gix_ref_packed_transaction.specs.Changes.{AreDistinct, ChangeValue, IsChanged, change_values}
use Rattle.gix_ref_packed_transaction.specs.Refusals.{IsReadText, IsStuckIn}
use Rattle.gix_ref_packed_transaction.specs.declared.error.Error.{Error}
use Rattle.gix_ref_packed_transaction.specs.declared.error.Error.TheVariants.{Commit, Iteration, Io, Memory}
use Rattle.gix_ref_packed_transaction.specs.declared.transaction.Transaction.{Transaction}

-- the records that it was made with, as they are in the file; none where there was no file
abbrev pub records_of : Transaction → Option Buffer
records_of t = t.buffer

-- the path of `packed-refs`, whose lock it holds
abbrev pub transaction_place : Transaction → Path
transaction_place t = t.lock

abbrev pub transaction_kind : Transaction → Kind
transaction_kind t = t.kind

-- the changes of records that it makes
abbrev pub changes_of : Transaction → List ChangeValue
changes_of t = change_values t.changes.items

-- it has the same records, lock and kind of ids as before
pub record IsForSameFile (before now : Transaction) : Type 0 where
  pub records : records_of now ≡ records_of before
  pub place : transaction_place now ≡ transaction_place before
  pub kind : transaction_kind now ≡ transaction_kind before

-- what becomes of the file by the changes: of no records, where there is none; else of these, where it holds them in the order of
-- their names
abbrev pub IsMadeOf : Kind → Option Buffer → List ChangeValue → Rewrite → Type 0
IsMadeOf kind None changes rewrite = AreDistinct changes → IsChanged kind changes [] rewrite
IsMadeOf kind (Some buffer) changes rewrite =
    (rs : List Record) → HoldsRecords kind rs (buffer_text buffer) → AreDistinct changes →
    IsChanged kind changes rs rewrite

-- what the file is then
abbrev pub HoldsRewrite : Rewrite → (before now : Option Content) → Type 0
HoldsRewrite Unchanged before now = now ≡ before
HoldsRewrite Removed before now = is_file now ≡ false
HoldsRewrite (Text text) before now = now ≡ Some (File text.items)

-- nothing but `packed-refs` and its lock has changed
abbrev pub OnlyAt : (place : Path) → (before T : Tree) → Type 0
OnlyAt place before T = (q : Path) → q ≢ place → q ≢ lock_of place → T q ≡ before q

-- nothing but the lock of the place has changed
abbrev pub OnlyLockChanges : (place : Path) → (before T : Tree) → Type 0
OnlyLockChanges place before T = (q : Path) → q ≢ lock_of place → T q ≡ before q

-- nothing has changed but that the lock may be gone
abbrev pub OnlyLockGoes : (place : Path) → (before T : Tree) → Type 0
OnlyLockGoes place before T = OnlyLockChanges place before T
    × ((T (lock_of place) ≡ before (lock_of place)) ⊎ (T (lock_of place) ≡ None))

-- the lock is there and empty, as it was taken
abbrev pub IsLockEmpty : (place : Path) → Tree → Type 0
IsLockEmpty place T = T (lock_of place) ≡ Some (File [])

-- `packed-refs` is as before, or what the rewrite makes of it
abbrev pub IsOldOrRewritten : Rewrite → (place : Path) → (before T : Tree) → Type 0
IsOldOrRewritten rewrite place before T =
    OnlyAt place before T × ((T place ≡ before place)
    ⊎ HoldsRewrite rewrite (before place) (T place))

-- A commit that succeeds: `packed-refs` is rewritten, its lock is gone, and nothing else has changed.
pub record IsRewritten (rewrite : Rewrite) (place : Path) (before T : Tree) : Type 0 where
  pub is : HoldsRewrite rewrite (before place) (T place)
  pub unlocked : is_file (T (lock_of place)) ≡ false
  pub only : OnlyAt place before T

module _ (kind : Kind) (records : Option Buffer) (changes : List ChangeValue) (place : Path) where
  abbrev pub CommitsRewrite : (before T : Tree) → Type 0
  CommitsRewrite before T = (rewrite : Rewrite) × IsMadeOf kind records changes rewrite
      × IsRewritten rewrite place before T

  -- a stop in it, or a failure, leaves `packed-refs` as before or as it is then, and nothing else has changed but its lock
  abbrev pub IsBeforeOrRewritten : (before T : Tree) → Type 0
  IsBeforeOrRewritten before T =
      OnlyAt place before T
      × ((T place ≡ before place) ⊎ ((rewrite : Rewrite) × IsMadeOf kind records changes rewrite
      × HoldsRewrite rewrite (before place) (T place)))

-- a commit of the transaction that succeeds
abbrev pub CommitsBy : Transaction → (before T : Tree) → Type 0
CommitsBy t = CommitsRewrite (transaction_kind t) (records_of t) (changes_of t)
    (transaction_place t)

-- and what a stop in it leaves
abbrev pub IsBeforeOrCommitted : Transaction → (before T : Tree) → Type 0
IsBeforeOrCommitted t = IsBeforeOrRewritten (transaction_kind t) (records_of t) (changes_of t)
    (transaction_place t)

-- the lock of the transaction is gone; or its path is returned, and a fault of files was counted
abbrev pub LockIsGoneOrNamed : (honest : Type 0) → Transaction →
    (left : Option (Vec ℕ Global)) → (before now : FaultCounts) → Tree → Type 0
LockIsGoneOrNamed honest t left before now T = MatchOption left
    (honest → is_file (T (lock_of (transaction_place t))) ≡ false)
    (λ path. (path.items ≡ lock_of (transaction_place t)) × HasRisen before now)

-- each line of the records is one
abbrev pub IsReadBuffer : Kind → Option Buffer → Type 0
IsReadBuffer kind None = Unit {0}
IsReadBuffer kind (Some buffer) = IsReadText kind (buffer_text buffer)

-- why the records cannot be rewritten: a line is no record, or there was no memory
abbrev pub IsStuckBuffer : Kind → Option Buffer → Error → Type 0
IsStuckBuffer kind None error = error ≡ Memory
IsStuckBuffer kind (Some buffer) error = IsStuckIn kind (buffer_line buffer)
    (buffer_text buffer) error

-- the failure came before the first write: a line of the records is no record, or there was no memory
abbrev pub IsUnbegun : Error → Type 0
IsUnbegun (Iteration line) = Unit {0}
IsUnbegun Memory = Unit {0}
IsUnbegun (Commit error) = ⊥
IsUnbegun (Io error) = ⊥

-- Why a commit failed: the rename failed, or a folder is at the place; another call of files failed; a line of the records is no
-- record; or there was no memory.
abbrev pub SaysWhyPacked : (honest : Type 0) → Kind → Option Buffer → (place : Path) →
    (before now : FaultCounts) → Tree → Error → Type 0
SaysWhyPacked honest kind records place before now T (Commit error) =
    (IsMet error before now ⊎ (honest → is_folder (T place) ≡ true)) × (error ≢ no_memory)
SaysWhyPacked honest kind records place before now T (Io error) = IsMet error before now
    × (error ≢ no_memory)
SaysWhyPacked honest kind records place before now T (Iteration line) =
    IsStuckBuffer kind records (Iteration line)
SaysWhyPacked honest kind records place before now T Memory = Unit {0}
