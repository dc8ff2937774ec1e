-- What the end of a transaction leaves: its edits, and the locks that could not be removed.
use Rattle.std.specs.Prelude.{◌≡◌, ◌≤◌, ◌<◌, ◌+◌, ◌⊎◌, ℕ, List, [], ◌∷◌, ◌++◌, Bool, true, false, Vec, vec_len, if◌then◌else◌}
use Rattle.std.specs.Vec.{vec_capacity}
use Rattle.std.specs.declared.alloc.Global.{Global}
use Rattle.gix_ref_files.specs.Files.{Meaning, Leaves, HasRisenBy, FaultCounts, NoFewer}
use Rattle.gix_ref_files.specs.Lock.{lock_of}
use Rattle.gix_ref_files.specs.Tree.{Path, Tree, is_file}
use Rattle.gix_ref_transaction.specs.OwnLocks.{paths_of, is_in, times, OnlyRemoves, RemovesLocks}
use Rattle.gix_ref_transaction.specs.CommitRenames.{lock_at, log_at, path_in, place_at, stays_at}
use Rattle.gix_ref_transaction.specs.PrepareSteps.{updates}
use Rattle.gix_ref_transaction.specs.declared.edit.Edit.{Edit}
use Rattle.gix_ref_transaction.specs.declared.release.Remains.{Remains}

-- There is room for what remains of these edits and of the lock of `packed-refs`, and nothing is in it yet.
pub record HasRoom (held : Vec Edit Global) (remains : Remains) : Type 0 where
  pub locks : vec_len held + vec_len remains.left < vec_capacity remains.left
  pub edits : vec_len held ≤ vec_capacity remains.edits
  pub no_edits : remains.edits.items ≡ []
  pub no_locks : remains.left.items ≡ []

-- There is room for what remains of these edits, and none of them is in it yet; locks may be.
pub record HasRoomForEdits (held : Vec Edit Global) (remains : Remains) : Type 0 where
  pub locks : vec_len held + vec_len remains.left ≤ vec_capacity remains.left
  pub edits : vec_len held ≤ vec_capacity remains.edits
  pub no_edits : remains.edits.items ≡ []

-- A run that removes some of these locks, and does nothing else: on honest files no stop in it leaves another tree, and none finds another
-- disk; and no fault is forgotten.
pub record OnlyReleases {F : Type 0} (honest : Type 0) (means : F → Meaning)
    (faults : F → FaultCounts) (locks : List Path) (before now : F) : Type 0 where
  pub leaves : honest → Leaves (means before) (means now) (RemovesLocks locks (means before).tree)
  pub passes : honest → OnlyRemoves locks (means before) (means now)
  pub no_fewer : NoFewer (faults before) (faults now)

-- The locks that are left are among these, each is named no more often than it is among them, and the count of faults rose by one for each.
pub record AreNamedOnce (locks : List Path) (left : Vec (Vec ℕ Global) Global)
    (before now : FaultCounts) : Type 0 where
  pub ours : (q : Path) → is_in (paths_of left.items) q ≡ true → is_in locks q ≡ true
  pub once : (q : Path) → times q (paths_of left.items) ≤ times q locks
  pub named : HasRisenBy (vec_len left) before now

-- Some of these locks, so many at the most, are named after those that were left already, without more memory; and the count of faults rose
-- by one for each that is left, if it had for those that were left already.
pub record NamesMore (locks : List Path) (most : ℕ) (old new : Vec (Vec ℕ Global) Global)
    (before now : FaultCounts) : Type 0 where
  pub ours : (q : Path) → is_in (paths_of new.items) q ≡ true →
      (is_in (paths_of old.items) q ≡ true) ⊎ (is_in locks q ≡ true)
  pub kept : (q : Path) → is_in (paths_of old.items) q ≡ true → is_in (paths_of new.items) q ≡ true
  pub once : (q : Path) → times q (paths_of new.items)
      ≤ times q (paths_of old.items) + times q locks
  pub len : vec_len new ≤ vec_len old + most
  pub room : vec_capacity new ≡ vec_capacity old
  pub counted : (base : FaultCounts) → HasRisenBy (vec_len old) base before →
      HasRisenBy (vec_len new) base now

-- The edits are handed back, in their order, with the place and the log of the one at which a commit ended.
pub record HandsBack (given : Vec Edit Global) (done : ℕ) (remains : Remains) : Type 0 where
  pub edits : remains.edits.items ≡ updates given.items
  pub place : done < vec_len given → remains.place.items ≡ place_at given.items done
  pub log : done < vec_len given → remains.log.items ≡ path_in (log_at given.items done)

-- One edit more is kept, and after the others its lock, where that could not be removed; neither takes more memory.
pub record AddsEdit (edit : Edit) (removed : Bool) (old new : Remains) : Type 0 where
  pub edits : new.edits.items ≡ old.edits.items ++ edit.update ∷ []
  pub left : paths_of new.left.items
      ≡ paths_of old.left.items ++ (if removed then [] else lock_of edit.lock ∷ [])
  pub same : removed ≡ true → new.left.items ≡ old.left.items
  pub room : vec_capacity new.left ≡ vec_capacity old.left
  pub room_for_edits : vec_capacity new.edits ≡ vec_capacity old.edits
  pub len : vec_len new.left ≤ vec_len old.left + 1
  pub len_of_edits : vec_len new.edits ≡ vec_len old.edits + 1

-- The locks of these edits that were not renamed are gone, except for those that are named, where the edits before `done` are done.
abbrev pub OthersAreGone : Vec Edit Global → (done : ℕ) → (left : Vec (Vec ℕ Global) Global) →
    Tree → Type 0
OthersAreGone edits done left T = (k : ℕ) → k < vec_len edits → stays_at edits.items done k ≡ true →
    is_in (paths_of left.items) (lock_at edits.items k) ≡ false →
    is_file (T (lock_at edits.items k)) ≡ false
