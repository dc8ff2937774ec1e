-- What files mean: a disk, a clock, and the disks that were found on the way; and so what a stop and what a loss of power could
-- have left.
use Rattle.std.specs.Prelude.{◌≡◌, ◌⊎◌, ℕ, ◌+◌, ◌-◌, ◌<◌, ◌≤◌, ◌^◌, Result, Ok, Err, nat_lt, ◌==◌, if◌then◌else◌, IsErrOf}
use Rattle.gix_ref_files.specs.Kinds.{number_of_kind}
use Rattle.gix_ref_files.specs.Tree.{Tree}
use Rattle.gix_ref_files.specs.Disk.{Disk, Unsynced, Lost}
use Rattle.gix_ref_files.specs.declared.files.FileError.{FileError}
use Rattle.gix_ref_files.specs.declared.files.FileError.TheVariants.{Device, NotUtf8, Memory}

-- one more, up to the greatest count, which stays
abbrev pub one_more : ℕ → ℕ
one_more n = if nat_lt n (2 ^ 64 - 1) then n + 1 else n

-- the number of a fault: that of its kind where the device failed, then that of a path that is not UTF-8
abbrev pub number_of : FileError → ℕ
number_of (Device kind) = number_of_kind kind
number_of NotUtf8 = 42
number_of Memory = 43

-- Counts of faults: how many in all, and how many of each kind.
pub record FaultCounts : Type 0 where
  pub total : ℕ
  pub each : FileError → ℕ

-- no fault
abbrev pub no_faults : FaultCounts
no_faults = record { total = 0; each = λ fault. 0 }

-- and this one more
abbrev pub counted : FileError → FaultCounts → FaultCounts
counted error n = record {
  total = one_more n.total;
  each = λ fault. if number_of fault == number_of error then one_more (n.each fault)
      else n.each fault;
}

-- the counts after this fault: one of the device or of a path that is not UTF-8 is counted
abbrev pub count_with : FileError → FaultCounts → FaultCounts
count_with (Device kind) n = counted (Device kind) n
count_with NotUtf8 n = counted NotUtf8 n
count_with Memory n = n

-- the counts after a call
abbrev pub count_after : {T : Type 0} → Result T FileError → FaultCounts → FaultCounts
count_after (Ok value) n = n
count_after (Err error) n = count_with error n

-- the counts before and after a call whose fault is no lack of memory
abbrev pub CountsCall : {T : Type 0} → Result T FileError → FaultCounts → FaultCounts → Type 0
CountsCall result before now = (now ≡ count_after result before) × (IsErrOf result Memory → ⊥)

-- one number has risen to another; the greatest one counts as risen
abbrev pub IsRise : ℕ → ℕ → Type 0
IsRise before now = (before < now) ⊎ (2 ^ 64 - 1 ≤ now)

-- some fault was counted
abbrev pub HasRisen : FaultCounts → FaultCounts → Type 0
HasRisen before now = IsRise before.total now.total

-- this fault was counted
abbrev pub IsMet : FileError → FaultCounts → FaultCounts → Type 0
IsMet error before now = IsRise (before.each error) (now.each error)

-- so many faults at least were counted; the greatest count counts as so many
abbrev pub HasRisenBy : (n : ℕ) (before now : FaultCounts) → Type 0
HasRisenBy n before now = (before.total + n ≤ now.total) ⊎ (2 ^ 64 - 1 ≤ now.total)

-- no fault is forgotten
pub record NoFewer (before now : FaultCounts) : Type 0 where
  pub total : before.total ≤ now.total
  pub each : (fault : FileError) → before.each fault ≤ now.each fault

-- What files mean at one moment.
pub record Meaning : Type 1 where
  -- what is at each path
  pub tree : Tree
  -- what of it is not synced
  pub unsynced : Unsynced
  -- the clock, which never goes back
  pub moment : ℕ
  -- the disks that a stop or a loss of power at that moment, or at one since, could have found
  pub found_since : ℕ → Disk → Type 0

-- the disk: the tree, and what of it is not synced
abbrev pub disk_of : Meaning → Disk
disk_of m = record { tree = m.tree; unsynced = m.unsynced }

-- A stop at that moment, or at one since, could have left this tree: that of a disk that it could have found.
unfoldable pub left_since : Meaning → ℕ → Tree → Type 0
left_since m t T = (D : Disk) × m.found_since t D × (D.tree ≡ T)

-- A loss of power at that moment, or at one since, could have left this tree: one that it may make of a disk that it could
-- have found.
unfoldable pub lost_since : Meaning → ℕ → Tree → Type 0
lost_since m t T = (D : Disk) × m.found_since t D × Lost D T

-- From old to new: the tree of new has P, and so has each tree that a stop could have left since the first change. Of the
-- tree of old, which a stop before that change leaves, it says nothing: where that matters, P of it is a fact beside this one.
pub record Leaves (old new : Meaning) (P : Tree → Type 0) : Type 0 where
  pub tree : P new.tree
  pub later : old.moment ≤ new.moment
  -- for each moment that had come: no other tree is added to those that a stop since then could have left
  pub since : (t : ℕ) (T : Tree) → t ≤ old.moment → left_since new t T → left_since old t T ⊎ P T
  -- and none is taken away
  pub keeps : (t : ℕ) (T : Tree) → t ≤ old.moment → left_since old t T → left_since new t T

-- The same of disks: the disk of new has P, and so has each one that a stop or a loss of power could have found since the
-- first change. Of the disk of old it says nothing.
pub record Passes (old new : Meaning) (P : Disk → Type 0) : Type 0 where
  pub disk : P (disk_of new)
  pub later : old.moment ≤ new.moment
  -- for each moment that had come: no other disk is added to those that could have been found since then
  pub since : (t : ℕ) (D : Disk) → t ≤ old.moment → new.found_since t D → old.found_since t D ⊎ P D
  -- and none is taken away
  pub keeps : (t : ℕ) (D : Disk) → t ≤ old.moment → old.found_since t D → new.found_since t D

-- The same of losses of power: one now leaves a tree that has P, and so does one at any moment since the first change.
pub record Loses (old new : Meaning) (P : Tree → Type 0) : Type 0 where
  pub now : (T : Tree) → Lost (disk_of new) T → P T
  pub later : old.moment ≤ new.moment
  -- for each moment that had come: no other tree is added to those that a loss since then could have left
  pub since : (t : ℕ) (T : Tree) → t ≤ old.moment → lost_since new t T → lost_since old t T ⊎ P T
  -- and none is taken away
  pub keeps : (t : ℕ) (T : Tree) → t ≤ old.moment → lost_since old t T → lost_since new t T

module _ {F : Type 0} (means : F → Meaning) where
  -- The tree of the files new is related in this way to that of old, and so is each tree that a stop could have left since the
  -- first change.
  abbrev pub AtEveryStop : (old new : F) → (Tree → Tree → Type 0) → Type 0
  AtEveryStop old new P = Leaves (means old) (means new) (P (means old).tree)

  -- the same of their disks, and of each disk that a stop or a loss of power could have found
  abbrev pub OnEveryDisk : (old new : F) → (Disk → Disk → Type 0) → Type 0
  OnEveryDisk old new P = Passes (means old) (means new) (P (disk_of (means old)))

  -- the disk of the files new is made of that of old in this way
  abbrev pub DiskBecomes : (old new : F) → (Disk → Disk) → Type 0
  DiskBecomes old new made = disk_of (means new) ≡ made (disk_of (means old))

-- Each tree that has P is among those that a stop since any moment up to old could have left.
abbrev pub Adds : Meaning → Meaning → (Tree → Type 0) → Type 0
Adds old new P = (t : ℕ) (T : Tree) → t ≤ old.moment → P T → left_since new t T

-- Each disk that has P is among those that a stop or a loss of power since any moment up to old could have found.
abbrev pub AddsDisks : Meaning → Meaning → (Disk → Type 0) → Type 0
AddsDisks old new P = (t : ℕ) (D : Disk) → t ≤ old.moment → P D → new.found_since t D

-- a stop at any moment since old could have left only trees that have P
abbrev pub StopsLeave : Meaning → Meaning → (Tree → Type 0) → Type 0
StopsLeave old new P = (T : Tree) → left_since new old.moment T → P T

-- a loss of power at any moment since old could have left only trees that have P
abbrev pub LossesLeave : Meaning → Meaning → (Tree → Type 0) → Type 0
LossesLeave old new P = (T : Tree) → lost_since new old.moment T → P T
