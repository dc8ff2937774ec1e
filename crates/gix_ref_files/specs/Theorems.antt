-- What is proved of disks and losses of power.
use Rattle.std.specs.Prelude.{◌≡◌, ◌≢◌, ◌<◌, ◌≤◌, ◌++◌, ◌∷◌, [], ℕ, List, Bool, true, length, take, get_or}
use Rattle.gix_ref_files.specs.Tree.{Tree, Path, file_of, fronts, IsShaped, has_folders, with_folders}
use Rattle.gix_ref_files.specs.Disk.{Disk, Lost, with_folders_on}
use Rattle.gix_ref_files.specs.Lock.{lock_of}
use Rattle.gix_ref_files.specs.Losing.{lost_by, all_synced}
use Rattle.gix_ref_files.specs.Settled.{AllStay, IsAllSettled, AreIn, SettlesPath, Sync, synced, synced_by, climb}

-- A loss of power may leave all as it is: what a stop leaves, a loss may leave.
abbrev pub EveryStopIsALoss : Type 0
EveryStopIsALoss = (D : Disk) → IsShaped D.tree → Lost D D.tree

-- A loss leaves a well formed tree.
abbrev pub EveryLossIsShaped : Type 0
EveryLossIsShaped = (D : Disk) (T : Tree) → Lost D T → IsShaped T

-- On a settled disk a loss of power leaves the files that are there, except for locks.
abbrev pub SettledLosesNothing : Type 0
SettledLosesNothing = (D : Disk) (T : Tree) → IsAllSettled D → Lost D T → (q : Path) →
    ((p : Path) → q ≢ lock_of p) → file_of (T q) ≡ file_of (D.tree q)

-- Each choice of entries and of ends of files is a loss of power.
abbrev pub EveryChoiceIsALoss : Type 0
EveryChoiceIsALoss = (entries ends : Path → Bool) (D : Disk) → Lost D (lost_by entries ends D)

-- And what is left is settled: after a restart a transaction may begin.
abbrev pub WhatIsLeftIsSettled : Type 0
WhatIsLeftIsSettled = (T : Tree) → IsShaped T → IsAllSettled (all_synced T)

-- A sync makes no entry less sure, and changes nothing that is there.
abbrev pub SyncsLoseNothing : Type 0
SyncsLoseNothing =
    (sync : Sync) (D : Disk) → ((synced sync D).tree ≡ D.tree)
    × ((T : Tree) → Lost (synced sync D) T → Lost D T)

-- The folders on the way of a path stay, once they are synced up to one that stays.
abbrev pub ClimbsSettle : Type 0
ClimbsSettle =
    (D : Disk) (staying : List Path) (p : Path) (syncs : List Sync) → SettlesPath staying p syncs →
    AllStay D staying →
    has_folders D.tree p ≡ true → AllStay (synced_by syncs D) (fronts p)

-- And the climb of a path to a front of it that stays, with all folders above that, settles the path.
abbrev pub EveryClimbSettles : Type 0
EveryClimbSettles =
    (staying : List Path) (p : Path) (root : ℕ) → 1 ≤ root → root < length p →
    get_or p root 0 ≡ 47 →
    AreIn (fronts (take root p) ++ take root p ∷ []) staying → SettlesPath staying p (climb p root)

-- Making folders makes those of the tree.
abbrev pub FoldersAreThoseOfTheTree : Type 0
FoldersAreThoseOfTheTree = (D : Disk) (fs : List Path) →
    (with_folders_on D fs).tree ≡ with_folders D.tree fs
