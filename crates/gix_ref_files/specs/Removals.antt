-- A group of removals of files, which are synced together: one sync for each folder, after the last removal in it. A loss of power
-- inside the group leaves each file there or not, in no order; after it all of them are gone.
use Rattle.std.specs.Prelude.{◌≡◌, ◌⊎◌, ℕ, List, [], ◌∷◌, Option, None}
use Rattle.gix_ref_files.specs.Tree.{Path}
use Rattle.gix_ref_files.specs.Disk.{Disk, folder_of}
use Rattle.gix_ref_files.specs.Settled.{Sync, synced_by, MayHold, IsSettledAt, IsIn}
use Rattle.gix_ref_files.specs.Settled.Sync.{OfFolder}
use Rattle.gix_ref_files.specs.Steps.Step.{RemoveFile}
use Rattle.gix_ref_files.specs.DiskSteps.{DoesOn, BeginsOn, IsSomeSynced}

-- the folder is among those that are synced
abbrev pub IsSyncedBy : Path → List Sync → Type 0
IsSyncedBy f [] = ⊥
IsSyncedBy f (s ∷ syncs) = (s ≡ OfFolder f) ⊎ IsSyncedBy f syncs

-- the own folder of each of these paths is among them
abbrev pub SettlesAll : List Path → List Sync → Type 0
SettlesAll [] syncs = Unit {0}
SettlesAll (p ∷ paths) syncs = IsSyncedBy (folder_of p) syncs × SettlesAll paths syncs

-- the files of these paths are removed, one after the other
abbrev pub RemovesAll : List Path → Disk → Disk → Type 0
RemovesAll [] D E = E ≡ D
RemovesAll (p ∷ paths) D E = (mid : Disk) × DoesOn (RemoveFile p) D mid × RemovesAll paths mid E

-- some of them are removed, and the next removal is perhaps begun
abbrev pub BeginsAll : List Path → Disk → Disk → Type 0
BeginsAll [] D E = E ≡ D
BeginsAll (p ∷ paths) D E = BeginsOn (RemoveFile p) D E ⊎ ((mid : Disk) × DoesOn (RemoveFile p) D mid × BeginsAll paths mid E)

-- What a loss of power inside the group may leave at a path: the file that was there, or, at one of these paths, none.
abbrev pub MayBeGone : List Path → Option (List ℕ) → Path → Option (List ℕ) → Type 0
MayBeGone paths before q file = (file ≡ before) ⊎ (IsIn q paths × (file ≡ None))

-- Inside the group each path that was settled holds its file, or, where it is one of these, perhaps none.
abbrev pub EveryLossInAGroup : Type 0
EveryLossInAGroup =
    (paths : List Path) (syncs : List Sync) (before : Path → Option (List ℕ)) (D E : Disk) (q : Path) → IsSettledAt D (before q) q →
    BeginsAll paths D E ⊎ ((mid : Disk) × RemovesAll paths D mid × IsSomeSynced syncs mid E) → MayHold E (before q) (MayBeGone paths (before q) q) q

-- After it each of these paths that was settled holds no file, for good; and each other one is settled as before.
abbrev pub EveryGroupSettles : Type 0
EveryGroupSettles =
    (paths : List Path) (syncs : List Sync) (before : Path → Option (List ℕ)) (D mid : Disk) (q : Path) → IsSettledAt D (before q) q →
    SettlesAll paths syncs → RemovesAll paths D mid →
    (IsIn q paths → IsSettledAt (synced_by syncs mid) None q) × ((IsIn q paths → ⊥) → IsSettledAt (synced_by syncs mid) (before q) q)
