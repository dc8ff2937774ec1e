-- What is settled on a disk: a loss of power leaves it as it is.
use Rattle.std.specs.Prelude.{◌≡◌, ◌≢◌, ◌⊎◌, ℕ, zero, suc, ◌+◌, ◌-◌, List, [], ◌∷◌, ◌++◌, length, take, get_or, Option, Some, if◌then◌else◌, ◌==◌}
use Rattle.gix_ref_files.specs.Tree.{Path, Content, file_of, fronts}
use Rattle.gix_ref_files.specs.Tree.Content.{File, Folder}
use Rattle.gix_ref_files.specs.Disk.{Disk, MayBe, folder_of, file_synced, folder_synced}
use Rattle.gix_ref_files.specs.Lock.{lock_of}

-- a folder is at p after every loss of power that leaves p's own folder
abbrev pub StaysFolder : Disk → Path → Type 0
StaysFolder D p = (left : Option Content) → MayBe D p left → left ≡ Some Folder

-- and so at all of these
abbrev pub AllStay : Disk → List Path → Type 0
AllStay D [] = Unit {0}
AllStay D (f ∷ fs) = StaysFolder D f × AllStay D fs

-- After every loss of power the path holds a file, or none, of which P holds: its entry is one of these; and the folders on its
-- way stay, where it held a file before.
pub record MayHold (D : Disk) (before : Option (List ℕ)) (P : Option (List ℕ) → Type 0)
    (p : Path) : Type 0 where
  pub entry : (left : Option Content) → MayBe D p left → P (file_of left)
  pub way : (bytes : List ℕ) → before ≡ Some bytes → AllStay D (fronts p)

-- the path is settled, and holds this file or none
abbrev pub IsSettledAt : Disk → Option (List ℕ) → Path → Type 0
IsSettledAt D file p = MayHold D file (λ f. f ≡ file) p

-- Settled: nothing is unsynced but locks, and folders that hold no other file.
abbrev pub IsAllSettled : Disk → Type 0
IsAllSettled D = (q : Path) → ((p : Path) → q ≢ lock_of p) → IsSettledAt D (file_of (D.tree q)) q

-- the file at p holds these bytes, and all of them are synced
abbrev pub IsWholeAt : Disk → Path → List ℕ → Type 0
IsWholeAt D p bytes = (D.tree p ≡ Some (File bytes)) × (D.unsynced.synced p ≡ length bytes)

-- A sync of a file's bytes, or of a folder's entries.
pub data Sync : Type 0 where
  OfFile : (path : Path) → Sync
  OfFolder : (path : Path) → Sync

-- the disk after it
abbrev pub synced : Sync → Disk → Disk
synced (OfFile p) D = file_synced D p
synced (OfFolder p) D = folder_synced D p

-- the disk after several
abbrev pub synced_by : List Sync → Disk → Disk
synced_by [] D = D
synced_by (s ∷ ss) D = synced_by ss (synced s D)

-- the path is one of these
abbrev pub IsIn : Path → List Path → Type 0
IsIn p [] = ⊥
IsIn p (q ∷ qs) = (q ≡ p) ⊎ IsIn p qs

-- all of these are among those
abbrev pub AreIn : List Path → List Path → Type 0
AreIn [] qs = Unit {0}
AreIn (p ∷ ps) qs = IsIn p qs × AreIn ps qs

-- To settle a path is to sync each folder from its own up to one that stays, and with it all folders above that.
abbrev pub Settles : List Path → Path → List Sync → Type 0
Settles staying p [] = AreIn (fronts p ++ p ∷ []) staying
Settles staying p (OfFile f ∷ syncs) = ⊥
Settles staying p (OfFolder f ∷ syncs) = (folder_of p ≡ f) × (f ≢ []) × Settles staying f syncs

-- at least the path's own folder is synced
abbrev pub SettlesPath : List Path → Path → List Sync → Type 0
SettlesPath staying p [] = ⊥
SettlesPath staying p (s ∷ syncs) = Settles staying p (s ∷ syncs)

-- the same after the sync of the file
abbrev pub SettlesFile : List Path → Path → List Sync → Type 0
SettlesFile staying p [] = ⊥
SettlesFile staying p (OfFolder f ∷ syncs) = ⊥
SettlesFile staying p (OfFile f ∷ syncs) = (f ≡ p) × SettlesPath staying p syncs

-- A removal is settled by the sync of the path's own folder: a file that is gone is so whether or not the folders above are there.
abbrev pub SettlesRemoval : Path → List Sync → Type 0
SettlesRemoval p [] = ⊥
SettlesRemoval p (OfFile f ∷ syncs) = ⊥
SettlesRemoval p (OfFolder f ∷ syncs) = folder_of p ≡ f

-- the sync of a folder, if there is one: the folder of a name alone is empty
abbrev pub sync_of_folder : Path → List Sync
sync_of_folder [] = []
sync_of_folder (c ∷ f) = OfFolder (c ∷ f) ∷ []

-- the folders of a path that end at one of the n places from this front on, the longest first
abbrev pub folders_up : Path → (root n : ℕ) → List Sync
folders_up p root zero = []
folders_up p root (suc n) =
    if get_or p (root + n) 0 == 47 then OfFolder (take (root + n) p) ∷ folders_up p root n
    else folders_up p root n

-- a place from 1 on: no folder is before the first byte
abbrev pub from_one : ℕ → ℕ
from_one zero = 1
from_one (suc n) = suc n

-- The climb: the folders of a path, from its own up to the front of this length.
abbrev pub climb : Path → ℕ → List Sync
climb p root = folders_up p (from_one root) (length p - from_one root)
