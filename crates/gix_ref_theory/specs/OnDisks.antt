-- Real disks: which steps with their syncs carry out the writes of a plan, and where a disk is among these writes, so that a
-- loss of power finds some of them done and settled and comes inside the next one.
use Rattle.std.specs.Prelude.{◌≡◌, ◌≢◌, ◌⊎◌, ℕ, List, [], ◌∷◌, ◌++◌, Some, None}
use Rattle.gix_ref_files.specs.Tree.{Tree, Path}
use Rattle.gix_ref_files.specs.Disk.{Disk, Lost}
use Rattle.gix_ref_files.specs.Files.{Meaning, disk_of, Loses}
use Rattle.gix_ref_files.specs.Lock.{lock_of}
use Rattle.gix_ref_files.specs.Settled.{Sync, AllStay, MayHold, IsSettledAt, IsAllSettled, IsWholeAt, IsIn, SettlesPath, SettlesRemoval, SettlesFile}
use Rattle.gix_ref_files.specs.Settled.Sync.{OfFile}
use Rattle.gix_ref_files.specs.Steps.{Step}
use Rattle.gix_ref_files.specs.Steps.Step.{Create, Append as AppendStep, Line, Rename, RemoveFile, MakeFolders, RemoveFolder, End}
use Rattle.gix_ref_files.specs.DiskSteps.{Synced, BeginsOn, Settling, IsReachedBy, IsSyncedAfter}
use Rattle.gix_ref_files.specs.DiskSteps.Synced.{With}
use Rattle.gix_ref_theory.specs.OnRealTrees.{view_of}
use Rattle.gix_ref_theory.specs.Views.{View, Write, changed_at, after, after_write, LostIn, IsLostBy, IsOwnLock}
use Rattle.gix_ref_theory.specs.Views.Write.{Append, Put, Remove}

-- The disk is settled at the paths that count, and these are its files there.
abbrev pub IsSettled : (Path → Type 0) → View → Disk → Type 0
IsSettled Counts view D = (q : Path) → Counts q → IsSettledAt D (view q) q

module _ (Counts : Path → Type 0) (staying : List Path) where
  -- The steps with their syncs carry out the writes. `texts` are the texts of the locks that are whole on the disk. Each write is
  -- settled by its syncs; steps on paths that do not count and on folders need none.
  abbrev pub CarryOutSynced : View → List Synced → List Write → Type 0
  CarryOutSynced texts [] writes = writes ≡ []
  CarryOutSynced texts (With (Create p) syncs ∷ plan) writes =
      (Counts p → ⊥) × CarryOutSynced (changed_at p None texts) plan writes
  CarryOutSynced texts (With (AppendStep p bytes) syncs ∷ plan) writes =
      ((Counts p → ⊥) × CarryOutSynced (changed_at p None texts) plan writes)
      ⊎ ((old : List ℕ) × (Counts p → ⊥) × (texts p ≡ Some old) × (syncs ≡ OfFile p ∷ [])
      × CarryOutSynced (changed_at p (Some (old ++ bytes)) texts) plan writes)
  CarryOutSynced texts (With (Line p bytes) syncs ∷ plan) writes =
      (rest : List Write) × (writes ≡ Append p bytes ∷ rest) × SettlesFile staying p syncs
      × CarryOutSynced (changed_at p None texts) plan rest
  CarryOutSynced texts (With (Rename from to) syncs ∷ plan) writes =
      (bytes : List ℕ) × (rest : List Write) × (Counts from → ⊥) × (from ≢ to)
      × (texts from ≡ Some bytes) × (writes ≡ Put to bytes ∷ rest) × SettlesPath staying to syncs
      × CarryOutSynced (changed_at to None (changed_at from None texts)) plan rest
  CarryOutSynced texts (With (RemoveFile p) syncs ∷ plan) writes =
      ((Counts p → ⊥) × CarryOutSynced (changed_at p None texts) plan writes)
      ⊎ ((rest : List Write) × (writes ≡ Remove p ∷ rest) × SettlesRemoval p syncs
      × CarryOutSynced (changed_at p None texts) plan rest)
  CarryOutSynced texts (With (MakeFolders p) syncs ∷ plan) writes = CarryOutSynced texts plan writes
  CarryOutSynced texts (With (RemoveFolder p) syncs ∷ plan) writes = (IsIn p staying → ⊥)
      × CarryOutSynced texts plan writes
  CarryOutSynced texts (With End syncs ∷ plan) writes = Unit {0}

  -- A disk at rest: settled where it counts, with these files; the folders that stay do; and the locks with a text are whole.
  pub record Rests (texts view : View) (D : Disk) : Type 0 where
    pub files : IsSettled Counts view D
    pub stays : AllStay D staying
    pub whole : (p : Path) (bytes : List ℕ) → texts p ≡ Some bytes → IsWholeAt D p bytes

-- The disk is among the writes: some of them are done and settled, and the next one is perhaps begun. So each loss of power
-- finds them.
abbrev pub IsWithin : (Path → Type 0) → List Write → View → Disk → Type 0
IsWithin Counts [] view D = IsSettled Counts view D
IsWithin Counts (write ∷ writes) view D =
    ((q : Path) → Counts q → MayHold D (view q) (LostIn write view q) q)
    ⊎ IsWithin Counts writes (after_write write view) D

-- The paths that are spoken of after a loss of power: all but the transaction's locks, and what was unsynced as the call began.
abbrev pub IsSpokenOf : List Path → Disk → Path → Type 0
IsSpokenOf locked D q = (IsOwnLock locked q → ⊥) × IsSettledAt D (view_of D.tree q) q

-- these locks hold these texts, all of them synced
abbrev pub AreWhole : View → Disk → Type 0
AreWhole texts D = (p : Path) (bytes : List ℕ) → texts p ≡ Some bytes → IsWholeAt D p bytes

-- Among the steps every stop, fault or loss of power finds a disk that is within the writes.
abbrev pub EveryDiskIsWithin : Type 0
EveryDiskIsWithin =
    (locked staying : List Path) (texts : View) (plan : List Synced) (writes : List Write)
    (D E : Disk) →
    AllStay D staying → AreWhole texts D → CarryOutSynced
    (IsSpokenOf locked D) staying texts plan writes → IsReachedBy plan D E →
    IsWithin (IsSpokenOf locked D) writes (view_of D.tree) E

-- The removal of an own lock keeps it so, as after a fault.
abbrev pub LockRemovalsKeepWithin : Type 0
LockRemovalsKeepWithin =
    (locked : List Path) (writes : List Write) (D E F : Disk) (p : Path) → IsOwnLock locked p →
    IsWithin (IsSpokenOf locked D) writes (view_of D.tree) E → BeginsOn (RemoveFile p) E F →
    IsWithin (IsSpokenOf locked D) writes (view_of D.tree) F

-- And a loss of power there is one among the writes.
abbrev pub EveryLossWithin : Type 0
EveryLossWithin =
    (locked : List Path) (writes : List Write) (D E : Disk) (T : Tree) →
    IsWithin (IsSpokenOf locked D) writes (view_of D.tree) E → Lost E T →
    IsLostBy (IsSpokenOf locked D) writes (view_of D.tree) (view_of T)

-- Every loss of power among the steps is one among the writes: some of them are done and settled, and it comes inside the
-- next one. So the steps of a `prepare` or a `rollback`, which carry out no write, lose nothing.
abbrev pub EveryLossIsInOneWrite : Type 0
EveryLossIsInOneWrite =
    (locked staying : List Path) (texts : View) (plan : List Synced) (writes : List Write)
    (D E : Disk) (T : Tree) →
    AllStay D staying → AreWhole texts D → CarryOutSynced
    (IsSpokenOf locked D) staying texts plan writes → IsReachedBy plan D E → Lost E T →
    IsLostBy (IsSpokenOf locked D) writes (view_of D.tree) (view_of T)

-- And the whole run leaves the disk settled, with the files after the writes.
abbrev pub EveryRunSettles : Type 0
EveryRunSettles =
    (locked staying : List Path) (texts : View) (plan : List Synced) (writes : List Write)
    (D E : Disk) →
    AllStay D staying → AreWhole texts D → IsAllSettled D →
    CarryOutSynced (IsSpokenOf locked D) staying texts plan writes → IsSyncedAfter plan D E →
    IsAllSettled E × AllStay E staying × ((q : Path) → ((p : Path) → q ≢ lock_of p) →
    view_of E.tree q ≡ after writes (view_of D.tree) q)

-- So once the run has ended well, a loss of power leaves the files after the writes, except for locks.
abbrev pub EveryDoneRunIsKept : Type 0
EveryDoneRunIsKept =
    (locked staying : List Path) (texts : View) (plan : List Synced) (writes : List Write)
    (D E : Disk) (T : Tree) →
    AllStay D staying → AreWhole texts D → IsAllSettled D → CarryOutSynced
    (IsSpokenOf locked D) staying texts plan writes → IsSyncedAfter plan D E → Lost E T →
    (q : Path) → ((p : Path) → q ≢ lock_of p) → view_of T q ≡ after writes (view_of D.tree) q

-- The disk E is among the writes, which began on the disk `first`, and the folders stay.
abbrev pub IsAmong : (locked staying : List Path) → List Write → (first E : Disk) → Type 0
IsAmong locked staying writes first E = IsWithin (IsSpokenOf locked first) writes
    (view_of first.tree) E × AllStay E staying

-- On the disk E all is as on the disk `first` except for own locks: each path that is spoken of is settled with the file that it had,
-- and the folders stay.
abbrev pub IsAsBefore : (locked staying : List Path) → (first E : Disk) → Type 0
IsAsBefore locked staying first E = IsAmong locked staying [] first E

-- A step of `prepare` or `rollback`: on an own lock, or on folders.
abbrev pub IsOwnStep : List Path → List Path → Step → Type 0
IsOwnStep locked staying (Create p) = IsOwnLock locked p
IsOwnStep locked staying (AppendStep p bytes) = IsOwnLock locked p
IsOwnStep locked staying (RemoveFile p) = IsOwnLock locked p
IsOwnStep locked staying (MakeFolders p) = Unit {0}
IsOwnStep locked staying (RemoveFolder p) = IsIn p staying → ⊥
IsOwnStep locked staying other = ⊥

-- Such a step leaves the disk within no write, so that a loss of power leaves the files of the beginning.
abbrev pub OwnStepsWriteNothing : Type 0
OwnStepsWriteNothing =
    (locked staying : List Path) (D E F : Disk) (step : Step) → IsOwnStep locked staying step →
    IsAsBefore locked staying D E → BeginsOn step E F → IsAsBefore locked staying D F

-- and so does every sync
abbrev pub SyncsWriteNothing : Type 0
SyncsWriteNothing =
    (locked staying : List Path) (D E F : Disk) (sync : Sync) →
    IsAsBefore locked staying D E → Settling sync E F → IsAsBefore locked staying D F

-- Where the steps carry out some writes, every loss of power from old to new is one among these. It is what a run of the steps
-- says to its caller, who may have removed own locks after it.
abbrev pub LosesAmong : List Synced → Meaning → Meaning → Type 0
LosesAmong plan old new =
    (locked staying : List Path) (texts : View) (writes : List Write) →
    AllStay (disk_of old) staying → AreWhole texts (disk_of old) →
    CarryOutSynced (IsSpokenOf locked (disk_of old)) staying texts plan writes →
    Loses old new
    (λ T. IsLostBy (IsSpokenOf locked (disk_of old)) writes (view_of old.tree) (view_of T))
