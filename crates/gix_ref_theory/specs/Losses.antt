-- What every loss of power inside a commit leaves.
use Rattle.std.specs.Prelude.{◌≡◌, ◌≢◌, ◌⊎◌, ℕ, List, true, false, Option}
use Rattle.gix_ref_files.specs.Tree.{Tree, Path}
use Rattle.gix_ref_files.specs.Disk.{Disk, Lost}
use Rattle.gix_ref_files.specs.Lock.{lock_of}
use Rattle.gix_ref_files.specs.Settled.{AllStay, IsSettledAt, IsAllSettled}
use Rattle.gix_ref_files.specs.DiskSteps.{Synced, IsReachedBy, IsSyncedAfter}
use Rattle.gix_ref_target.specs.PackedRecords.{Record}
use Rattle.gix_ref_theory.specs.OnDisks.{CarryOutSynced, IsWithin, IsSpokenOf, AreWhole}
use Rattle.gix_ref_theory.specs.OnRealTrees.{view_of}
use Rattle.gix_ref_theory.specs.Views.{View, IsSameButLocks}
use Rattle.gix_ref_theory.specs.Views.Ending.{Stop, Loss}
use Rattle.gix_ref_theory.specs.Readings.{Store, HasLaws}
use Rattle.gix_ref_theory.specs.Edits.{Edit, Mode, removes_packed}
use Rattle.gix_ref_theory.specs.Plan.{plan}
use Rattle.gix_ref_theory.specs.Between.{IsEdit, IsNewFile, IsPackedFile, IsOther, IsPrepared, IsLogBetween, IsLogLeft, IsCommitted, ReadsAsBefore, ReadsAsEdited, NoDeletionFirst, InOrder}

-- Between, for losses of power: as for stops, but that a log may have any bytes in place of the line that was being written, and
-- that what was unsynced as the call began, on the disk D, which is locks alone, is not spoken of. `view` are the files from
-- before the locks were taken.
pub record IsLostBetween (s : Store) (mode : Mode) (locked : List Path) (edits : List Edit)
    (D : Disk) (view left : View) : Type 0 where
  pub readings : (name : List ℕ) → s.is_reference name ≡ true → ReadsAsBefore s view left name
      ⊎ ReadsAsEdited s edits view left name
  pub places : (e : Edit) → IsEdit e edits → e.and_reference ≡ true →
      (left (s.place e.name) ≡ view (s.place e.name))
      ⊎ IsNewFile s mode e e.change (left (s.place e.name))
  pub logs : (e : Edit) → IsEdit e edits → IsLogLeft Loss s edits (s.log e.name)
      (view (s.log e.name)) (left (s.log e.name))
  pub packed : (left s.packed_path ≡ view s.packed_path)
      ⊎ IsPackedFile s mode edits (view s.packed_path) (left s.packed_path)
  pub others : (path : Path) → IsOther s locked edits path →
      IsSettledAt D (view_of D.tree path) path → left path ≡ view path

-- between, and in the keeping modes no deletion first and the updates in order
pub record IsLostWell (s : Store) (mode : Mode) (locked : List Path) (edits : List Edit) (D : Disk)
    (before left : Tree) : Type 0 where
  pub between : IsLostBetween s mode locked edits D (view_of before) (view_of left)
  pub no_deletion_first : removes_packed mode ≡ false →
      NoDeletionFirst s edits (view_of before) (view_of left)
  pub in_order : removes_packed mode ≡ false → InOrder s edits (view_of before) (view_of left)

-- A commit on a real disk, from the tree `before` the locks were taken and the disk D of its beginning: all is settled, the
-- folders `staying` stay, the locks with a text are whole, it is prepared, and its steps with their syncs carry out its plan.
pub record IsSyncedCommit (s : Store) (mode : Mode) (locked staying : List Path) (edits : List Edit)
    (before : Tree) (D : Disk) (steps : List Synced) : Type 0 where
  pub settled : IsAllSettled D
  pub stays : AllStay D staying
  pub texts : View
  pub whole : AreWhole texts D
  pub merged : List Record
  pub prepared : IsPrepared s mode (view_of D.tree) edits merged
  pub locks : IsSameButLocks locked (view_of before) (view_of D.tree)
  pub steps_are_planned : CarryOutSynced (IsSpokenOf locked D) staying texts steps
      (plan s mode (view_of D.tree) edits merged)

-- Every loss of power inside such a commit.
abbrev pub EveryLossIsBetween : Type 0
EveryLossIsBetween =
    (s : Store) → HasLaws s → (mode : Mode) (locked staying : List Path) (edits : List Edit)
    (before left : Tree) (D E : Disk) (steps : List Synced) →
    IsSyncedCommit s mode locked staying edits before D steps → IsReachedBy steps D E →
    Lost E left → IsLostWell s mode locked edits D before left

-- And every loss of power on a disk among the writes of its plan, as on that of a run that ended early and whose locks were then
-- removed.
abbrev pub EveryLossAmongIsBetween : Type 0
EveryLossAmongIsBetween =
    (s : Store) → HasLaws s → (mode : Mode) (locked : List Path) (edits : List Edit)
    (merged : List Record) (before left : Tree) (D E : Disk) →
    IsAllSettled D → IsPrepared s mode (view_of D.tree) edits merged →
    IsSameButLocks locked (view_of before) (view_of D.tree) →
    IsWithin (IsSpokenOf locked D) (plan s mode (view_of D.tree) edits merged) (view_of D.tree) E →
    Lost E left → IsLostWell s mode locked edits D before left

-- The whole run is committed, and a loss of power after it leaves these files, except for locks; and all is settled again.
abbrev pub EveryWholeRunIsKept : Type 0
EveryWholeRunIsKept =
    (s : Store) → HasLaws s → (mode : Mode) (locked staying : List Path) (edits : List Edit)
    (before left : Tree) (D E : Disk) (steps : List Synced) →
    IsSyncedCommit s mode locked staying edits before D steps → IsSyncedAfter steps D E →
    Lost E left →
    IsAllSettled E × AllStay E staying × ((kept : View) × IsCommitted s mode locked edits
    (view_of before) kept × ((q : Path) → ((p : Path) → q ≢ lock_of p) → view_of left q ≡ kept q))

-- For stops what is said of a log is what the definition for stops says.
abbrev pub StopLogsAreBetween : Type 0
StopLogsAreBetween = (s : Store) (edits : List Edit) (log : Path) (old new : Option (List ℕ)) →
    IsLogLeft Stop s edits log old new → IsLogBetween s edits log old new
