-- Real trees, with folders and locks in them: which steps on them carry out the writes of a plan.
use Rattle.std.specs.Prelude.{◌≡◌, ℕ, List, [], ◌∷◌, ◌++◌, Some, None, ◌⊎◌, false}
pub use Rattle.gix_ref_files.specs.Tree.{file_of}
use Rattle.gix_ref_files.specs.Files.{Meaning}
use Rattle.gix_ref_files.specs.Tree.{Tree, Path}
use Rattle.gix_ref_files.specs.Steps.{Step, Begins, IsAfter, IsLeftBy as IsLeftBySteps, EndsAt}
use Rattle.gix_ref_files.specs.Steps.Step.{Create, Append as AppendStep, Line as LineStep, Rename, RemoveFile, MakeFolders, RemoveFolder, End}
use Rattle.gix_ref_files.specs.declared.steps.Cause.{Cause}
use Rattle.gix_ref_theory.specs.Views.{View, Write, changed_at, file_bytes, IsSameView, IsOwnLock, IsSameButLocks}
use Rattle.gix_ref_theory.specs.Views.Write.{Append, Put, Remove}
use Rattle.gix_ref_target.specs.PackedRecords.{Record}
use Rattle.gix_ref_theory.specs.Readings.{Store, HasLaws}
use Rattle.gix_ref_theory.specs.Edits.{Edit, Mode, removes_packed}
use Rattle.gix_ref_theory.specs.Plan.{plan}
use Rattle.gix_ref_theory.specs.Between.{IsPrepared, IsBetween, NoDeletionFirst, InOrder, IsCommitted}

-- the files of a tree
abbrev pub view_of : Tree → View
view_of T path = file_of (T path)

-- what these files hold
abbrev pub contents : {F : Type 0} (means : F → Meaning) → F → View
contents means files = view_of (means files).tree

-- what a step makes of the files: steps on folders change none
abbrev pub after_step : Step → View → View
after_step (Create path) view = changed_at path (Some []) view
after_step (AppendStep path bytes) view = changed_at path
    (Some (file_bytes (view path) ++ bytes)) view
after_step (LineStep path bytes) view = changed_at path
    (Some (file_bytes (view path) ++ bytes)) view
after_step (Rename from to) view = changed_at to (view from) (changed_at from None view)
after_step (RemoveFile path) view = changed_at path None view
after_step (MakeFolders path) view = view
after_step (RemoveFolder path) view = view
after_step End view = view

-- The steps carry out the writes, where `view` are the files and the locks of the paths `locked` are the transaction's. The
-- rename of an own lock puts what the lock holds; a file is made for the append that comes next; an append a line and a removal elsewhere are such writes; steps on own locks
-- and on folders carry out none; and after an end nothing is owed.
abbrev pub CarryOut : List Path → View → List Step → List Write → Type 0
CarryOut locked view [] writes = writes ≡ []
CarryOut locked view (Create path ∷ steps) writes =
    (IsOwnLock locked path × CarryOut locked (after_step (Create path) view) steps writes)
    ⊎ ((line : List ℕ) × (rest : List Write) × (IsOwnLock locked path → ⊥) × (writes
    ≡ Append path line ∷ rest) × CarryOut locked (after_step (Create path) view) steps writes)
CarryOut locked view (AppendStep path bytes ∷ steps) writes =
    (IsOwnLock locked path × CarryOut locked (after_step (AppendStep path bytes) view) steps writes)
    ⊎ ((rest : List Write) × (IsOwnLock locked path → ⊥) × (writes ≡ Append path bytes ∷ rest)
    × CarryOut locked (after_step (AppendStep path bytes) view) steps rest)
CarryOut locked view (LineStep path bytes ∷ steps) writes =
    (rest : List Write) × (IsOwnLock locked path → ⊥) × (writes ≡ Append path bytes ∷ rest)
    × CarryOut locked (after_step (LineStep path bytes) view) steps rest
CarryOut locked view (Rename from to ∷ steps) writes =
    (rest : List Write) × IsOwnLock locked from × (writes ≡ Put to (file_bytes (view from)) ∷ rest)
    × CarryOut locked (after_step (Rename from to) view) steps rest
CarryOut locked view (RemoveFile path ∷ steps) writes =
    (IsOwnLock locked path × CarryOut locked (after_step (RemoveFile path) view) steps writes)
    ⊎ ((rest : List Write) × (writes ≡ Remove path ∷ rest)
    × CarryOut locked (after_step (RemoveFile path) view) steps rest)
CarryOut locked view (MakeFolders path ∷ steps) writes = CarryOut locked view steps writes
CarryOut locked view (RemoveFolder path ∷ steps) writes = CarryOut locked view steps writes
CarryOut locked view (End ∷ steps) writes = Unit {0}

-- A commit on real trees, from the tree `before` the locks were taken and the tree `start` of its beginning: it is
-- prepared, and its steps carry out its plan.
pub record IsCommitRun (s : Store) (mode : Mode) (locked : List Path) (edits : List Edit)
    (before start : Tree) (steps : List Step) : Type 0 where
  pub merged : List Record
  pub prepared : IsPrepared s mode (view_of start) edits merged
  pub locks : IsSameButLocks locked (view_of before) (view_of start)
  pub steps_are_planned : CarryOut locked (view_of start) steps
      (plan s mode (view_of start) edits merged)

-- between, and in the keeping modes no deletion first and the updates in order
pub record IsOldOrNewTree (s : Store) (mode : Mode) (locked : List Path) (edits : List Edit)
    (before left : Tree) : Type 0 where
  pub between : IsBetween s mode locked edits (view_of before) (view_of left)
  pub no_deletion_first : removes_packed mode ≡ false →
      NoDeletionFirst s edits (view_of before) (view_of left)
  pub in_order : removes_packed mode ≡ false → InOrder s edits (view_of before) (view_of left)

-- steps that make and remove folders change no file, wherever they stop
abbrev pub FoldersHoldNoFile : Type 0
FoldersHoldNoFile = (before T : Tree) (path : Path) → Begins (MakeFolders path) before T ⊎ Begins
    (RemoveFolder path) before T → IsSameView (view_of T) (view_of before)

-- every tree that a stop among the steps could leave
abbrev pub EveryTreeIsBetween : Type 0
EveryTreeIsBetween =
    (s : Store) → HasLaws s → (mode : Mode) (locked : List Path) (edits : List Edit)
    (before start left : Tree) (steps : List Step) →
    IsCommitRun s mode locked edits before start steps → IsLeftBySteps steps start left →
    IsOldOrNewTree s mode locked edits before left

-- and the tree after a step that ended the run, as by a fault or a folder in place
abbrev pub EveryEndIsBetween : Type 0
EveryEndIsBetween =
    (s : Store) → HasLaws s → (mode : Mode) (locked : List Path) (edits : List Edit)
    (before start left : Tree) (steps : List Step) (at : ℕ) (cause : Cause) →
    IsCommitRun s mode locked edits before start steps → EndsAt steps at cause start left →
    IsOldOrNewTree s mode locked edits before left

-- the tree after all steps is committed, where the locks except for those that stay are as they were before
abbrev pub EveryWholeRunCommits : Type 0
EveryWholeRunCommits =
    (s : Store) → HasLaws s → (mode : Mode) (locked staying : List Path) (edits : List Edit)
    (before start left : Tree) (steps : List Step) →
    IsCommitRun s mode locked edits before start steps → IsAfter steps start left →
    ((path : Path) → IsOwnLock locked path → (IsOwnLock staying path → ⊥) →
    view_of left path ≡ view_of before path) →
    IsCommitted s mode staying edits (view_of before) (view_of left)
