-- The theorems, over every store that keeps the laws of places, every mode, all files and every transaction. The files
-- `view` are those of the beginning of a commit, with its locks; `before` are those from before the locks were taken,
-- or the same again.
use Rattle.std.specs.Prelude.{◌≡◌, ◌≢◌, ℕ, List, [], ◌∷◌, ◌++◌, true, false, codes, ◌⊎◌}
use Rattle.gix_ref_files.specs.Tree.{Path}
use Rattle.gix_ref_theory.specs.Views.{View, after, IsLeft, IsOwnLock, IsSameButLocks}
use Rattle.gix_ref_target.specs.PackedRecords.{Record}
use Rattle.gix_ref_theory.specs.Readings.{Store, HasLaws}
use Rattle.gix_ref_target.specs.Layout.{Layout, below, RefPaths, HasPaths, IsSafe, IsLayout}
use Rattle.gix_ref_target.specs.Locations.{paths_at, is_safe}
use Rattle.gix_ref_theory.specs.ConcreteStore.{Options, store_of}
use Rattle.gix_ref_theory.specs.Edits.{Edit, Mode, removes_packed}
use Rattle.gix_ref_theory.specs.Plan.{plan}
use Rattle.gix_ref_theory.specs.Between.{MergesRecords, IsPrepared, IsBetween, NoDeletionFirst, InOrder, IsCommitted}

-- every stop leaves each reference old or new
abbrev pub EveryStopIsBetween : Type 0
EveryStopIsBetween =
    (s : Store) → HasLaws s → (mode : Mode) (locked : List Path) (edits : List Edit)
    (merged : List Record) (before view left : View) →
    IsPrepared s mode view edits merged → IsSameButLocks locked before view →
    IsLeft locked (plan s mode view edits merged) view left →
    IsBetween s mode locked edits before left

-- and where loose files are kept, no deletion shows before every update
abbrev pub NoDeletionShowsFirst : Type 0
NoDeletionShowsFirst =
    (s : Store) → HasLaws s → (mode : Mode) (locked : List Path) (edits : List Edit)
    (merged : List Record) (before view left : View) →
    IsPrepared s mode view edits merged → IsSameButLocks locked before view →
    IsLeft locked (plan s mode view edits merged) view left →
    removes_packed mode ≡ false → NoDeletionFirst s edits before left

-- and no update before an earlier one
abbrev pub UpdatesShowInOrder : Type 0
UpdatesShowInOrder =
    (s : Store) → HasLaws s → (mode : Mode) (locked : List Path) (edits : List Edit)
    (merged : List Record) (before view left : View) →
    IsPrepared s mode view edits merged → IsSameButLocks locked before view →
    IsLeft locked (plan s mode view edits merged) view left →
    removes_packed mode ≡ false → InOrder s edits before left

-- the whole plan commits, where the locks except for those that stay are as they were before
abbrev pub WholePlanCommits : Type 0
WholePlanCommits =
    (s : Store) → HasLaws s → (mode : Mode) (locked staying : List Path) (edits : List Edit)
    (merged : List Record) (before view left : View) →
    IsPrepared s mode view edits merged → IsSameButLocks locked before view →
    IsSameButLocks locked left (after (plan s mode view edits merged) view) →
    ((path : Path) → IsOwnLock locked path → (IsOwnLock staying path → ⊥) →
    left path ≡ before path) →
    IsCommitted s mode staying edits before left

-- the transaction's locks change neither the plan nor what `prepare` has seen to
abbrev pub PlanSeesNoLocks : Type 0
PlanSeesNoLocks =
    (s : Store) → HasLaws s → (mode : Mode) (locked : List Path) (edits : List Edit)
    (merged : List Record) (before view : View) →
    IsSameButLocks locked before view → IsPrepared s mode before edits merged →
    IsPrepared s mode view edits merged
    × (plan s mode before edits merged ≡ plan s mode view edits merged)

-- what is said of merged records leaves one list, and so one text of `packed-refs`
abbrev pub MergedRecordsAreOne : Type 0
MergedRecordsAreOne =
    (s : Store) (mode : Mode) (edits : List Edit) (old new other : List Record) →
    MergesRecords s mode edits old new → MergesRecords s mode edits old other → new ≡ other

-- the table gives each name paths, those that are computed, and no other
abbrev pub PathsAreTheTable : Type 0
PathsAreTheTable = (f : Layout) (name : List ℕ) → HasPaths f name (paths_at f name)
    × ((r : RefPaths) → HasPaths f name r → paths_at f name ≡ r)

-- a name is safe where its test says so, and nowhere else
abbrev pub SafeNamesAreTested : Type 0
SafeNamesAreTested = (name : List ℕ) → (IsSafe name → is_safe name ≡ true)
    × (is_safe name ≡ true → IsSafe name)

-- the places of the table keep the laws
abbrev pub PlacesKeepTheLaws : Type 0
PlacesKeepTheLaws = (f : Layout) (o : Options) → IsLayout f → HasLaws (store_of f o)

-- references of one place have one log, in a namespace and in linked worktrees too
abbrev pub OnePlaceHasOneLog : Type 0
OnePlaceHasOneLog =
    (f : Layout) (o : Options) → IsLayout f → (m n : List ℕ) →
    (store_of f o).is_reference m ≡ true → (store_of f o).is_reference n ≡ true →
    (store_of f o).place m ≡ (store_of f o).place n → (store_of f o).log m ≡ (store_of f o).log n

-- In a namespace, where the git folder is that of the linked worktree w: a name, and the same after `worktrees/w/`.
pub record SharesLog (f : Layout) (name long : List ℕ) : Type 0 where
  pub worktree : List ℕ
  pub git_is : f.git ≡ below f.common (codes "worktrees/" ++ worktree)
  pub long_is : long ≡ codes "worktrees/" ++ (worktree ++ 47 ∷ name)
  pub in_namespace : f.namespace ≢ []

-- references of one log have one place, except for such pairs
abbrev pub OneLogHasOnePlace : Type 0
OneLogHasOnePlace =
    (f : Layout) (o : Options) → IsLayout f → (m n : List ℕ) →
    (store_of f o).is_reference m ≡ true → (store_of f o).is_reference n ≡ true →
    (store_of f o).log m ≡ (store_of f o).log n → ((store_of f o).place m ≡ (store_of f o).place n)
    ⊎ (SharesLog f m n ⊎ SharesLog f n m)

-- each place lies in the namespace: below the common folder or the git folder, the namespace and then more
abbrev pub PlacesLieInTheNamespace : Type 0
PlacesLieInTheNamespace =
    (f : Layout) (o : Options) (name : List ℕ) → (folder rest : Path)
    × ((folder ≡ f.common) ⊎ (folder ≡ f.git))
    × ((store_of f o).place name ≡ below folder (f.namespace ++ rest))
