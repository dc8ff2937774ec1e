-- What lies outside of the namespace of a store, and that it is as before (`gitnamespaces`).
use Rattle.std.specs.Prelude.{◌≡◌, ◌≢◌, ◌⊎◌, ℕ, List, ◌++◌, Bool, true, Some, None, codes}
use Rattle.gix_ref_hash.specs.Bytes.{BeginsWith, NoByte}
use Rattle.gix_ref_hash.specs.declared.hash.Kind.{Kind}
use Rattle.gix_ref_target.specs.Layout.{IsLayout, Layout, below, linked_log, packed_refs}
use Rattle.gix_ref_target.specs.PackedRecords.{Record, record_named}
use Rattle.gix_ref_files.specs.Disk.{Disk}
use Rattle.gix_ref_files.specs.Lock.{lock_of}
use Rattle.gix_ref_files.specs.Settled.{IsAllSettled}
use Rattle.gix_ref_files.specs.Tree.{Tree, Path}
use Rattle.gix_ref_packed_text.specs.Positions.{IsReadable}
use Rattle.gix_ref_theory.specs.Between.{IsEdit}
use Rattle.gix_ref_theory.specs.ConcreteStore.{Options, store_of}
use Rattle.gix_ref_theory.specs.Edits.{Edit, Mode, edited_record}
use Rattle.gix_ref_theory.specs.Edits.Mode.{DeletionsOnly}
use Rattle.gix_ref_theory.specs.Losses.{IsLostWell}
use Rattle.gix_ref_theory.specs.OnRealTrees.{view_of}
use Rattle.gix_ref_theory.specs.Readings.{Store, reading, records_of_file}
use Rattle.gix_ref_edits.specs.declared.transaction.RefEdit.{RefEdit}
use Rattle.gix_ref_lookup.specs.StoreLayout.{git_options}
use Rattle.gix_ref_transaction.specs.Causes.{IsPackedWell}
use Rattle.gix_ref_transaction.specs.OwnLocks.{is_in}
use Rattle.gix_ref_transaction.specs.PrepareSteps.{own_locks, own_places}
use Rattle.gix_ref_commit.specs.CommittedTrees.{IsOldOrNew}
use Rattle.gix_ref_commit.specs.LogEffects.{Extra, with_extras}

-- a folder of the store: the common folder, or the git folder
abbrev pub IsFolderOf : Layout → Path → Type 0
IsFolderOf f folder = (folder ≡ f.common) ⊎ (folder ≡ f.git)

-- a place in the namespace: below a folder of the store, the namespace and then more
abbrev pub IsPlaceInside : Layout → Path → Type 0
IsPlaceInside f path = (folder rest : Path) × IsFolderOf f folder
    × (path ≡ below folder (f.namespace ++ rest))

-- a log in the namespace: below a folder of the store, `logs/`, the namespace and then more; or so below the folder of a linked
-- worktree
abbrev pub IsLogInside : Layout → Path → Type 0
IsLogInside f path =
    ((folder rest : Path) × IsFolderOf f folder
    × (path ≡ below folder (codes "logs/" ++ (f.namespace ++ rest))))
    ⊎ ((w rest : List ℕ) × NoByte 47 w × (path ≡ linked_log f w rest))

-- a key in the namespace begins with it
abbrev pub IsKeyInside : Layout → List ℕ → Type 0
IsKeyInside f key = BeginsWith key f.namespace

-- one of these paths
abbrev pub IsOneOf : List Path → Path → Type 0
IsOneOf paths path = is_in paths path ≡ true

-- the lock of some path
abbrev pub IsLock : Path → Type 0
IsLock path = (place : Path) × (path ≡ lock_of place)

-- A path outside of the namespace: no place and no log in it, not `packed-refs`, and none that is excepted.
pub record IsOutside (f : Layout) (Excepted : Path → Type 0) (path : Path) : Type 0 where
  pub no_place : IsPlaceInside f path → ⊥
  pub no_log : IsLogInside f path → ⊥
  pub not_packed : packed_refs f ≢ path
  pub not_excepted : Excepted path → ⊥

-- From the tree `before` to T all outside of the namespace is as before: each file, except for locks that are excepted, and in
-- `packed-refs` the record of each key.
pub record OutsideIsAsBefore (f : Layout) (s : Store) (Excepted : Path → Type 0)
    (before T : Tree) : Type 0 where
  pub files : (path : Path) → IsOutside f Excepted path → view_of T path ≡ view_of before path
  pub records : (key : List ℕ) → (IsKeyInside f key → ⊥) →
      record_named key (records_of_file s (view_of T s.packed_path))
      ≡ record_named key (records_of_file s (view_of before s.packed_path))

-- the place of each name lies in the namespace
abbrev pub PlacesLieInside : Type 0
PlacesLieInside = (f : Layout) (o : Options) (name : List ℕ) →
    IsPlaceInside f ((store_of f o).place name)

-- and so does its log
abbrev pub LogsLieInTheNamespace : Type 0
LogsLieInTheNamespace = (f : Layout) (o : Options) (name : List ℕ) →
    IsLogInside f ((store_of f o).log name)

-- and its key, where it has one
abbrev pub KeysLieInTheNamespace : Type 0
KeysLieInTheNamespace = (f : Layout) (o : Options) (name key : List ℕ) →
    (store_of f o).key name ≡ Some key → IsKeyInside f key

-- What an edit puts into `packed-refs`, if it puts a record there, can be read again: its name is a full one, and its ids are of
-- the kind.
abbrev pub PutsReadable : Store → Mode → Kind → Edit → Type 0
PutsReadable s mode kind e = (key : List ℕ) (r : Record) → e.and_reference ≡ true →
    s.key e.name ≡ Some key → edited_record mode key e e.change None ≡ Some r → IsReadable kind r

-- and so with each of these edits
abbrev pub AllPutReadable : Store → Mode → Kind → List Edit → Type 0
AllPutReadable s mode kind edits = (e : Edit) → IsEdit e edits → PutsReadable s mode kind e

-- Where `packed-refs` changes for deletions alone, no edit puts a record there.
abbrev pub DeletionsPutNothing : Type 0
DeletionsPutNothing = (s : Store) (kind : Kind) (edits : List Edit) →
    AllPutReadable s DeletionsOnly kind edits

-- Where each reference is as before or as edited, as at a stop inside a commit, all outside of the namespace is as before, except for
-- the locks of the transaction. In each mode, where the records that are put can be read again.
abbrev pub EveryStopLeavesTheOutside : Type 0
EveryStopLeavesTheOutside =
    (f : Layout) (k : Kind) (prohibits : Bool) (mode : Mode) (edits : List RefEdit)
    (extras : List Extra) (before T : Tree) →
    IsPackedWell k (view_of before (packed_refs f)) →
    AllPutReadable (store_of f (git_options k prohibits)) mode k (with_extras edits extras) →
    IsOldOrNew (store_of f (git_options k prohibits)) mode edits extras before T →
    OutsideIsAsBefore f (store_of f (git_options k prohibits))
    (IsOneOf (own_locks (store_of f (git_options k prohibits)) mode before edits)) before T

-- And so after a loss of power inside a commit that began on a settled disk D, except for locks.
abbrev pub EveryLossLeavesTheOutside : Type 0
EveryLossLeavesTheOutside =
    (f : Layout) (k : Kind) (prohibits : Bool) (mode : Mode) (edits : List RefEdit)
    (extras : List Extra) (D : Disk) (before T : Tree) →
    IsPackedWell k (view_of before (packed_refs f)) →
    AllPutReadable (store_of f (git_options k prohibits)) mode k (with_extras edits extras) →
    IsAllSettled D →
    IsLostWell (store_of f (git_options k prohibits)) mode
    (own_places (store_of f (git_options k prohibits)) mode before edits)
    (with_extras edits extras) D before T →
    OutsideIsAsBefore f (store_of f (git_options k prohibits)) IsLock before T

-- the locks of a transaction are locks
abbrev pub OwnLocksAreLocks : Type 0
OwnLocksAreLocks = (s : Store) (mode : Mode) (T : Tree) (edits : List RefEdit) (q : Path) →
    is_in (own_locks s mode T edits) q ≡ true → IsLock q

-- and what is as before except for these locks is so except for all locks
abbrev pub TheseLocksAreLocks : Type 0
TheseLocksAreLocks =
    (f : Layout) (s : Store) (locks : List Path) (before T : Tree) →
    ((q : Path) → is_in locks q ≡ true → IsLock q) →
    OutsideIsAsBefore f s (IsOneOf locks) before T → OutsideIsAsBefore f s IsLock before T

-- So a reference whose place and key are outside reads as before: as one of a store in the same common folder with another
-- namespace, or with none.
abbrev pub ReadingsOutsideStay : Type 0
ReadingsOutsideStay =
    (f g : Layout) (o : Options) (before T : Tree) → g.common ≡ f.common →
    OutsideIsAsBefore f (store_of f o) IsLock before T →
    (name : List ℕ) → IsOutside f IsLock ((store_of g o).place name) →
    ((key : List ℕ) → (store_of g o).key name ≡ Some key → IsKeyInside f key → ⊥) →
    reading (store_of g o) (view_of T) name ≡ reading (store_of g o) (view_of before) name

-- the same folders with another namespace
abbrev pub with_namespace : Layout → List ℕ → Layout
with_namespace f namespace = record { git = f.git; common = f.common; namespace = namespace }

-- So each reference of another namespace of the same folders reads as before, where neither namespace begins with the other.
abbrev pub OtherNamespacesStay : Type 0
OtherNamespacesStay =
    (f : Layout) (other : List ℕ) (o : Options) (before T : Tree) → IsLayout f →
    IsLayout (with_namespace f other) →
    (BeginsWith other f.namespace → ⊥) → (BeginsWith f.namespace other → ⊥) →
    OutsideIsAsBefore f (store_of f o) IsLock before T →
    (name : List ℕ) → (store_of (with_namespace f other) o).is_reference name ≡ true →
    reading (store_of (with_namespace f other) o) (view_of T) name
    ≡ reading (store_of (with_namespace f other) o) (view_of before) name
