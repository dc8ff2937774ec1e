-- What `prepare` returns and leaves.
use Rattle.std.specs.Prelude.{◌≡◌, ◌≤◌, ◌⊎◌, List, [], true, false, Option, All, map, length}
use Rattle.gix_ref_files.specs.declared.files.FileError.{FileError}
use Rattle.gix_ref_target.specs.Targets.{TargetValue}
use Rattle.gix_ref_hash.specs.declared.hash.ObjectId.{ObjectId}
use Rattle.gix_ref_object.specs.Objects.{Stored}
use Rattle.gix_ref_files.specs.Tree.{Tree, Path, is_file}
use Rattle.gix_ref_files.specs.Disk.{Disk}
use Rattle.gix_ref_files.specs.Files.{Meaning, disk_of, Leaves, Passes, Loses, HasRisenBy, FaultCounts, NoFewer}
use Rattle.gix_ref_files.specs.Lock.{lock_of}
use Rattle.gix_ref_files.specs.Settled.{AllStay, IsAllSettled}
use Rattle.gix_ref_theory.specs.Edits.{Mode}
use Rattle.gix_ref_theory.specs.OnDisks.{IsSpokenOf, IsAsBefore}
use Rattle.gix_ref_theory.specs.OnRealTrees.{view_of}
use Rattle.gix_ref_theory.specs.Roots.{roots}
use Rattle.gix_ref_theory.specs.Views.{IsOwnLock}
use Rattle.gix_ref_lookup.specs.Lookups.{IsOpenable}
use Rattle.gix_ref_transaction.specs.OwnLocks.{is_in, paths_of, times, AddsLocks, RemovesLocks, OnlyRemoves}
use Rattle.gix_ref_transaction.specs.Causes.{AllValid, AreRecordIds, IsAccepted, IsCountedWith, IsDoubling, IsFindCause, IsIoOrMemory, IsPackedRefusal, IsPackedWell, names_of, packed_taken}
use Rattle.gix_ref_store.specs.Store.{files_of, kind_of, folders, meaning_of, IsSameStore}
use Rattle.gix_ref_transaction.specs.PrepareSteps.{AreEmpty, AreLockable, AreWholeLocks, effects_of, effects_on, HoldTexts, ids_in, packed_ids, IsPackedPlace, old_targets, own_locks, own_places, packed_places, place_paths, places_of, possible_locks, targets_of, updates, files_at, seen_files}
use Rattle.gix_ref_transaction.specs.CarriedEdits.{AreCarried}
use Rattle.gix_ref_transaction.specs.Packing.{ends_of, mode_in, HaveTheirPuts, OfFinder}
use Rattle.gix_ref_transaction.specs.declared.packing.PackedRefs.{PackedRefs}
use Rattle.gix_ref_transaction.specs.declared.release.Failure.{Failure}
use Rattle.gix_ref_transaction.specs.Peels.{ArePut, IsLockCause}
use Rattle.gix_ref_packed_transaction.specs.Repacks.{AllCanBePut}
use Rattle.gix_ref_transaction.specs.Parents.{parents_in, split_parents}
use Rattle.gix_ref_transaction.specs.Splits.{all_rounds, AreDirect, AreSplit, CanFollow, name_led_to, Refuses, values_of}
use Rattle.gix_ref_edits.specs.DoubledNames.{NoneDoubled}
use Rattle.gix_ref_edits.specs.RefEdits.{AreUpdates}
use Rattle.gix_ref_edits.specs.declared.transaction.RefEdit.{RefEdit}
use Rattle.gix_ref_store.specs.declared.file.store.Store.{Store}
use Rattle.gix_ref_store.specs.declared.file.transaction.outcome.Refused.{Refused}
use Rattle.gix_ref_transaction.specs.declared.edit.Edit.{Edit}
use Rattle.gix_ref_transaction.specs.declared.prepare.error.Error.{Error}
use Rattle.gix_ref_transaction.specs.declared.prepare.error.Error.TheVariants.{Memory}
use Rattle.gix_ref_store.specs.ComposedEdits.{AreAskedAs}

module _ {F : Type 0} (means : F → Meaning) where
  -- the tree of a store
  abbrev pub tree_of : Store F → Tree
  tree_of store = (means (files_of store)).tree

  -- its disk
  abbrev pub disk_in : Store F → Disk
  disk_in store = disk_of (means (files_of store))

  -- the locks of a transaction that begins with a store, and their places
  abbrev pub locks_in : Mode → Store F → List RefEdit → List Path
  locks_in mode store edits = own_locks (meaning_of store) mode (tree_of store) edits

  abbrev pub places_in : Mode → Store F → List RefEdit → List Path
  places_in mode store edits = own_places (meaning_of store) mode (tree_of store) edits

  -- its `packed-refs` is well formed, or there is none
  abbrev pub HasGoodRecords : Store F → Type 0
  HasGoodRecords store = IsPackedWell (kind_of store)
      (view_of (tree_of store) (meaning_of store).packed_path)

  -- Nothing of a store is unsynced but locks, and folders that hold no other file; and the git folder, the common folder and those
  -- above them stay after every loss of power.
  abbrev pub IsAtRest : Store F → Type 0
  IsAtRest store = IsAllSettled (disk_in store) × AllStay (disk_in store) (roots (folders store))

  -- from the store `old` to `new`, every disk that is found is as that of `old` except for the locks of these places
  abbrev pub KeepsAllBut : (old new : Store F) (places : List Path) → Type 0
  KeepsAllBut old new places =
      (staying : List Path) → AllStay (disk_in old) staying →
      Passes (means (files_of old)) (means (files_of new)) (IsAsBefore places staying (disk_in old))

  -- and except for the locks of a transaction of these edits
  abbrev pub KeepsAll : Mode → (old new : Store F) → List RefEdit → Type 0
  KeepsAll mode old new edits = KeepsAllBut old new (places_in mode old edits)

  -- Every loss of power meanwhile leaves each file that was settled, except for the locks of these places; and all stays as settled as
  -- it was.
  pub record LosesNothingBut (old new : Store F) (places : List Path) : Type 0 where
    pub keeps : KeepsAllBut old new places
    pub loses : Loses (means (files_of old)) (means (files_of new))
        (λ T. (q : Path) → IsSpokenOf places (disk_in old) q →
        view_of T q ≡ view_of (tree_of old) q)

  -- and so except for the locks of a transaction of these edits
  abbrev pub LosesNothing : Mode → (old new : Store F) → List RefEdit → Type 0
  LosesNothing mode old new edits = LosesNothingBut old new (places_in mode old edits)

module _ {F : Type 0} (honest : Type 0) (read : FileError → Type 0) (means : F → Meaning)
    (faults : F → FaultCounts) (claims : Type 0) (meaning : ObjectId → Stored) (mode : Mode) where
  -- A refusal. Where `packed-refs` is well formed, its error is the first cause that applies; `Packed` is returned for a
  -- `packed-refs` that is refused, and `PackedFind` where the record of an edit is asked for and cannot be read; a fault of files
  -- was counted, by them or by a reader; all is as before except for the locks that are named, and folders
  -- that lead to locks; those that are named are locks of the edits, and one is named only where a fault came.
  pub record RefusesFrom (old new : Store F) (given : List RefEdit) (error : Error)
      (left : List Path) : Type 0 where
    -- the edits whose locks are tried: those of the split list, or as they are given, where there is none
    pub tried : List RefEdit
    pub split : honest → AreSplit (meaning_of old) (view_of (tree_of means old)) given tried
        ⊎ (tried ≡ given)
    pub direct : AreDirect given → tried ≡ given
    pub cause : honest → HasGoodRecords means old →
        Refuses claims meaning (meaning_of old) mode (kind_of old) (tree_of means old) given error
    pub opened : honest → IsPackedRefusal (kind_of old)
        (tree_of means old (meaning_of old).packed_path) error
    pub unread : honest → IsFindCause (meaning_of old) (kind_of old)
        (view_of (tree_of means old)) tried error
    pub counted : IsCountedWith honest read (faults (files_of old)) (faults (files_of new)) error
    pub as_before : honest → AddsLocks left (locks_in means mode old tried) (tree_of means old)
        (tree_of means new)
    pub ours : (q : Path) → is_in left q ≡ true →
        is_in (possible_locks (meaning_of old) tried) q ≡ true
    -- and each is named once: no more often than it is among the locks that the edits can have
    pub once : (q : Path) → times q left ≤ times q (possible_locks (meaning_of old) tried)
    pub named : HasRisenBy (length left) (faults (files_of old)) (faults (files_of new))
    pub leaves : honest → Leaves (means (files_of old)) (means (files_of new))
        (AddsLocks
        (locks_in means mode old tried) (locks_in means mode old tried) (tree_of means old))
    pub lost : honest → LosesNothing means mode old new tried
    pub same : IsSameStore old new

  -- A refusal of edits that are given: of the edits that are asked for, if there was memory for their names.
  pub record RefusesGiven (old new : Store F) (given : List RefEdit) (error : Error)
      (left : List Path) : Type 0 where
    pub asked : List RefEdit
    pub composed : AreAskedAs old.precompose_unicode given asked
        ⊎ ((error ≡ Memory) × (asked ≡ given))
    pub refuses : RefusesFrom old new asked error left

  -- A refusal of a split list: its locks could not be taken, or a name is doubled.
  pub record RefusesSplit (old new : Store F) (split : List RefEdit) (error : Error)
      (left : List Path) : Type 0 where
    pub cause : honest → HasGoodRecords means old → IsIoOrMemory error
        ⊎ (IsDoubling split error ⊎ (NoneDoubled (names_of split)
        × IsLockCause
        claims meaning (meaning_of old) mode (kind_of old) (tree_of means old) split error))
    pub opened : honest → IsPackedRefusal (kind_of old)
        (tree_of means old (meaning_of old).packed_path) error
    pub unread : honest → IsFindCause (meaning_of old) (kind_of old)
        (view_of (tree_of means old)) split error
    pub counted : IsCountedWith honest read (faults (files_of old)) (faults (files_of new)) error
    pub as_before : honest → AddsLocks left (locks_in means mode old split) (tree_of means old)
        (tree_of means new)
    pub ours : (q : Path) → is_in left q ≡ true →
        is_in (possible_locks (meaning_of old) split) q ≡ true
    pub once : (q : Path) → times q left ≤ times q (possible_locks (meaning_of old) split)
    pub named : HasRisenBy (length left) (faults (files_of old)) (faults (files_of new))
    pub leaves : honest → Leaves (means (files_of old)) (means (files_of new))
        (AddsLocks
        (locks_in means mode old split) (locks_in means mode old split) (tree_of means old))
    pub same : IsSameStore old new

module _ {F : Type 0} (honest : Type 0) (means : F → Meaning) (faults : F → FaultCounts) where
  -- Locks that are held. Where `packed-refs` is well formed, no cause applies; this was found of each edit; each lock has its whole
  -- text. In any case each edit is valid by itself, its lock was free, and nothing else was added but folders that lead to locks.
  pub record HoldsFrom (mode : Mode) (old new : Store F) (edits : List RefEdit)
      (was : List (Option TargetValue)) : Type 0 where
    pub accepted : honest → HasGoodRecords means old →
        IsAccepted (meaning_of old) mode (kind_of old) (tree_of means old) edits
    pub found : honest → HasGoodRecords means old →
        was ≡ old_targets (meaning_of old) (tree_of means old) edits
    pub texts : honest → HasGoodRecords means old →
        HoldTexts (meaning_of old) mode (tree_of means old) (tree_of means new) edits
    -- `packed-refs` could be opened, whatever it holds
    pub opened : honest → IsOpenable (kind_of old)
        (view_of (tree_of means old) (meaning_of old).packed_path)
    pub valid : AllValid (meaning_of old) (kind_of old) [] edits
    pub lockable : honest → AreLockable (meaning_of old) (kind_of old) (tree_of means old) [] edits
    pub adds : honest → AddsLocks (locks_in means mode old edits) (locks_in means mode old edits)
        (tree_of means old) (tree_of means new)
    pub leaves : honest → Leaves (means (files_of old)) (means (files_of new))
        (AddsLocks
        (locks_in means mode old edits) (locks_in means mode old edits) (tree_of means old))
    pub no_fewer : NoFewer (faults (files_of old)) (faults (files_of new))
    pub same : IsSameStore old new

  -- The lock of `packed-refs` is held where it is due, and is empty.
  pub record HoldsPacked (mode : Mode) (old new : Store F) (edits : List RefEdit)
      (packed_place : Option Path) : Type 0 where
    pub place : IsPackedPlace (meaning_of old) packed_place
    pub due : honest → packed_places packed_place
        ≡ packed_taken (meaning_of old) mode (tree_of means old) edits
    pub empty : honest → AreEmpty (tree_of means new) (map lock_of (packed_places packed_place))

  -- A transaction whose split list is prepared: its locks are held, that of `packed-refs` too; its edits carry what was found, and
  -- are those of the list, with their places.
  pub record PreparesFrom
      (mode : Mode) (old new : Store F) (edits : List RefEdit) (packed_place : Option Path)
      (after : List Edit) : Type 0 where
    pub was : List (Option TargetValue)
    pub held : HoldsFrom mode old new edits was
    pub lost : honest → LosesNothing means mode old new edits
    -- each lock is whole: a loss of power once it is renamed leaves all of its text
    pub whole : honest → AreWholeLocks (disk_in means new) (locks_in means mode old edits)
    pub carried : AreCarried edits was (updates after)
    pub places : place_paths after ≡ places_of (meaning_of old) edits
    pub packed : HoldsPacked mode old new edits packed_place
    -- what becomes of each loose file is decided by the files before
    pub effects : honest → HasGoodRecords means old →
        effects_of after ≡ effects_on (meaning_of old) mode (view_of (tree_of means old)) edits
    -- whether there was one is by these too
    pub files : honest → HasGoodRecords means old →
        seen_files after ≡ files_at (meaning_of old) (tree_of means old) edits
    -- and the ids of their records are those of the files before
    pub ids : honest → HasGoodRecords means old →
        ids_in after ≡ packed_ids (meaning_of old) (tree_of means old) edits
    -- and on any `packed-refs` each record that is asked for was found, or not, by a search
    pub read : honest → AreRecordIds (meaning_of old) (kind_of old) (view_of (tree_of means old))
        edits (ids_in after)
    -- what each puts into `packed-refs` is by the mode, and can be read as a record
    pub puts : HaveTheirPuts (meaning_of old) mode after
    pub can_be_put : AllCanBePut (meaning_of old) (kind_of old) after

  -- What becomes of the edits that are given: their split list, in which each that was looked up may be, and which is theirs where
  -- none follows.
  pub record SplitsFrom (old : Store F) (given split : List RefEdit) : Type 0 where
    pub is : honest → AreSplit (meaning_of old) (view_of (tree_of means old)) given split
    pub can_follow : honest → All (CanFollow (meaning_of old))
        (all_rounds (meaning_of old) (view_of (tree_of means old)) given)
    pub valid : AllValid (meaning_of old) (kind_of old) [] given
    pub updates : AreUpdates given → AreUpdates split
    pub direct : AreDirect given → split ≡ given

  -- What becomes of given edits: the split list of those that the store is asked for.
  pub record SplitsGiven (old : Store F) (given split : List RefEdit) : Type 0 where
    pub asked : List RefEdit
    pub composed : AreAskedAs old.precompose_unicode given asked
    pub from : SplitsFrom old asked split

  -- each edit has the place of the one that it was split from
  abbrev pub HaveParents : Store F → (asked : List RefEdit) → List Edit → Type 0
  HaveParents old asked edits = parents_in edits
      ≡ split_parents (name_led_to (meaning_of old) (view_of (tree_of means old))) (values_of asked)

  -- The edits of a split list as they are held: each with what was found of it, its place, what becomes of its loose file, the id
  -- of its record, and what it puts into `packed-refs`, whose lock is held where it is due.
  pub record HoldsSplit (claims : Type 0) (meaning : ObjectId → Stored) (mode : Mode)
      (old new : Store F) (split : List RefEdit) (packed_place : Option Path)
      (edits : List Edit) : Type 0 where
    pub held : HoldsFrom mode old new split (targets_of edits)
    pub lost : honest → LosesNothing means mode old new split
    pub whole : honest → AreWholeLocks (disk_in means new) (locks_in means mode old split)
    pub packed : HoldsPacked mode old new split packed_place
    pub places : place_paths edits ≡ places_of (meaning_of old) split
    pub effects : honest → HasGoodRecords means old →
        effects_of edits ≡ effects_on (meaning_of old) mode (view_of (tree_of means old)) split
    pub files : honest → HasGoodRecords means old →
        seen_files edits ≡ files_at (meaning_of old) (tree_of means old) split
    pub ids : honest → HasGoodRecords means old →
        ids_in edits ≡ packed_ids (meaning_of old) (tree_of means old) split
    pub read : honest → AreRecordIds (meaning_of old) (kind_of old) (view_of (tree_of means old))
        split (ids_in edits)
    pub put : ArePut claims meaning (meaning_of old) mode (kind_of old) edits

  -- The edits of the split list of given edits, held, each with its parent.
  pub record HoldsGiven (claims : Type 0) (meaning : ObjectId → Stored) (mode : Mode)
      (old new : Store F) (given : List RefEdit) (packed_place : Option Path)
      (edits : List Edit) : Type 0 where
    pub splits : SplitsGiven old given (updates edits)
    pub parents : honest → HaveParents old splits.asked edits
    pub from : HoldsSplit claims meaning mode old new (updates edits) packed_place edits

  -- A transaction that is prepared from given edits: their split list is.
  pub record PreparesGiven (claims : Type 0) (meaning : ObjectId → Stored) (mode : Mode)
      (old new : Store F) (given : List RefEdit) (packed : Option Path)
      (after : List Edit) : Type 0 where
    pub split : List RefEdit
    pub splits : SplitsGiven old given split
    pub prepared : PreparesFrom mode old new split packed after
    pub parents : honest → HaveParents old splits.asked after
    -- and what is put has the objects at the end of tags, if the finder claims what it has
    pub put : ArePut claims meaning (meaning_of old) mode (kind_of old) after

  -- A transaction that is given up: of its locks only those stay that are named, and one is named only where a fault came.
  pub record RollsBackFrom (old new : Store F) (locks left : List Path) : Type 0 where
    pub gone : honest → (q : Path) → is_in locks q ≡ true → is_in left q ≡ false →
        is_file (tree_of means new q) ≡ false
    pub ours : (q : Path) → is_in left q ≡ true → is_in locks q ≡ true
    -- and each is named once: no more often than it is held
    pub once : (q : Path) → times q left ≤ times q locks
    pub named : HasRisenBy (length left) (faults (files_of old)) (faults (files_of new))
    pub leaves : honest → Leaves (means (files_of old)) (means (files_of new))
        (RemovesLocks locks (tree_of means old))
    pub removes : honest → OnlyRemoves locks (means (files_of old)) (means (files_of new))
    -- every loss of power meanwhile leaves each file that was settled, except for these locks, whatever places they are the locks of
    pub lost : honest → (places : List Path) →
        ((q : Path) → is_in locks q ≡ true → IsOwnLock places q) →
        LosesNothingBut means old new places
    pub same : IsSameStore old new

-- The same, by the finder of objects that a use of `packed-refs` has.
module _ {F T : Type 0} (honest : Type 0) (means : F → Meaning) (faults : F → FaultCounts)
    (claims : T → Type 0) (meaning : T → ObjectId → Stored) (packed_refs : PackedRefs T) where
  abbrev pub HoldsSplitBy : (old new : Store F) → (split : List RefEdit) → Option Path →
      List Edit → Type 0
  HoldsSplitBy = HoldsSplit honest means faults (OfFinder claims packed_refs)
      (ends_of meaning packed_refs) (mode_in packed_refs)

  abbrev pub HoldsGivenBy : (old new : Store F) → (given : List RefEdit) → Option Path →
      List Edit → Type 0
  HoldsGivenBy = HoldsGiven honest means faults (OfFinder claims packed_refs)
      (ends_of meaning packed_refs) (mode_in packed_refs)

  abbrev pub PreparesBy : (old new : Store F) → (given : List RefEdit) → Option Path →
      List Edit → Type 0
  PreparesBy = PreparesGiven honest means faults (OfFinder claims packed_refs)
      (ends_of meaning packed_refs) (mode_in packed_refs)

  -- and so of failures, which name the locks that are left
  module _ (read : FileError → Type 0) (old new : Store F) (edits : List RefEdit)
      (failure : Failure Error) where
    abbrev pub SplitFails : Type 0
    SplitFails = RefusesSplit honest read means faults (OfFinder claims packed_refs)
        (ends_of meaning packed_refs) (mode_in packed_refs) old new edits failure.error
        (paths_of failure.locks_left.items)

    abbrev pub CheckedFail : Type 0
    CheckedFail = RefusesFrom honest read means faults (OfFinder claims packed_refs)
        (ends_of meaning packed_refs) (mode_in packed_refs) old new edits failure.error
        (paths_of failure.locks_left.items)

    abbrev pub GivenFail : Type 0
    GivenFail = RefusesGiven honest read means faults (OfFinder claims packed_refs)
        (ends_of meaning packed_refs) (mode_in packed_refs) old new edits failure.error
        (paths_of failure.locks_left.items)

  -- and of a refusal of `prepare`, which hands the finder back
  abbrev pub IsRefusedBy : (read : FileError → Type 0) → (old new : Store F) → List RefEdit →
      Refused T → Type 0
  IsRefusedBy read old new edits refused = RefusesGiven honest read means faults
      (OfFinder claims packed_refs) (ends_of meaning packed_refs) (mode_in packed_refs) old new
      edits refused.error (paths_of refused.locks_left.items)
      × (refused.packed_refs ≡ packed_refs)
