-- A transaction that was committed to a store, and what is read, found and listed in the store then.
use Rattle.std.specs.Prelude.{◌≡◌, ℕ, List, true, Option, Result, Vec, IfOk, codes, length}
use Rattle.gix_ref_lookup.specs.Lookups.{IsFaultOf}
use Rattle.gix_ref_files.specs.declared.files.FileError.{FileError}
use Rattle.std.specs.declared.alloc.Global.{Global}
use Rattle.std.specs.List.{AllByRecursion}
use Rattle.gix_ref_hash.specs.Bytes.{BeginsWith}
use Rattle.gix_ref_files.specs.Disk.{Lost}
use Rattle.gix_ref_files.specs.Files.{Meaning, Leaves, Loses, HasRisenBy, FaultCounts}
use Rattle.gix_ref_files.specs.Tree.{Path, Tree}
use Rattle.gix_ref_files.specs.declared.files.ReadAt.{Ghosts}
use Rattle.gix_ref_theory.specs.OnRealTrees.{view_of}
use Rattle.gix_ref_theory.specs.Readings.{Reading, reading}
use Rattle.gix_ref_packed_text.specs.declared.raw.Reference.{Reference}
use Rattle.gix_ref_log.specs.declared.actor.SignatureRef.{SignatureRef}
use Rattle.gix_ref_edits.specs.declared.transaction.RefEdit.{RefEdit}
use Rattle.gix_ref_lookup.specs.declared.find.existing.Error.{Error as Missing}
use Rattle.gix_ref_listing.specs.declared.error.Error.{Error as ItemError}
use Rattle.gix_ref_listing.specs.declared.prefix.Error.{Error as PrefixError}
use Rattle.gix_ref_transaction.specs.CarriedEdits.{AreCarried}
use Rattle.gix_ref_hash.specs.declared.hash.ObjectId.{ObjectId}
use Rattle.gix_ref_object.specs.Objects.{Stored}
use Rattle.gix_ref_theory.specs.Edits.{Mode}
use Rattle.gix_ref_transaction.specs.CommittedEdits.{planned}
use Rattle.gix_ref_transaction.specs.OwnLocks.{is_in, paths_of}
use Rattle.gix_ref_transaction.specs.Packing.{OfFinder, ends_of, mode_in}
use Rattle.gix_ref_transaction.specs.PrepareSteps.{old_targets, updates}
use Rattle.gix_ref_transaction.specs.declared.edit.Edit.{Edit}
use Rattle.gix_ref_commit.specs.CommittedTrees.{AreCommitted}
use Rattle.gix_ref_commit.specs.declared.error.Error.{Error as CommitError}
use Rattle.gix_ref_store.specs.CommitLines.{LinesPass, extras_due}
use Rattle.gix_ref_store.specs.CommittedFolders.{KeepsFolders}
use Rattle.gix_ref_store.specs.CommitResult.{EveryLossFrom, EveryStopFrom, FailsFor, NoBadLineFrom, ReadsPacked}
use Rattle.gix_ref_store.specs.Lookup.{LooksUp, composes_in, settings_of, view_in}
use Rattle.gix_ref_store.specs.Prepared.{HasGoodRecords, IsAtRest, PreparesGiven, RefusesGiven, SplitsGiven, disk_in, locks_in, tree_of}
use Rattle.gix_ref_store.specs.Store.{files_of, folders, meaning_of}
use Rattle.gix_ref_store.specs.declared.file.store.Store.{Store}
use Rattle.gix_ref_store.specs.declared.file.transaction.outcome.Done.{Done}
use Rattle.gix_ref_transaction.specs.declared.packing.PackedRefs.{PackedRefs}
use Rattle.gix_ref_read_back.specs.EditedReadings.{IsAskedFirst, IsFoundAs, reading_after}
use Rattle.gix_ref_read_back.specs.FoundReferences.{FindsIn}
use Rattle.gix_ref_read_back.specs.ListedItems.{ListsIn}
use Rattle.gix_ref_read_back.specs.ListedReadings.{AreComposed, IsNoFolder, ListsReadings}
use Rattle.gix_ref_read_back.specs.Outside.{IsLock, IsOneOf, OutsideIsAsBefore}
use Rattle.gix_ref_read_back.specs.declared.error.Error.{Error}
use Rattle.gix_ref_read_back.specs.declared.error.Error.TheVariants.{Prepare, Commit}

module _ {F : Type 0} (honest : Type 0) (means : F → Meaning) (faults : F → FaultCounts) where
  -- what each reference of a store reads after these edits
  abbrev pub reads_after : Store F → List RefEdit → List ℕ → Reading
  reads_after old edits name = reading_after (meaning_of old) (view_in means old)
      (planned edits) name

  -- outside of the namespace of the store `old` all is in T as it was, except for the locks that are excepted
  abbrev pub IsSameOutside : Store F → (Excepted : Path → Type 0) → Tree → Type 0
  IsSameOutside old Excepted T = OutsideIsAsBefore (folders old) (meaning_of old) Excepted
      (tree_of means old) T

  -- and so at every stop between `old` and `new`, except for the locks of a transaction of these edits
  abbrev pub StopsOutside : Mode → (old new : Store F) → List RefEdit → Type 0
  StopsOutside mode old new edits = Leaves (means (files_of old)) (means (files_of new))
      (IsSameOutside old (IsOneOf (locks_in means mode old edits)))

  -- and after every loss of power meanwhile, except for locks
  abbrev pub LossesOutside : (old new : Store F) → Type 0
  LossesOutside old new = Loses (means (files_of old)) (means (files_of new))
      (IsSameOutside old IsLock)

  -- Edits that were committed in this mode: of the store `old` they made `new`, and these locks stay. They are the split list of
  -- those that were given, of the composed names where the store composes names; where it does not, and none follows a symbolic
  -- reference, they are the given ones. Where `packed-refs` was well formed or missing, it is so again, and each reference reads as
  -- edited.
  pub record ReadsEdited (mode : Mode) (old new : Store F) (given : List RefEdit)
      (left : List Path) : Type 0 where
    pub split : List RefEdit
    pub splits : SplitsGiven honest means faults old given split
    pub good : honest → HasGoodRecords means old → HasGoodRecords means new
    pub reads : honest → HasGoodRecords means old → (name : List ℕ) →
        (meaning_of old).is_reference name ≡ true →
        reading (meaning_of old) (view_in means new) name ≡ reads_after old split name
    pub named : (q : Path) → is_in left q ≡ true → IsLock q
    -- outside of the namespace all is as it was except for the locks that stay, and meanwhile except for those of the edits
    pub outside : honest → HasGoodRecords means old →
        IsSameOutside old (IsOneOf left) (tree_of means new)
    pub stops : honest → HasGoodRecords means old → StopsOutside mode old new split

  -- And what they did is there after every later loss of power: a store that was at rest before is at rest again, and in each tree
  -- that a loss of power leaves of its disk each reference reads as edited.
  pub record KeepsEdited (mode : Mode) (old new : Store F) (given : List RefEdit)
      (left : List Path) : Type 0 where
    pub made : ReadsEdited mode old new given left
    pub rests : honest → IsAtRest means old → IsAtRest means new
    pub kept : honest → HasGoodRecords means old → IsAtRest means old → (T : Tree) →
        Lost (disk_in means new) T → (name : List ℕ) → (meaning_of old).is_reference name ≡ true →
        reading (meaning_of old) (view_of T) name ≡ reads_after old made.split name
    -- and a loss of power meanwhile leaves all outside of the namespace
    pub losses : honest → HasGoodRecords means old → IsAtRest means old → LossesOutside old new

  -- a call of files failed with this fault from the store `start` to `new`, or a read of an open file did
  abbrev pub HasFault : {R : Type 0} (G : Ghosts R) → (start new : Store F) → FileError → Type 0
  HasFault G start new = IsFaultOf G.faults (faults (files_of start)) (faults (files_of new))

  -- And a lookup after them, in the store `start` that the commit left, says what every lookup says; and of a full name it finds
  -- what that reads as edited.
  pub record FindsEdited {R : Type 0} (G : Ghosts R) (mode : Mode) (old start new : Store F)
      (given : List RefEdit) (left : List Path) (name : List ℕ)
      (found : Result Reference Missing) : Type 0 where
    pub made : ReadsEdited mode old new given left
    pub lookup : FindsIn honest means faults G start new name found
    pub finds : honest → HasGoodRecords means old →
        IsAskedFirst (meaning_of old) (composes_in true old) name →
        IsFoundAs (meaning_of old) (view_in means new) name (HasFault G start new)
        (reads_after old made.split name) found

  -- What the items of a listing of the names with a prefix below `refs/` are, from the store `start` to `new`: just the names that
  -- read something as edited, each with its target, or why it is not given; unless a folder could not be listed. The files have
  -- composed names, where the store composes names.
  abbrev pub ListsNames : (old start new : Store F) → (split : List RefEdit) → (prefix : List ℕ) →
      List (Result Reference ItemError) → Type 0
  ListsNames old start new split prefix items =
      honest → HasGoodRecords means old → BeginsWith prefix (codes "refs/") →
      AreComposed (settings_of old) (view_in means new) → AllByRecursion IsNoFolder items →
      ListsReadings (meaning_of old) (reads_after old split) (faults (files_of start))
      (faults (files_of new)) prefix items

  -- And a listing after them, in the store `start` that the commit left, says what every listing says; and it gives the edited
  -- references.
  pub record ListsEdited {R : Type 0} (G : Ghosts R) (mode : Mode) (old start new : Store F)
      (given : List RefEdit) (left : List Path) (prefix : List ℕ)
      (items : Result (Vec (Result Reference ItemError) Global) PrefixError) : Type 0 where
    pub made : ReadsEdited mode old new given left
    pub listing : ListsIn honest means faults G start new prefix items
    pub changes : LooksUp honest means start new
    pub lists : IfOk items (λ all. ListsNames old start new made.split prefix all.items)

-- of a transaction that does with `packed-refs` as `uses` says, with a finder of objects, if there is one
module _ {F T : Type 0} (honest : Type 0) (means : F → Meaning) (faults : F → FaultCounts)
    (claims : T → Type 0) (meaning : T → ObjectId → Stored) (uses : PackedRefs T) where
  -- these edits are prepared
  abbrev pub Prepares : (old mid : Store F) → List RefEdit → Option Path → List Edit → Type 0
  Prepares old mid given packed held = PreparesGiven honest means faults
      (OfFinder claims uses) (ends_of meaning uses) (mode_in uses) old mid given packed held

  -- A commit of edits that were prepared, and what it returned: the edits as they were prepared, each with what was found of it in
  -- the files before, and `uses`. Of the files before it made the edited ones, and each log gained the line that is due by them, or
  -- none; each due line could be made. No folder is gone but those in the way of a write and those above what was removed; where a
  -- record was put or removed each line of `packed-refs` is one; and for each lock that stays a call of files failed. At every stop
  -- on the way, and after every loss of power, each reference reads as before or as edited; and where loose files are kept no
  -- deletion shows first, and updates show in order.
  pub record HasCommitted (old new : Store F) (committer : Option SignatureRef)
      (given : List RefEdit) (done : Done T) : Type 0 where
    pub mid : Store F
    pub packed : Option Path
    pub held : List Edit
    pub prepared : Prepares old mid given packed held
    pub edits : done.edits.items ≡ updates held
    pub handed_back : done.packed_refs ≡ uses
    pub carried : honest → HasGoodRecords means old → AreCarried prepared.split
        (old_targets (meaning_of old) (tree_of means old) prepared.split) done.edits.items
    pub committed : honest → HasGoodRecords means old →
        AreCommitted (meaning_of old) (mode_in uses) prepared.split
        (extras_due means old committer held)
        (tree_of means old) (paths_of done.locks_left.items) (tree_of means new)
    pub passed : LinesPass honest means mid committer held
    pub folders : KeepsFolders honest means faults mid new committer packed held
    pub read : ReadsPacked honest means faults mid packed held
    pub named : HasRisenBy (length (paths_of done.locks_left.items)) (faults (files_of mid))
        (faults (files_of new))
    pub stops : EveryStopFrom honest means faults mid new committer packed held
        (paths_of done.locks_left.items)
    pub lost : EveryLossFrom honest means faults mid new committer packed held

  -- What `make` says of edits that it committed: both are of one split list.
  pub record MakesEdited (old new : Store F) (committer : Option SignatureRef)
      (given : List RefEdit) (done : Done T) : Type 0 where
    pub kept : KeepsEdited honest means faults (mode_in uses) old new given
        (paths_of done.locks_left.items)
    pub commits : HasCommitted old new committer given done
    pub same : kept.made.split ≡ commits.prepared.split

  -- and then a lookup, in the store that the commit left
  abbrev pub FindsAfter : {R : Type 0} (G : Ghosts R) → (old new : Store F) →
      Option SignatureRef → List RefEdit → Done T → List ℕ → Result Reference Missing → Type 0
  FindsAfter G old new committer given done name found =
      (start : Store F) × MakesEdited old start committer given done
      × FindsEdited honest means faults G (mode_in uses) old start new given
      (paths_of done.locks_left.items) name found

  -- or a listing
  abbrev pub ListsAfter : {R : Type 0} (G : Ghosts R) → (old new : Store F) →
      Option SignatureRef → List RefEdit → Done T → (prefix : List ℕ) →
      Result (Vec (Result Reference ItemError) Global) PrefixError → Type 0
  ListsAfter G old new committer given done prefix items =
      (start : Store F) × MakesEdited old start committer given done
      × ListsEdited honest means faults G (mode_in uses) old start new given
      (paths_of done.locks_left.items) prefix items

  -- And both: the listing begins in the store that the lookup left.
  pub record ReadsAfter {R : Type 0} (G : Ghosts R) (old new : Store F)
      (committer : Option SignatureRef) (given : List RefEdit) (done : Done T)
      (name prefix : List ℕ) (found : Result Reference Missing)
      (items : Result (Vec (Result Reference ItemError) Global) PrefixError) : Type 0 where
    pub start : Store F
    pub mid : Store F
    pub made : MakesEdited old start committer given done
    pub finds : FindsEdited honest means faults G (mode_in uses) old start mid given
        (paths_of done.locks_left.items) name found
    pub lists : ListsEdited honest means faults G (mode_in uses) old mid new given
        (paths_of done.locks_left.items) prefix items

  -- A commit that failed of edits that were prepared, and the locks that stay. Stops and losses of power leave what they do where
  -- it succeeds.
  pub record HasFailed (old new : Store F) (committer : Option SignatureRef) (given : List RefEdit)
      (error : CommitError) (left : List Path) : Type 0 where
    pub mid : Store F
    pub packed : Option Path
    pub held : List Edit
    pub prepared : Prepares old mid given packed held
    pub fails : FailsFor honest means faults mid new committer packed held error
    pub sound : NoBadLineFrom honest means faults mid packed held error
    pub named : HasRisenBy (length left) (faults (files_of mid)) (faults (files_of new))
    pub stops : EveryStopFrom honest means faults mid new committer packed held left
    pub lost : EveryLossFrom honest means faults mid new committer packed held
    pub folders : KeepsFolders honest means faults mid new committer packed held
    -- outside of the namespace all is as it was, except for locks, at every stop and after every loss of power
    pub outside : honest → HasGoodRecords means old →
        StopsOutside honest means faults (mode_in uses) old new prepared.split
    pub losses : honest → HasGoodRecords means old → IsAtRest means old →
        LossesOutside honest means faults old new

  -- Why edits were not committed, and what is left then: they were refused, or their commit failed. `uses` is handed back.
  abbrev pub IsNotMade : (read : FileError → Type 0) → (old new : Store F) → Option SignatureRef →
      List RefEdit → Error T → Type 0
  IsNotMade read old new committer given (Prepare refused) =
      RefusesGiven honest read means faults (OfFinder claims uses)
      (ends_of meaning uses) (mode_in uses) old new given refused.error
      (paths_of refused.locks_left.items)
      × (refused.packed_refs ≡ uses)
  IsNotMade read old new committer given (Commit failed) =
      HasFailed old new committer given failed.error (paths_of failed.locks_left.items)
      × (failed.packed_refs ≡ uses)
