-- An update from its preparation to its commit, over any files.
use Rattle.std.specs.Prelude.{◌≡◌, ◌⊎◌, List, Option, Some, None, Result, Ok, Err, length}
use Rattle.gix_ref_files.specs.declared.files.FileError.{FileError}
use Rattle.gix_ref_files.specs.Tree.{Tree, Path}
use Rattle.gix_ref_files.specs.Disk.{Disk}
use Rattle.gix_ref_files.specs.Files.{Meaning, Loses, HasRisenBy, FaultCounts}
use Rattle.gix_ref_files.specs.Settled.{IsAllSettled}
use Rattle.gix_ref_theory.specs.Losses.{IsLostWell}
use Rattle.gix_ref_theory.specs.OnDisks.{IsSpokenOf}
use Rattle.gix_ref_theory.specs.OnRealTrees.{view_of}
use Rattle.gix_ref_log.specs.declared.actor.SignatureRef.{SignatureRef}
use Rattle.gix_ref_object.specs.contracts.object.NeverFind.TheImpl.{claims-value, meaning-value}
use Rattle.gix_ref_object.specs.declared.object.Never.{Never}
use Rattle.gix_ref_transaction.specs.Packing.{OfFinder, ends_of, mode_in}
use Rattle.gix_ref_transaction.specs.declared.packing.PackedRefs.{PackedRefs}
use Rattle.gix_ref_transaction.specs.OwnLocks.{AddsLocks}
use Rattle.gix_ref_transaction.specs.Splits.{AreSplit}
use Rattle.gix_ref_transaction.specs.declared.edit.Edit.{Edit}
use Rattle.gix_ref_store.specs.CommitLines.{LinesPass, extras_due}
use Rattle.gix_ref_store.specs.CommitResult.{CommitsFrom, EveryStopFrom, FailsFor, NoBadLineFrom}
use Rattle.gix_ref_store.specs.CommittedFolders.{KeepsFolders}
use Rattle.gix_ref_store.specs.Prepared.{PreparesGiven, RefusesGiven, HasGoodRecords, IsAtRest, tree_of, disk_in, locks_in, places_in}
use Rattle.gix_ref_store.specs.ComposedEdits.{AreAskedAs}
use Rattle.gix_ref_store.specs.Store.{files_of, meaning_of}
use Rattle.gix_ref_store.specs.declared.file.store.Store.{Store}
use Rattle.gix_ref_edits.specs.declared.transaction.RefEdit.{RefEdit}
use Rattle.gix_ref_store.specs.declared.file.transaction.outcome.Done.{Done}
use Rattle.gix_ref_store.specs.declared.file.transaction.outcome.Failed.{Failed}
use Rattle.gix_ref_commit.specs.CommittedTrees.{IsOldOrNew}
use Rattle.gix_ref_commit.specs.LogEffects.{with_extras}
use Rattle.gix_ref_commit.specs.declared.error.Error as commits
use Rattle.gix_ref_program.specs.declared.update.UpdateError.{UpdateError}
use Rattle.gix_ref_program.specs.declared.update.UpdateError.TheVariants.{Prepare, Commit}

-- why a commit did not do it, if it did not
abbrev pub error_of : {T : Type 0} → Result (Done T) (Failed T) → Option UpdateError
error_of (Ok done) = None
error_of (Err failed) = Some (Commit failed.error)

module _ {F : Type 0} (means : F → Meaning) where
  -- these are the edits whose locks are tried: the split list of those that are asked for, or these, where there is none; where
  -- there was no memory for composed names, they are those that are given
  abbrev pub AreTried : Store F → (edits tried : List RefEdit) → Type 0
  AreTried old edits tried =
      (asked : List RefEdit) × (AreAskedAs old.precompose_unicode edits asked ⊎ (asked ≡ edits))
      × (AreSplit (meaning_of old) (view_of (tree_of means old)) asked tried ⊎ (tried ≡ asked))

  -- where `packed-refs` is well formed and all is at rest, each loss of power from `old` to `new` leaves a tree that has P
  abbrev pub LosesFromRest : (old new : Store F) → (Tree → Type 0) → Type 0
  LosesFromRest old new P = HasGoodRecords means old → IsAtRest means old →
      Loses (means (files_of old)) (means (files_of new)) P

-- what an update does with `packed-refs` as `uses` says
module _ {F : Type 0} (honest : Type 0) (means : F → Meaning) (faults : F → FaultCounts)
    (uses : PackedRefs Never) where
  -- Edits that were prepared: their split list, with the store that this left and the edits as they are committed.
  pub record IsBegun (old : Store F) (edits : List RefEdit) : Type 0 where
    pub mid : Store F
    pub packed : Option Path
    pub held : List Edit
    pub prepared : PreparesGiven honest means faults (OfFinder claims-value.it uses)
        (ends_of meaning-value.it uses) (mode_in uses) old mid edits packed held

  -- A stop in an update: before its commit nothing is added but its locks and folders on the way to them; in it, where
  -- `packed-refs` was good, each reference reads as before or as edited.
  abbrev pub IsStopOf : Store F → Option SignatureRef → List RefEdit → Tree → Type 0
  IsStopOf old committer edits T =
      ((tried : List RefEdit) × AreTried means old edits tried
      × AddsLocks
      (locks_in means (mode_in uses) old tried) (locks_in means (mode_in uses) old tried)
      (tree_of means old) T)
      ⊎ ((b : IsBegun old edits)
      × (HasGoodRecords means old → IsOldOrNew (meaning_of old) (mode_in uses) b.prepared.split
      (extras_due means b.mid committer b.held) (tree_of means old) T))

  -- A loss of power in an update: before its commit each file that was settled is as before, except for the locks of the edits; in it
  -- each reference reads as before or as edited. The commit begins on a disk of which all is settled but locks.
  abbrev pub IsLossOf : Store F → Option SignatureRef → List RefEdit → Tree → Type 0
  IsLossOf old committer edits T =
      ((tried : List RefEdit) × AreTried means old edits tried
      × ((q : Path) → IsSpokenOf (places_in means (mode_in uses) old tried)
      (disk_in means old) q → view_of T q ≡ view_of (tree_of means old) q))
      ⊎ ((b : IsBegun old edits)
      × ((D : Disk) × IsAllSettled D × IsLostWell (meaning_of old) (mode_in uses)
      (places_in means (mode_in uses) old b.prepared.split) (with_extras b.prepared.split
      (extras_due means b.mid committer b.held)) D (tree_of means old) T))

  -- An update that was made: its edits were prepared and committed. Of the transaction's locks only those stay that are named, and
  -- one is named only where a fault came.
  pub record UpdateMade (old new : Store F) (committer : Option SignatureRef) (edits : List RefEdit)
      (left : List Path) : Type 0 where
    pub begun : IsBegun old edits
    pub commits : CommitsFrom honest means faults begun.mid new committer begun.packed
        begun.held left
    -- no due line was passed over, and no folder is gone but those in the way of what was written, and those above what was deleted
    pub lines : LinesPass honest means begun.mid committer begun.held
    pub folders : KeepsFolders honest means faults begun.mid new committer begun.packed begun.held
    pub stops : EveryStopFrom honest means faults begun.mid new committer begun.packed
        begun.held left
    pub named : HasRisenBy (length left) (faults (files_of old)) (faults (files_of new))

  -- An update whose commit failed for this error; the locks that stay are as above.
  pub record UpdateFailed (old new : Store F) (committer : Option SignatureRef)
      (edits : List RefEdit) (error : commits.Error) (left : List Path) : Type 0 where
    pub begun : IsBegun old edits
    pub fails : FailsFor honest means faults begun.mid new committer begun.packed begun.held error
    pub sound : NoBadLineFrom honest means faults begun.mid begun.packed begun.held error
    pub folders : KeepsFolders honest means faults begun.mid new committer begun.packed begun.held
    pub stops : EveryStopFrom honest means faults begun.mid new committer begun.packed
        begun.held left
    pub named : HasRisenBy (length left) (faults (files_of old)) (faults (files_of new))

  -- Why an update was not made, and the locks that stay: it was refused by the first cause against it, and all is as before except for
  -- these locks; or its commit failed.
  abbrev pub IsUpdateError : (read : FileError → Type 0) → (old new : Store F) →
      Option SignatureRef →
      List RefEdit → UpdateError → (left : List Path) → Type 0
  IsUpdateError read old new committer edits (Prepare error) left =
      RefusesGiven honest read means faults
      (OfFinder claims-value.it uses) (ends_of meaning-value.it uses) (mode_in uses)
      old new edits error left
  IsUpdateError read old new committer edits (Commit error) left =
      UpdateFailed old new committer edits error left
