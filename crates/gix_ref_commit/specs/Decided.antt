-- What a commit has decided of `packed-refs`, and what of it is on the tree before its first write.
use Rattle.std.specs.Prelude.{◌≡◌, ◌≢◌, List, true, Option, Some, None, map}
use Rattle.std.specs.List.{list_any}
use Rattle.gix_ref_target.specs.PackedRecords.{Record}
use Rattle.gix_ref_files.specs.Files.{Meaning, disk_of, Leaves, FaultCounts, NoFewer}
use Rattle.gix_ref_files.specs.Lock.{lock_of}
use Rattle.gix_ref_files.specs.Tree.{Tree, Path, put}
use Rattle.gix_ref_files.specs.Tree.Content.{File}
use Rattle.gix_ref_lookup.specs.Lookups.{packed_refs_in, ArePackedRecords}
use Rattle.gix_ref_lookup.specs.declared.settings.Settings.{Settings}
use Rattle.gix_ref_packed_transaction.specs.Refusals.{IsCountedRefusal, IsReadFile, IsRefusedRewrite, IsRepackFault}
use Rattle.gix_ref_packed_transaction.specs.Repacks.{AllCanBePut, IsRepack, alters_record}
use Rattle.gix_ref_packed_transaction.specs.declared.error.Error.{Error}
use Rattle.gix_ref_packed_text.specs.declared.outcome.Rewrite.{Rewrite}
use Rattle.gix_ref_packed_text.specs.declared.outcome.Rewrite.TheVariants.{Text}
use Rattle.gix_ref_theory.specs.Between.{AreEdits}
use Rattle.gix_ref_theory.specs.Edits.{Mode}
use Rattle.gix_ref_transaction.specs.OwnLocks.{OnlyLocks}
use Rattle.gix_ref_transaction.specs.PackedCauses.{ids_among}
use Rattle.gix_ref_transaction.specs.Packing.{HaveTheirPuts, plan_edits}
use Rattle.gix_ref_transaction.specs.PrepareSteps.{setting_of, updates, ids_in, packed_places, AreEmpty, AreWholeLocks, FillsLock}
use Rattle.gix_ref_transaction.specs.declared.edit.Edit.{Edit}

-- a new text is in the lock of `packed-refs`, and nothing else has changed
abbrev pub IsFilled : Option Path → Rewrite → (before T : Tree) → Type 0
IsFilled (Some path) (Text text) before T = T ≡ put before (lock_of path) (Some (File text.items))
IsFilled packed rewrite before T = T ≡ before

-- nothing has changed but that some text is in that lock, where it is held
abbrev pub FillsPacked : Option Path → (before T : Tree) → Type 0
FillsPacked None before T = T ≡ before
FillsPacked (Some path) before T = FillsLock before (lock_of path) T

-- the lock of `packed-refs` is an empty file, where it is held
abbrev pub IsPackedLockEmpty : Option Path → Tree → Type 0
IsPackedLockEmpty packed T = AreEmpty T (map lock_of (packed_places packed))

-- What becomes of `packed-refs` by these edits, where its lock is held at this place.
pub record DecidesPacked (honest : Type 0) (settings : Settings) (packed : Option Path)
    (edits : List Edit) (old new : Meaning) (rewrite : Rewrite) : Type 0 where
  -- a well-formed one becomes that with what the edits put and without the records of deleted references, where no two edits have
  -- one place
  pub repacked :
      honest → (mode : Mode) → AreEdits (setting_of settings) (plan_edits edits) →
      (rs : List Record) → ArePackedRecords settings.kind (packed_refs_in settings old) rs →
      ids_in edits ≡ ids_among (setting_of settings) rs (updates edits) →
      HaveTheirPuts (setting_of settings) mode edits →
      AllCanBePut (setting_of settings) settings.kind edits → packed ≢ None →
      IsRepack (setting_of settings) mode settings.kind rs (plan_edits edits) rewrite
  -- of any, each line is a record where an edit alters a record
  pub whole : honest → packed ≢ None → list_any alters_record edits ≡ true →
      IsReadFile settings.kind (old.tree (setting_of settings).packed_path)
  -- a new text is in its lock, and no other file has changed
  pub filled : honest → IsPackedLockEmpty packed old.tree →
      IsFilled packed rewrite old.tree new.tree
  -- each lock whose text was synced has a synced one still, that of `packed-refs` too
  pub wholes : honest → IsPackedLockEmpty packed old.tree → (locks : List Path) →
      AreWholeLocks (disk_of old) locks → AreWholeLocks (disk_of new) locks

-- Why it could not be decided, where the count of faults was `before` and is `now`.
pub record LeavesUndecided (honest : Type 0) (settings : Settings) (edits : List Edit)
    (old : Meaning) (before now : FaultCounts) (error : Error) : Type 0 where
  -- of a well-formed one only a fault of files, or want of memory, where no two edits have one place
  pub sound : honest → AreEdits (setting_of settings) (plan_edits edits) →
      (rs : List Record) → ArePackedRecords settings.kind (packed_refs_in settings old) rs →
      IsRepackFault error
  -- of any, a line that is reported is no record
  pub refused : honest → IsRefusedRewrite settings.kind
      (old.tree (setting_of settings).packed_path) error
  -- a fault of files was counted
  pub counted : IsCountedRefusal before now error

-- Nothing is written but the lock of `packed-refs`, where that was empty.
pub record OnlyFillsPacked {F : Type 0} (honest : Type 0) (means : F → Meaning)
    (faults : F → FaultCounts) (packed : Option Path) (old new : F) : Type 0 where
  -- every stop leaves the tree as it was, except for some text in that lock
  pub leaves : honest → IsPackedLockEmpty packed (means old).tree →
      Leaves (means old) (means new) (FillsPacked packed (means old).tree)
  -- every disk that is found is as it was, except for that lock
  pub passes : honest → IsPackedLockEmpty packed (means old).tree →
      OnlyLocks (map lock_of (packed_places packed)) (means old) (means new)
  -- no fault is forgotten
  pub no_fewer : NoFewer (faults old) (faults new)
