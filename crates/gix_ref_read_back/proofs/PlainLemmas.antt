-- Stops and losses of power leave what the plain promise says.
use Rattle.std.proofs.Common.{◌≡◌, ◌≢◌, inl, inr, ⊎_elim, ℕ, true, false, List, refl, ◌∙◌, ap, subst, arith, Option, if◌then◌else◌}
use Rattle.gix_ref_files.specs.Disk.{Disk, Lost}
use Rattle.gix_ref_files.specs.Files.{Meaning, FaultCounts, Leaves, Loses, StopsLeave, LossesLeave, disk_of, left_since, lost_since}
use Rattle.gix_ref_files.specs.Lock.{lock_of}
use Rattle.gix_ref_files.specs.Tree.{Path, Tree, file_of}
use Rattle.gix_ref_files.proofs.Moments.{joins, loses_joins, loses_weaken, stops_leave, weaken}
use Rattle.gix_ref_theory.specs.Edits.{Mode}
use Rattle.gix_ref_theory.specs.OnDisks.{IsSpokenOf}
use Rattle.gix_ref_theory.specs.OnRealTrees.{view_of}
use Rattle.gix_ref_theory.specs.Readings.{Store as Places, HasLaws, reading, reading_by, records_of_file}
use Rattle.gix_ref_theory.specs.Readings.Reading.{Fault}
use Rattle.gix_ref_theory.specs.Views.{View}
use Rattle.gix_ref_theory.proofs.OnDisks.{own_is_lock}
use Rattle.gix_ref_theory.proofs.PlaceLaws.{laws_hold}
use Rattle.gix_ref_log.specs.declared.actor.SignatureRef.{SignatureRef}
use Rattle.gix_ref_edits.specs.declared.transaction.RefEdit.{RefEdit}
use Rattle.gix_ref_hash.specs.declared.hash.ObjectId.{ObjectId}
use Rattle.gix_ref_object.specs.Objects.{Stored}
use Rattle.gix_ref_lookup.specs.StoreLayout.{git_options}
use Rattle.gix_ref_lookup.proofs.Laying.{folders_laid}
use Rattle.gix_ref_transaction.specs.OwnLocks.{is_in, AddsLocks}
use Rattle.gix_ref_transaction.specs.declared.edit.Edit.{Edit}
use Rattle.gix_ref_transaction.proofs.Adds.{is_false, same_view}
use Rattle.gix_ref_transaction.proofs.LockRounds.{own_all}
use Rattle.gix_ref_store.specs.CommitLines.{extras_due}
use Rattle.gix_ref_store.specs.CommitResult.{EveryLossFrom, EveryStopFrom}
use Rattle.gix_ref_store.specs.Lookup.{view_in}
use Rattle.gix_ref_store.specs.Prepared.{HasGoodRecords, IsAtRest, LosesNothing, PreparesGiven, disk_in, locks_in, places_in, tree_of}
use Rattle.gix_ref_store.specs.Store.{files_of, folders, kind_of, meaning_of}
use Rattle.gix_ref_store.specs.declared.file.store.Store.{Store}
use Rattle.gix_ref_read_back.specs.PlainPromises.{EachReadsOldOrNew, ReadsAsItDid}
use Rattle.gix_ref_read_back.proofs.Committed.{lost_reading, without_lines}

-- what a reference reads depends on the file at its place and on `packed-refs`
two_files : (s : Places) (v w : View) (name : List ℕ) → w (s.place name) ≡ v (s.place name) → w s.packed_path ≡ v s.packed_path → reading s w name ≡ reading s v name
two_files s v w name place packed =
    ap (λ (file : Option (List ℕ)). if s.is_prohibited (s.place name) then Fault else reading_by s (s.key name) file (records_of_file s (w s.packed_path))) place
    ∙ ap (λ (file : Option (List ℕ)). if s.is_prohibited (s.place name) then Fault else reading_by s (s.key name) (v (s.place name)) (records_of_file s file)) packed

-- what a loss of power at any moment since old could have left, where since old no other disk was found than that of old
losses_leave : {old new : Meaning} {P : Tree → Type 0} → Loses old new P → ((T : Tree) → Lost (disk_of old) T → P T) → ((D : Disk) → old.found_since old.moment D → D ≡ disk_of old) → LossesLeave old new P
unfolding lost_since
losses_leave {old = old} run here only T left =
    ⊎_elim (λ past. here T (subst (λ (D : Disk). Lost D T) (only past.0 past.1) past.2)) (λ p. p) (run.since old.moment T (omega arith) left)

module _ {F : Type 0} (honest : Type 0) (means : F → Meaning) (faults : F → FaultCounts) where
  -- before a commit: nothing is added but locks of these edits
  module _ (mode : Mode) (old : Store F) (edits : List RefEdit) where
    abbrev s : Places
    s = meaning_of old

    laws : HasLaws s
    laws = laws_hold (folders old) (git_options (kind_of old) old.prohibit_windows_device_names) (folders_laid old.dirs old.namespace)

    no_own : (q : Path) → ((p : Path) → q ≢ lock_of p) → is_in (locks_in means mode old edits) q ≡ false
    no_own q no_lock = is_false (is_in (locks_in means mode old edits) q)
        (λ within. let l = own_is_lock (places_in means mode old edits) q (own_all s mode (tree_of means old) edits q within) in no_lock l.0 l.1)

    locking_reads : (T : Tree) → AddsLocks (locks_in means mode old edits) (locks_in means mode old edits) (tree_of means old) T → (name : List ℕ) → s.is_reference name ≡ true → ReadsAsItDid honest means faults old T name
    locking_reads T adds name is =
        two_files s (view_in means old) (view_of T) name
        (same_view file_of refl (locks_in means mode old edits) (locks_in means mode old edits) (tree_of means old) T (s.place name) adds (no_own (s.place name) (λ p. laws.place_is_no_lock name p is)))
        (same_view file_of refl (locks_in means mode old edits) (locks_in means mode old edits) (tree_of means old) T s.packed_path adds (no_own s.packed_path (λ p. laws.packed_is_no_lock p)))

    module _ (at_rest : IsAtRest means old) where
      spoken_reads : (T : Tree) → ((q : Path) → IsSpokenOf (places_in means mode old edits) (disk_in means old) q → view_of T q ≡ view_of (tree_of means old) q) → (name : List ℕ) → s.is_reference name ≡ true → ReadsAsItDid honest means faults old T name
      spoken_reads T spoken name is = two_files s (view_in means old) (view_of T) name (still (s.place name) (λ p. laws.place_is_no_lock name p is)) (still s.packed_path (λ p. laws.packed_is_no_lock p))
        where
          still : (q : Path) → ((p : Path) → q ≢ lock_of p) → view_of T q ≡ view_of (tree_of means old) q
          still q no_lock = spoken q (λ own. let l = own_is_lock (places_in means mode old edits) q own in no_lock l.0 l.1, at_rest.0 q no_lock)

      resting_reads : (T : Tree) → Lost (disk_in means old) T → (name : List ℕ) → s.is_reference name ≡ true → ReadsAsItDid honest means faults old T name
      resting_reads T lost name is = lost_reading s laws (disk_in means old) T at_rest.0 lost name is

  -- a run from the store that it began with
  pub stops_plain : (old new : Store F) (given : List RefEdit) → Leaves (means (files_of old)) (means (files_of new)) (EachReadsOldOrNew honest means faults old given) →
      ((T : Tree) → left_since (means (files_of old)) (means (files_of old)).moment T → T ≡ (means (files_of old)).tree) →
      StopsLeave (means (files_of old)) (means (files_of new)) (EachReadsOldOrNew honest means faults old given)
  stops_plain old new given run only = stops_leave run (inl (λ name is. refl)) only

  pub losses_plain : (mode : Mode) (old new : Store F) (given : List RefEdit) → IsAtRest means old → Loses (means (files_of old)) (means (files_of new)) (EachReadsOldOrNew honest means faults old given) →
      ((D : Disk) → (means (files_of old)).found_since (means (files_of old)).moment D → D ≡ disk_of (means (files_of old))) →
      LossesLeave (means (files_of old)) (means (files_of new)) (EachReadsOldOrNew honest means faults old given)
  losses_plain mode old new given at_rest run only = losses_leave run (λ T lost. inl (resting_reads mode old given at_rest T lost)) only

  -- a refusal
  module _ (mode : Mode) (old new : Store F) (given tried : List RefEdit) where
    pub refused_stops : Leaves (means (files_of old)) (means (files_of new)) (AddsLocks (locks_in means mode old tried) (locks_in means mode old tried) (tree_of means old)) →
        Leaves (means (files_of old)) (means (files_of new)) (EachReadsOldOrNew honest means faults old given)
    refused_stops leaves = weaken leaves (λ T adds. inl (locking_reads mode old tried T adds))

    pub refused_losses : IsAtRest means old → LosesNothing means mode old new tried → Loses (means (files_of old)) (means (files_of new)) (EachReadsOldOrNew honest means faults old given)
    refused_losses at_rest lost = loses_weaken lost.loses (λ T spoken. inl (spoken_reads mode old tried at_rest T spoken))

  -- edits that were prepared, whose commit succeeded or not
  module _ (claims : Type 0) (meaning : ObjectId → Stored) (mode : Mode) (old mid new : Store F) (given : List RefEdit) (committer : Option SignatureRef) (packed : Option Path) (held : List Edit) (left : List Path)
      (from : PreparesGiven honest means faults claims meaning mode old mid given packed held) where
    pub made_stops : EveryStopFrom honest means faults mid new committer packed held left → honest → HasGoodRecords means old → Leaves (means (files_of old)) (means (files_of new)) (EachReadsOldOrNew honest means faults old given)
    made_stops stops h good = joins
        (weaken (from.prepared.held.leaves h) (λ T adds. inl (locking_reads mode old from.split T adds)))
        (weaken ((stops old mode from.split from.prepared).leaves h)
        (λ T well. inr (
          from.split,
          from.splits,
          λ name is. ⊎_elim (λ same. inl same)
              (λ edited. inr (edited ∙ without_lines (meaning_of old) from.split (extras_due means mid committer held) name (reading (meaning_of old) (view_in means old) name)))
              ((well good).between.readings name is),
        )))

    pub made_losses : EveryLossFrom honest means faults mid new committer packed held → honest → HasGoodRecords means old → IsAtRest means old → Loses (means (files_of old)) (means (files_of new)) (EachReadsOldOrNew honest means faults old given)
    made_losses lost h good at_rest = loses_joins
        (loses_weaken (from.prepared.lost h).loses (λ T spoken. inl (spoken_reads mode old from.split at_rest T spoken)))
        (loses_weaken (lost old mode from.split from.prepared h good at_rest).loses
        (λ T well. inr (
          from.split,
          from.splits,
          λ name is. ⊎_elim (λ same. inl same)
              (λ edited. inr (edited ∙ without_lines (meaning_of old) from.split (extras_due means mid committer held) name (reading (meaning_of old) (view_in means old) name)))
              (well.between.readings name is),
        )))
