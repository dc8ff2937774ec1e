-- What a commit leaves whose planned steps are run, and whose other locks are then removed.
use Rattle.std.proofs.lemmas.Bool.{true≢false}
use Rattle.std.proofs.Common.{◌≡◌, ◌≢◌, ⊎_elim, ℕ, List, [], ◌∷◌, ◌++◌, Bool, true, false, Option, Some, None, refl, sym, ◌∙◌, ap, subst}
use Rattle.std.specs.Prelude.{bytes_eq}
use Rattle.gix_ref_hash.specs.declared.hash.Kind.{Kind}
use Rattle.gix_ref_name.specs.declared.namespace.Namespace.{Namespace}
use Rattle.gix_ref_target.specs.PackedRecords.{Record}
use Rattle.gix_ref_files.specs.Tree.{Tree, Path, is_file}
use Rattle.gix_ref_files.specs.Disk.{Disk, Lost}
use Rattle.gix_ref_files.specs.Files.{Meaning, disk_of, Passes}
use Rattle.gix_ref_files.specs.Lock.{lock_of}
use Rattle.gix_ref_files.specs.Settled.{AllStay, IsAllSettled}
use Rattle.gix_ref_files.specs.Steps.{IsAfter, IsLeftBy, EndsBy}
use Rattle.gix_ref_files.specs.DiskSteps.{IsReachedBy, IsSyncedAfter}
use Rattle.gix_ref_files.specs.declared.files.FileError.{FileError}
use Rattle.gix_ref_files.specs.declared.steps.Cause.{Cause}
use Rattle.gix_ref_files.specs.declared.steps.Cause.TheVariants.{Sync}
use Rattle.gix_ref_files.proofs.Moments.{passes_joins, passes_weaken}
use Rattle.gix_ref_files.proofs.Between.{ended_is_begun}
use Rattle.gix_ref_theory.specs.Between.{IsEdit, IsPackedFile}
use Rattle.gix_ref_theory.specs.Edits.{Edit, Mode}
use Rattle.gix_ref_theory.specs.Losses.{IsLostWell}
use Rattle.gix_ref_theory.specs.OnDisks.{AreWhole, IsAsBefore, IsWithin, IsSpokenOf}
use Rattle.gix_ref_theory.specs.OnRealTrees.{view_of, file_of, IsCommitRun, IsOldOrNewTree}
use Rattle.gix_ref_theory.specs.Plan.{plan}
use Rattle.gix_ref_theory.specs.Readings.{Store}
use Rattle.gix_ref_theory.specs.Views.{View, Write, IsSameButLocks, after}
use Rattle.gix_ref_theory.proofs.Carrying.{after_alike, no_file}
use Rattle.gix_ref_theory.proofs.Headline as headline
use Rattle.gix_ref_theory.proofs.LockDisks.{as_before}
use Rattle.gix_ref_theory.proofs.Locks as locks
use Rattle.gix_ref_theory.proofs.LossMain.{every_loss_among}
use Rattle.gix_ref_theory.proofs.OnDisks as runs
use Rattle.gix_ref_theory.proofs.Plans.{edit_behind, edit_in_front}
use Rattle.gix_ref_theory.proofs.Trees as trees
use Rattle.gix_ref_lookup.specs.Lookups.{ArePackedRecords}
use Rattle.gix_ref_lookup.specs.declared.folders.Dirs.{Dirs}
use Rattle.gix_ref_packed_text.specs.declared.outcome.Rewrite.{Rewrite}
use Rattle.gix_ref_edits.specs.declared.transaction.RefEdit.{RefEdit}
use Rattle.gix_ref_transaction.specs.Causes.{IsPackedWell, locks_of}
use Rattle.gix_ref_transaction.specs.OwnLocks.{is_in, OnlyRemoves, RemovesLocks}
use Rattle.gix_ref_transaction.specs.PrepareSteps.{own_locks, own_places, packed_locks}
use Rattle.gix_ref_transaction.specs.declared.edit.Edit.{Edit as Own}
use Rattle.gix_ref_transaction.proofs.Adds.{any_cases, false_is_true, in_one, is_false}
use Rattle.gix_ref_transaction.proofs.CommitLosses.{are_whole, rest_kept}
use Rattle.gix_ref_transaction.proofs.LockRounds.{own_all, owned_all}
use Rattle.gix_ref_transaction.proofs.PackedLocks.{taken_was_free}
use Rattle.gix_ref_commit.specs.Entries.{Entry, planned_entries, bare, bare_steps, steps_in}
use Rattle.gix_ref_commit.specs.CommittedTrees.{AreCommitted}
use Rattle.gix_ref_commit.specs.LogEffects.{but_lines, extras_in, with_extras}
use Rattle.gix_ref_packed_transaction.specs.Repacks.{IsRepack}
use Rattle.gix_ref_commit.specs.Cleared.{commit_entries, folder_lists}
use Rattle.gix_ref_commit.specs.declared.folders.EmptyDirs.{EmptyDirs}
use Rattle.gix_ref_commit.proofs.Carries as carries
use Rattle.gix_ref_commit.proofs.Cleared as cleared
use Rattle.gix_ref_commit.proofs.Cleared.{EachOutside}
use Rattle.gix_ref_commit.proofs.Gone.{AllMiss, gone_after, gone_at, none_begun, none_is_no_file, miss_front, plan_misses}
use Rattle.gix_ref_commit.proofs.Held.{IsReady, AreHeld, held}
use Rattle.gix_ref_commit.proofs.OwnPlan.{own_plan}
use Rattle.gix_ref_commit.proofs.Placing as placing
use Rattle.gix_ref_commit.proofs.Placing.{IsLaid}
use Rattle.gix_ref_commit.proofs.Renamed.{HasRename, IsRenameOf}
use Rattle.gix_ref_commit.proofs.Runs as run
use Rattle.gix_ref_commit.proofs.Runs.{IsText}

module _ (dirs : Dirs) (namespace : Option Namespace) (kind : Kind) (prohibits : Bool) (mode : Mode) (before : Tree) (D : Disk) (given : List RefEdit) (ran : List Own) (packed : Option Path) (rewrite : Rewrite)
    (ways : List EmptyDirs) (out : EachOutside (placing.staying dirs namespace kind prohibits) (folder_lists ways)) (laid : IsLaid (placing.s dirs namespace kind prohibits) mode kind before D given ran packed) where
  abbrev s : Store
  s = placing.s dirs namespace kind prohibits

  abbrev staying : List Path
  staying = placing.staying dirs namespace kind prohibits

  abbrev locked : List Path
  locked = own_places s mode before given

  abbrev mine : List Path
  mine = own_locks s mode before given

  -- its edits, with the lines that logs gain, and the objects at the end of tags
  abbrev edits : List Edit
  edits = with_extras given (extras_in ran)

  abbrev all_entries : List Entry
  all_entries = commit_entries dirs ran packed rewrite ways

  abbrev texts : View
  texts = placing.texts dirs namespace kind prohibits mode before D given ran packed rewrite laid

  whole : AreWhole texts D
  whole = are_whole D mine laid.whole

  -- a lock that is removed changes no other file
  pub but_locks : (T U : Tree) → RemovesLocks mine T U → IsSameButLocks locked (view_of U) (view_of T)
  but_locks T U removes path other = ⊎_elim (λ same. ap file_of same) (λ gone. absurd (other (own_all s mode before given path gone.0))) (removes path)

  -- The whole run leaves all settled, whatever `packed-refs` holds.
  pub settles : (mid : Meaning) (E : Disk) → IsAllSettled D → AllStay D staying → IsSyncedAfter (steps_in all_entries) D (disk_of mid) →
      (IsAsBefore locked staying (disk_of mid) (disk_of mid) → IsAsBefore locked staying (disk_of mid) E) → IsAllSettled E × AllStay E staying
  settles mid E settled stays done then =
      let carry = carries.on_disks locked staying (IsSpokenOf locked D) (λ p own spoken. spoken.0 own) texts (steps_in all_entries) (own_plan (view_of D.tree) ran packed rewrite)
      (cleared.carries locked staying (folder_lists ways) (planned_entries dirs ran packed rewrite) out texts (own_plan (view_of D.tree) ran packed rewrite) (placing.carried dirs namespace kind prohibits mode before D given ran packed rewrite laid)) in
      let end = runs.settles locked staying texts (steps_in all_entries) (own_plan (view_of D.tree) ran packed rewrite) D (disk_of mid) stays whole settled carry done in
      rest_kept locked staying (disk_of mid) E end.0 (then (as_before locked staying (disk_of mid) end.1))

  -- Locks that were renamed are gone.
  misses : (q : Path) → AllMiss (lock_of q) all_entries
  misses q = cleared.cleared_miss (lock_of q) (folder_lists ways) (planned_entries dirs ran packed rewrite)
      (plan_misses locked staying dirs q ran packed rewrite (placing.are_placed dirs namespace kind prohibits mode before D given ran packed rewrite laid) (placing.packed_placed dirs namespace kind prohibits mode before D given ran packed rewrite laid))

  no_file_after : (T U : Tree) (q : Path) → RemovesLocks mine T U → is_file (T q) ≡ false → is_file (U q) ≡ false
  no_file_after T U q removes none = ⊎_elim (λ same. ap is_file same ∙ none) (λ gone. ap is_file gone.1) (removes q)

  -- after the whole run
  pub all_gone : (q : Path) (mid now : Tree) → HasRename (lock_of q) all_entries → IsAfter (bare_steps all_entries) D.tree mid → RemovesLocks mine mid now → is_file (now (lock_of q)) ≡ false
  all_gone q mid now renamed after removes =
      no_file_after mid now (lock_of q) removes (none_is_no_file (mid (lock_of q)) (gone_after (lock_of q) all_entries D.tree mid (misses q) renamed after))

  -- and after one that ended at a step
  pub cut_gone : (q : Path) (front : List Entry) (x : Entry) (rest : List Entry) (cause : Cause) (at mid now : Tree) → all_entries ≡ front ++ x ∷ rest → HasRename (lock_of q) front →
      IsAfter (bare_steps front) D.tree at → EndsBy (bare x.0) cause at mid → RemovesLocks mine mid now → is_file (now (lock_of q)) ≡ false
  cut_gone q front x rest cause at mid now cut renamed after ends removes =
      let parts = miss_front (lock_of q) front x rest (subst (AllMiss (lock_of q)) cut (misses q)) in
      no_file_after mid now (lock_of q) removes
      (none_is_no_file (mid (lock_of q)) (none_begun (lock_of q) (bare x.0) at mid parts.1 (ended_is_begun (bare x.0) cause at mid ends) (gone_after (lock_of q) front D.tree at parts.0 renamed after)))

  -- and after one that ended in a sync right after the rename itself
  pub synced_gone : (q : Path) (front : List Entry) (x : Entry) (rest : List Entry) (fault : FileError) (at mid now : Tree) → all_entries ≡ front ++ x ∷ rest → IsRenameOf (lock_of q) (bare x.0) →
      EndsBy (bare x.0) (Sync fault) at mid → RemovesLocks mine mid now → is_file (now (lock_of q)) ≡ false
  synced_gone q front x rest fault at mid now cut renames ends removes =
      let parts = miss_front (lock_of q) front x rest (subst (AllMiss (lock_of q)) cut (misses q)) in
      no_file_after mid now (lock_of q) removes (none_is_no_file (mid (lock_of q)) (gone_at (lock_of q) (bare x.0) at mid parts.1 renames ends.1))

  -- Where `packed-refs` was well formed.
  module _ (ready : IsReady s mode kind before D.tree given ran) (rs : List Record) (are : ArePackedRecords kind (view_of before s.packed_path) rs) (repack : packed ≢ None → IsRepack s mode kind rs (but_lines edits) rewrite)
      (text_held : (path : Path) (bytes : List ℕ) → packed ≡ Some path → IsText rewrite bytes → view_of D.tree (lock_of path) ≡ Some bytes) where
    abbrev it_runs : IsCommitRun s mode locked edits before D.tree (bare_steps all_entries)
    it_runs = run.run dirs namespace kind prohibits mode before D given ran packed rewrite ways out laid ready rs are repack text_held

    abbrev merged : List Record
    merged = run.merged dirs namespace kind prohibits mode before D given ran packed rewrite ways out laid ready rs are repack text_held

    abbrev pub all_writes : List Write
    all_writes = plan s mode (view_of D.tree) edits merged

    -- at every stop of the run
    pub stopped : (T : Tree) → IsLeftBy (bare_steps all_entries) D.tree T → IsOldOrNewTree s mode locked edits before T
    stopped T left = trees.left_well s (placing.laws dirs namespace kind prohibits) mode locked edits before D.tree T (bare_steps all_entries) it_runs left

    -- and after it, where nothing but own locks and folders changes
    pub left_then : (T U : Tree) → IsOldOrNewTree s mode locked edits before T → IsSameButLocks locked (view_of U) (view_of T) → IsOldOrNewTree s mode locked edits before U
    left_then T U well alike =
        let laws' = placing.laws dirs namespace kind prohibits in
        let apart = run.edits_are dirs namespace kind prohibits mode before D given ran packed rewrite ways out laid ready in record {
          between = locks.between s laws' mode locked (view_of before) edits apart (view_of T) (view_of U) alike well.between;
          no_deletion_first = λ keeps. locks.no_deletion_first s laws' mode locked (view_of before) edits apart (view_of T) (view_of U) alike (well.no_deletion_first keeps);
          in_order = λ keeps. locks.in_order s laws' mode locked (view_of before) edits apart (view_of T) (view_of U) alike (well.in_order keeps)
              (λ seen u later all. subst (IsEdit u) all (edit_behind seen u later))
              (λ x u seen later all he. subst (IsEdit x) all (edit_in_front x seen (u ∷ later) he));
        }

    free : (some : List RefEdit) (ps : List Own) → AreHeld s mode kind before D.tree some ps → (q : Path) → is_in (locks_of s some) q ≡ true → before q ≡ None
    free [] ps hold q within = false_is_true within
    free (e ∷ some) [] hold q within = absurd hold
    free (e ∷ some) (p ∷ ps) hold q within = ⊎_elim
        (λ here. subst (λ (l : Path). before l ≡ None) (in_one _ q here) hold.0.free)
        (λ later. free some ps hold.1 q later)
        (any_cases (λ r. bytes_eq r q) (locks_of s (e ∷ [])) (locks_of s some) within)

    all_free : (q : Path) → is_in mine q ≡ true → before q ≡ None
    all_free q within = ⊎_elim (λ taken. taken_was_free s mode before given ready.accepted.unlocked q taken) (λ own. free given ran (held s mode kind before D.tree given ran ready) q own)
        (any_cases (λ r. bytes_eq r q) (packed_locks s mode before given) (locks_of s given) within)

    -- the whole run commits
    pub commits : (mid now : Tree) (left : List Path) → IsAfter (bare_steps all_entries) D.tree mid → IsSameButLocks locked (view_of now) (view_of mid) →
        ((q : Path) → is_in mine q ≡ true → is_in left q ≡ false → is_file (now q) ≡ false) → AreCommitted s mode given (extras_in ran) before left now
    commits mid now left after alike gone staying' cover =
        headline.committed s (placing.laws dirs namespace kind prohibits) mode locked staying' edits merged (view_of before) (view_of D.tree) (view_of now) (run.prepared dirs namespace kind prohibits mode before D given ran packed rewrite ways out laid ready rs are repack text_held) (run.alike dirs namespace kind prohibits mode before D given ran packed rewrite ways out laid ready)
        (λ path other. alike path other
        ∙ after_alike locked (bare_steps all_entries) all_writes D.tree mid (view_of D.tree) (view_of D.tree) (record { at = λ q. refl }) (λ q m. refl) (run.on_tree dirs namespace kind prohibits mode before D given ran packed rewrite ways out laid ready rs are repack text_held) after path other)
        (λ path own out.
        let within = owned_all s mode before given path own in
        no_file (now path) (gone path within (is_false (is_in left path) (λ h. out (cover path h)))) ∙ sym (ap file_of (all_free path within)))

    -- and `packed-refs` is well formed again
    pub commits_good : (mid now : Tree) → IsAfter (bare_steps all_entries) D.tree mid → IsSameButLocks locked (view_of now) (view_of mid) → IsPackedWell kind (view_of now s.packed_path)
    commits_good mid now after alike =
        let done = commits mid now mine after alike (λ q inside out. absurd (true≢false (sym inside ∙ out))) locked (λ q within. own_all s mode before given q within) in
        run.good_again dirs namespace kind prohibits mode before D given ran packed rewrite ways out laid ready rs are repack text_held (view_of now s.packed_path)
        (subst (λ (f : Option (List ℕ)). IsPackedFile s mode edits f (view_of now s.packed_path)) (sym (run.same_packed dirs namespace kind prohibits mode before D given ran packed rewrite ways out laid ready)) done.packed)

    -- Losses of power on the way.
    pub lost_well : IsAllSettled D → (E : Disk) (T : Tree) → IsWithin (IsSpokenOf locked D) all_writes (view_of D.tree) E → Lost E T → IsLostWell s mode locked edits D before T
    lost_well settled E T within lost =
        every_loss_among s (placing.laws dirs namespace kind prohibits) mode locked edits merged before T D E settled (run.prepared dirs namespace kind prohibits mode before D given ran packed rewrite ways out laid ready rs are repack text_held) (run.alike dirs namespace kind prohibits mode before D given ran packed rewrite ways out laid ready) within lost

    pub within_run : (first mid now : Meaning) → disk_of first ≡ D → AllStay D staying → Passes first mid (IsReachedBy (steps_in all_entries) (disk_of first)) → OnlyRemoves mine mid now →
        Passes first now (IsWithin (IsSpokenOf locked D) all_writes (view_of D.tree))
    within_run first mid now is stays passes removes =
        let on = run.on_disk dirs namespace kind prohibits mode before D given ran packed rewrite ways out laid ready rs are repack text_held in
        let inside : Passes first mid (IsWithin (IsSpokenOf locked D) all_writes (view_of D.tree)) =
        passes_weaken passes (λ E reached. runs.within locked staying texts (steps_in all_entries) all_writes D E stays whole on (subst (λ (d : Disk). IsReachedBy (steps_in all_entries) d E) is reached)) in
        passes_joins inside (passes_weaken (removes locked [] all_writes D (λ q within. own_all s mode before given q within) (inside.disk, tt)) (λ E among. among.0))
