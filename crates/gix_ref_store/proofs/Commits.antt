-- A commit from the store before its `prepare`, from what it decides, what its steps leave, and the release of its locks.
use Rattle.std.proofs.Common.{◌≡◌, ◌≢◌, inl, inr, ⊎_elim, ◌⊎◌, ℕ, suc, ◌+◌, ◌<◌, ◌≤◌, List, [], ◌∷◌, ◌++◌, Bool, true, false, not, ◌&&◌, Option, Some, None, All, map, refl, sym, ◌∙◌, ap, subst, length, arith}
use Rattle.std.specs.Prelude.{nat_eq, bytes_eq, if◌then◌else◌, nat_lt}
use Rattle.std.proofs.lemmas.Bool.{eqb-true, eqb-false, ltb-true}
use Rattle.gix_ref_hash.specs.declared.hash.Kind.{Kind}
use Rattle.gix_ref_target.specs.Layout.{Layout}
use Rattle.gix_ref_target.specs.PackedRecords.{Record}
use Rattle.gix_ref_files.specs.Disk.{Disk, Lost}
use Rattle.gix_ref_files.specs.DiskSteps.{IsReachedBy, IsSyncedAfter}
use Rattle.gix_ref_files.specs.Files.{Meaning, disk_of, Leaves, Passes, FaultCounts}
use Rattle.gix_ref_files.specs.Lock.{lock_of}
use Rattle.gix_ref_files.specs.Settled.{AllStay, IsAllSettled}
use Rattle.gix_ref_files.specs.declared.files.FileError.{FileError}
use Rattle.gix_ref_files.specs.declared.steps.Cause.{Cause}
use Rattle.gix_ref_files.specs.declared.steps.Cause.TheVariants.{File as Fault, Sync, Unexpected, Asked}
use Rattle.gix_ref_files.specs.Steps.{IsAfter, IsLeftBy, MayBeSynced}
use Rattle.gix_ref_files.specs.Tree.{Tree, Path, Content, is_file, file_of, put}
use Rattle.gix_ref_files.specs.Tree.Content.{File}
use Rattle.gix_ref_files.proofs.Moments.{joins, losses, passes_joins, passes_weaken, weaken}
use Rattle.gix_ref_files.proofs.Puts.{put_at, put_other}
use Rattle.gix_ref_lookup.specs.StoreLayout.{folders_of, git_options}
use Rattle.gix_ref_lookup.specs.Lookups.{ArePackedRecords}
use Rattle.gix_ref_lookup.specs.declared.folders.Dirs.{Dirs}
use Rattle.gix_ref_lookup.proofs.Laying.{folders_laid}
use Rattle.gix_ref_name.specs.declared.namespace.Namespace.{Namespace}
use Rattle.gix_ref_packed_text.specs.declared.outcome.Rewrite.{Rewrite}
use Rattle.gix_ref_packed_text.specs.declared.outcome.Rewrite.TheVariants.{Unchanged, Removed, Text}
use Rattle.gix_ref_theory.specs.Between.{AreEdits}
use Rattle.gix_ref_theory.specs.ConcreteStore.{store_of}
use Rattle.gix_ref_theory.specs.Edits as plan
use Rattle.gix_ref_theory.specs.Edits.{Mode}
use Rattle.gix_ref_theory.specs.Losses.{IsLostWell}
use Rattle.gix_ref_theory.specs.OnDisks.{IsAsBefore, IsSpokenOf, IsWithin}
use Rattle.gix_ref_theory.specs.OnRealTrees.{view_of}
use Rattle.gix_ref_theory.specs.Readings as readings
use Rattle.gix_ref_theory.specs.Readings.{HasLaws}
use Rattle.gix_ref_theory.specs.Roots.{roots}
use Rattle.gix_ref_theory.specs.Views.{IsOwnLock, IsSameButLocks}
use Rattle.gix_ref_theory.proofs.LockDisks.{as_before}
use Rattle.gix_ref_theory.proofs.OnDisks.{own_is_lock}
use Rattle.gix_ref_theory.proofs.PlaceLaws.{laws_hold}
use Rattle.gix_ref_edits.specs.RefEdits.{name_of}
use Rattle.gix_ref_edits.specs.declared.transaction.RefEdit.{RefEdit}
use Rattle.gix_ref_transaction.specs.Causes.{IsPackedWell, locks_of}
use Rattle.gix_ref_transaction.specs.CommitRenames.{is_written_at, lock_at, place_at, stays_at}
use Rattle.gix_ref_transaction.specs.CommittedEdits.{planned}
use Rattle.gix_ref_transaction.specs.OwnLocks.{is_in, times, AddsLocks, IsOurs, OnlyLocks, OnlyRemoves, RemovesLocks}
use Rattle.gix_ref_transaction.specs.PackedCauses.{ids_among}
use Rattle.gix_ref_transaction.specs.Packing.{HaveTheirPuts, peeled_in, plan_edits}
use Rattle.gix_ref_transaction.specs.PrepareSteps.{AreWholeLocks, HoldTexts, held_locks, ids_in, lock_paths, packed_locks, packed_places, updates, IsPackedPlace}
use Rattle.gix_ref_transaction.specs.declared.edit.Edit.{Edit}
use Rattle.gix_ref_transaction.proofs.Adds.{any_cases, any_left, any_right, clash, either_way, in_here, in_one, is_false, is_same_path, same_path, same_view}
use Rattle.gix_ref_transaction.proofs.Apart.{references}
use Rattle.gix_ref_transaction.proofs.CommitLosses.{rest_kept}
use Rattle.gix_ref_transaction.proofs.LockRounds.{own_all}
use Rattle.gix_ref_transaction.proofs.PackedLemmas.{records_are}
use Rattle.gix_ref_transaction.proofs.PackedLocks.{taken_was_free}
use Rattle.gix_ref_transaction.proofs.Removing.{times_append, locks_by_places}
use Rattle.gix_ref_transaction.proofs.Renames.{lock_found}
use Rattle.gix_ref_packed_transaction.specs.Repacks.{AllCanBePut, IsRepack}
use Rattle.gix_ref_commit.specs.Cleared.{AllInWay, FoldersGo, LosesNoMore, OnlyFolders, commit_entries, folder_lists, roots_of}
use Rattle.gix_ref_commit.specs.CommittedTrees.{AreCommitted, IsOldOrNew}
use Rattle.gix_ref_commit.specs.Decided.{FillsPacked, IsFilled}
use Rattle.gix_ref_commit.specs.Entries.{Entry, bare, bare_steps, done_before, done_of, packed_before, packed_done, planned_entries, renames_packed, steps_in}
use Rattle.gix_ref_commit.specs.LogEffects.{AreLogsOf, Extra, but_lines, extras_in, with_ends, with_extras}
use Rattle.gix_ref_reflog.specs.AskedEdits.{all_but_logs, asked, outcomes_of}
use Rattle.gix_ref_reflog.specs.DueLines.{log_outcomes}
use Rattle.gix_ref_log.specs.declared.actor.SignatureRef.{SignatureRef}
use Rattle.gix_ref_commit.specs.Unfinished.{EndsAtStep, EndsIn}
use Rattle.gix_ref_commit.specs.declared.folders.EmptyDirs.{EmptyDirs}
use Rattle.gix_ref_commit.specs.declared.plan.About.{About}
use Rattle.gix_ref_commit.specs.declared.plan.About.TheVariants as about
use Rattle.gix_ref_commit.specs.declared.run.Unfinished.{Unfinished}
use Rattle.gix_ref_commit.specs.declared.run.Unfinished.TheVariants.{Memory as no_memory, Step as AtStep}
use Rattle.gix_ref_commit.proofs.Alike.{AreSame, are_same, effects_alike, ends_alike, extras_end, plan_edits_are, plan_with, plans_alike, updates_alike, ids_same, locks_alike, logs_same, places_alike, planned_same}
use Rattle.gix_ref_commit.proofs.Carrying.{locks_apart}
use Rattle.gix_ref_commit.proofs.Cleared.{Any, EachOutside, IsCutOf, all_outside, any_ways, cleared_rename, cut_of}
use Rattle.gix_ref_commit.proofs.Ends as ends
use Rattle.gix_ref_commit.proofs.Endings.{lock_is}
use Rattle.gix_ref_commit.proofs.Held.{IsReady}
use Rattle.gix_ref_transaction.proofs.EditsApart.{edits_apart}
use Rattle.gix_ref_commit.proofs.Lined.{apart_lined}
use Rattle.gix_ref_commit.proofs.LostFolders.{lost_well_alike}
use Rattle.gix_ref_commit.proofs.Nothing as nothing
use Rattle.gix_ref_commit.proofs.Outcomes.{lines_are, logs_are}
use Rattle.gix_ref_commit.proofs.Placing.{IsLaid}
use Rattle.gix_ref_commit.proofs.PackedEntries.{RenamesPacked, at_packed, renames_packed_lock}
use Rattle.gix_ref_commit.proofs.Renamed.{HasRename, IsRenameOf, packed_renamed_before, packed_renamed_in_all, renamed_before, renamed_in_all}
use Rattle.gix_ref_commit.proofs.Shapes.{AllShaped, HasShape, all_shaped, shape_at}
use Rattle.gix_ref_commit.proofs.Runs.{IsText}
use Rattle.gix_ref_commit.proofs.Tidying.{no_file_still, same_files}
use Rattle.gix_ref_store.specs.CommitResult.{EveryLossIsOldOrNew, EveryStopIsOldOrNew, RepacksFrom}
use Rattle.gix_ref_store.specs.CommitLines.{extras_due, line_rules, lines_due}
use Rattle.gix_ref_store.specs.Prepared.{PreparesFrom, HasGoodRecords, tree_of, disk_in, locks_in, places_in, IsAtRest}
use Rattle.gix_ref_store.specs.Store.{files_of, folders, kind_of, meaning_of, with_files, IsSameStore}
use Rattle.gix_ref_store.specs.declared.file.store.Store.{Store}

-- a store with other files means the same
pub same_meaning : {F : Type 0} (old new : Store F) → IsSameStore old new → meaning_of new ≡ meaning_of old
same_meaning old new same =
    ap (λ (d : Dirs). store_of (folders_of d new.namespace) (git_options (kind_of new) new.prohibit_windows_device_names)) same.dirs
    ∙ (ap (λ (n : Option Namespace). store_of (folders_of old.dirs n) (git_options (kind_of new) new.prohibit_windows_device_names)) same.namespace
    ∙ (ap (λ (k : Kind). store_of (folders old) (git_options k new.prohibit_windows_device_names)) same.of_kind
    ∙ ap (λ (b : Bool). store_of (folders old) (git_options (kind_of old) b)) same.prohibits))

-- the same store with other files
same_on : {F : Type 0} (old start new : Store F) (files : F) → IsSameStore old start → new ≡ with_files start files → IsSameStore old new
same_on old start new files same is =
    subst (IsSameStore old) (sym is) (record { dirs = same.dirs; namespace = same.namespace; of_kind = same.of_kind; reflogs = same.reflogs; composes = same.composes; prohibits = same.prohibits; threshold = same.threshold })

-- whose `packed-refs` is well formed, or there is none
pub good_on : {F : Type 0} (means : F → Meaning) (old start new : Store F) (files : F) → IsSameStore old start → new ≡ with_files start files → IsPackedWell (kind_of old) (view_of (tree_of means new) (meaning_of old).packed_path) → HasGoodRecords means new
good_on means old start new files from is well =
    let same = same_on old start new files from is in
    subst (λ (k : Kind). IsPackedWell k (view_of (tree_of means new) (meaning_of new).packed_path)) (sym same.of_kind)
    (subst (λ (s : readings.Store). IsPackedWell (kind_of old) (view_of (tree_of means new) s.packed_path)) (sym (same_meaning old new same)) well)

-- more locks
removes_wider : (xs ys : List Path) (S T : Tree) → ((q : Path) → is_in xs q ≡ true → is_in ys q ≡ true) → RemovesLocks xs S T → RemovesLocks ys S T
removes_wider xs ys S T wider removes q = ⊎_elim (λ same. inl same) (λ gone. inr (wider q gone.0, gone.1, gone.2)) (removes q)

only_wider : (xs ys : List Path) (old new : Meaning) → ((q : Path) → is_in xs q ≡ true → is_in ys q ≡ true) → OnlyRemoves xs old new → OnlyRemoves ys old new
only_wider xs ys old new wider removes locked staying writes first own among = removes locked staying writes first (λ q within. own q (wider q within)) among

-- of an optional lock, or none
unless_within : (packed : Option Path) (renamed : Bool) (q : Path) → is_in (map lock_of (packed_places (if renamed then None else packed))) q ≡ true → is_in (map lock_of (packed_places packed)) q ≡ true
unless_within packed true q within = clash within refl
unless_within packed false q within = within

-- a lock of `packed-refs` that is held is that of a path
held_path : (packed : Option Path) (q : Path) → is_in (map lock_of (packed_places packed)) q ≡ true → (path : Path) × (packed ≡ Some path) × (lock_of path ≡ q)
held_path None q within = clash within refl
held_path (Some path) q within = (path, refl, in_one (lock_of path) q within)

-- one more file, at a lock that was free
put_adds : (lock : Path) (bytes : List ℕ) (S T : Tree) (mine : List Path) → is_in mine lock ≡ true → S lock ≡ None → AddsLocks mine mine S T → AddsLocks mine mine S (put T lock (Some (File bytes)))
put_adds lock bytes S T mine own free adds q = either_way (bytes_eq lock q)
    (λ same.
    let e = same_path lock q same in
    let there : put T lock (Some (File bytes)) q ≡ Some (File bytes) = subst (λ (p : Path). put T lock (Some (File bytes)) p ≡ Some (File bytes)) e (put_at T lock (Some (File bytes))) in
    inr (subst (λ (p : Path). S p ≡ None) e free, subst (λ (n : Option Content). IsOurs mine mine q n) (sym there) (subst (λ (p : Path). is_in mine p ≡ true) e own)))
    (λ other.
    subst (λ (n : Option Content). (n ≡ S q) ⊎ ((S q ≡ None) × IsOurs mine mine q n)) (sym (put_other T lock q (Some (File bytes)) (λ is. clash (is_same_path lock q is) other))) (adds q))

module _ {F : Type 0} (honest : Type 0) (means : F → Meaning) (faults : F → FaultCounts) (mode : Mode) (old start : Store F) (committer : Option SignatureRef) (given : List RefEdit) (packed : Option Path) (held : List Edit) (from : PreparesFrom honest means faults mode old start given packed held) where
  abbrev s : readings.Store
  s = meaning_of old

  abbrev before : Tree
  before = tree_of means old

  abbrev first : Meaning
  first = means (files_of start)

  abbrev mine : List Path
  mine = locks_in means mode old given

  abbrev locked : List Path
  locked = places_in means mode old given

  abbrev staying : List Path
  staying = roots (folders old)

  -- the lines that are due as the commit begins, with the objects at the end of tags
  abbrev lines : List Extra
  lines = extras_due means start committer held

  laws : HasLaws s
  laws = laws_hold (folders old) (git_options (kind_of old) old.prohibit_windows_device_names) (folders_laid old.dirs old.namespace)

  meaning_is : meaning_of start ≡ s
  meaning_is = same_meaning old start from.held.same

  are_references : All (λ (e : RefEdit). s.is_reference (name_of e) ≡ true) given
  are_references = references (folders old) (git_options (kind_of old) old.prohibit_windows_device_names) (folders_laid old.dirs old.namespace) (kind_of old) [] given from.held.valid

  pub edits_are : honest → HasGoodRecords means old → AreEdits s (planned given)
  edits_are h good = edits_apart s (kind_of old) before [] given (from.held.accepted h good).no_cause are_references

  lined_are : honest → HasGoodRecords means old → AreEdits s (with_extras given lines)
  lined_are h good = apart_lined s given lines (edits_are h good)

  pub planned_is : planned (updates held) ≡ planned given
  planned_is = planned_same given (updates held) (are_same given from.was (updates held) from.carried)

  own : (q : Path) → is_in mine q ≡ true → IsOwnLock locked q
  own = own_all s mode before given

  -- nothing but own locks has changed so far
  start_alike : honest → IsSameButLocks locked (view_of first.tree) (view_of before)
  start_alike h path other = same_view file_of refl mine mine before first.tree path (from.held.adds h) (is_false (is_in mine path) (λ within. other (own path within)))

  less_alike : (T U : Tree) → RemovesLocks mine T U → IsSameButLocks locked (view_of U) (view_of T)
  less_alike T U removes path other = ⊎_elim (λ same. ap file_of same) (λ gone. absurd (other (own path gone.0))) (removes path)

  packed_same : honest → view_of first.tree s.packed_path ≡ view_of before s.packed_path
  packed_same h = start_alike h s.packed_path (λ mine'. let l = own_is_lock locked s.packed_path mine' in laws.packed_is_no_lock l.0 l.1)

  -- the records of `packed-refs` are still there, and the edits have their ids
  pub records_there : (h : honest) (good : HasGoodRecords means old) → ArePackedRecords (kind_of old) (view_of first.tree s.packed_path) good.0
  records_there h good = subst (λ (p : Option (List ℕ)). ArePackedRecords (kind_of old) p good.0) (sym (packed_same h)) good.1

  pub ids_are : (h : honest) (good : HasGoodRecords means old) → ids_in held ≡ ids_among s good.0 (updates held)
  ids_are h good =
      from.ids h good
      ∙ (ap (λ (l : List Record). ids_among s l given) (records_are (folders old) (kind_of old) old.prohibit_windows_device_names (view_of before s.packed_path) good.0 good.1)
      ∙ sym (ids_same s good.0 given (updates held) (are_same given from.was (updates held) from.carried)))

  -- and so it is said of the store with which the commit begins
  repacked_edits : honest → HasGoodRecords means old → AreEdits s (plan_edits held)
  repacked_edits h good =
      subst (λ (l : List plan.Edit). AreEdits s l) (plan_with held)
      (apart_lined s (updates held) (map (λ (e : Edit). (None, peeled_in e.put)) held) (subst (λ (l : List plan.Edit). AreEdits s l) (sym planned_is) (edits_are h good)))

  pub start_edits : honest → HasGoodRecords means old → AreEdits (meaning_of start) (plan_edits held)
  start_edits h good = subst (λ (m : readings.Store). AreEdits m (plan_edits held)) (sym meaning_is) (repacked_edits h good)

  pub start_records : (h : honest) (good : HasGoodRecords means old) → ArePackedRecords (kind_of start) (view_of first.tree (meaning_of start).packed_path) good.0
  start_records h good =
      subst (λ (k : Kind). ArePackedRecords k (view_of first.tree (meaning_of start).packed_path) good.0) (sym from.held.same.of_kind)
      (subst (λ (m : readings.Store). ArePackedRecords (kind_of old) (view_of first.tree m.packed_path) good.0) (sym meaning_is) (records_there h good))

  -- the lock of `packed-refs` is one of the transaction's
  packed_mine : honest → (q : Path) → is_in (map lock_of (packed_places packed)) q ≡ true → is_in mine q ≡ true
  packed_mine h q within = any_left (λ r. bytes_eq r q) (packed_locks s mode before given) (locks_of s given)
      (subst (λ ps. is_in (map lock_of ps) q ≡ true) (from.packed.due h) within)

  path_is : (path : Path) → packed ≡ Some path → path ≡ s.packed_path
  path_is path some = place from.packed.place
    where
      inner : {x y : Path} → Some x ≡ Some y → x ≡ y
      inner e = cc

      place : IsPackedPlace s packed → path ≡ s.packed_path
      place (inl none) = absurd (differ (sym none ∙ some))
        where
          differ : None ≡ Some path → ⊥
          differ e = cc
      place (inr same) = inner (sym some ∙ same)

  -- some text is in it
  fills_alike : honest → (T : Tree) → FillsPacked packed first.tree T → IsSameButLocks locked (view_of T) (view_of first.tree)
  fills_alike h T fills path other = by packed refl fills
    where
      by : (p : Option Path) → packed ≡ p → FillsPacked p first.tree T → view_of T path ≡ view_of first.tree path
      by None is same = ap (λ (R : Tree). file_of (R path)) same
      by (Some at) is (inl same) = ap (λ (R : Tree). file_of (R path)) same
      by (Some at) is (inr (text, filled)) =
          ap (λ (R : Tree). file_of (R path)) filled
          ∙ ap file_of (put_other first.tree (lock_of at) path (Some (File text))
          (λ same. other (subst (λ (q : Path). IsOwnLock locked q) same (own (lock_of at) (packed_mine h (lock_of at) (subst (λ (p : Option Path). is_in (map lock_of (packed_places p)) (lock_of at) ≡ true) (sym is) (in_here (lock_of at) (lock_of at) [] refl)))))))

  old_or_new : honest → HasGoodRecords means old → (T : Tree) → IsSameButLocks locked (view_of T) (view_of before) → IsOldOrNew s mode given lines before T
  old_or_new h good T alike = nothing.nothing_done s laws mode locked (with_extras given lines) (lined_are h good) before T alike

  filled_well : honest → HasGoodRecords means old → (T : Tree) → FillsPacked packed first.tree T → IsOldOrNew s mode given lines before T
  filled_well h good T fills = old_or_new h good T (λ path other. fills_alike h T fills path other ∙ start_alike h path other)

  pub began : honest → HasGoodRecords means old → IsOldOrNew s mode given lines before first.tree
  began h good = old_or_new h good first.tree (start_alike h)

  -- what losses of power leave before the first write
  pub lost_early : honest → HasGoodRecords means old → IsAllSettled (disk_of first) → (stay : List Path) (E : Disk) (T : Tree) → IsAsBefore locked stay (disk_of first) E → Lost E T →
      IsLostWell s mode locked (with_extras given lines) (disk_of first) before T
  lost_early h good settled stay E T among lost =
      nothing.nothing_lost s laws mode locked (with_extras given lines) (lined_are h good) before (disk_of first) settled (λ path other. sym (start_alike h path other)) stay E T among lost

  pub started : honest → IsAtRest means old → IsAllSettled (disk_of first) × AllStay (disk_of first) staying
  started h at_rest = rest_kept locked staying (disk_in means old) (disk_of first) at_rest.0 ((from.lost h).keeps staying at_rest.1).disk

  -- edits that are those that were held except for their logs
  module _ (ran : List Edit) (alike : all_but_logs ran ≡ all_but_logs held) (new : Store F) (left : List Path) where
    abbrev now : Meaning
    now = means (files_of new)

    locks_are : lock_paths ran ≡ locks_of s given
    locks_are = locks_alike ran held alike ∙ locks_by_places s given held from.places

    pub ran_mine : honest → (renamed : Bool) (q : Path) → is_in (held_locks (if renamed then None else packed) ran) q ≡ true → is_in mine q ≡ true
    ran_mine h renamed q within = ⊎_elim
        (λ p. packed_mine h q (unless_within packed renamed q p))
        (λ e. any_right (λ r. bytes_eq r q) (packed_locks s mode before given) (locks_of s given) (subst (λ (l : List Path). is_in l q ≡ true) locks_are e))
        (any_cases (λ r. bytes_eq r q) (map lock_of (packed_places (if renamed then None else packed))) (lock_paths ran) within)

    possible : (renamed : Bool) (q : Path) → is_in (held_locks (if renamed then None else packed) ran) q ≡ true → is_in (lock_of s.packed_path ∷ locks_of s given) q ≡ true
    possible renamed q within = ⊎_elim
        (λ p. let at = held_path packed q (unless_within packed renamed q p) in
        any_left (λ r. bytes_eq r q) (lock_of s.packed_path ∷ []) (locks_of s given) (in_here (lock_of s.packed_path) q [] (ap lock_of (sym (path_is at.0 at.1)) ∙ at.2)))
        (λ e. any_right (λ r. bytes_eq r q) (lock_of s.packed_path ∷ []) (locks_of s given) (subst (λ (l : List Path). is_in l q ≡ true) locks_are e))
        (any_cases (λ r. bytes_eq r q) (map lock_of (packed_places (if renamed then None else packed))) (lock_paths ran) within)

    -- and no lock is held more often than the edits can have it
    once_then : (q : Path) (renamed : Bool) → times q left ≤ times q (held_locks (if renamed then None else packed) ran) → times q left ≤ times q (lock_of s.packed_path ∷ locks_of s given)
    once_then q renamed held' =
        let ps = map lock_of (packed_places (if renamed then None else packed)) in
        let one : times q ps ≤ times q (lock_of s.packed_path ∷ []) = packed_once q renamed packed refl in
        let all : times q (ps ++ lock_paths ran) ≡ times q ps + times q (lock_paths ran) = times_append q ps (lock_paths ran) in
        let rest : times q (lock_paths ran) ≡ times q (locks_of s given) = ap (times q) locks_are in
        let both : times q (lock_of s.packed_path ∷ locks_of s given) ≡ times q (lock_of s.packed_path ∷ []) + times q (locks_of s given) = times_append q (lock_of s.packed_path ∷ []) (locks_of s given) in
        omega (arith, held', one, all, rest, both)
      where
        packed_once : (q : Path) (b : Bool) (p : Option Path) → packed ≡ p → times q (map lock_of (packed_places (if b then None else p))) ≤ times q (lock_of s.packed_path ∷ [])
        packed_once q true p is = omega arith
        packed_once q false None is = omega arith
        packed_once q false (Some path) is = subst (λ (l : Path). times q (lock_of l ∷ []) ≤ times q (lock_of s.packed_path ∷ [])) (sym (path_is path is)) (omega arith)

    -- all locks are gone that are not named
    gone_all : (U : Tree) (done : ℕ) (renamed : Bool) →
        ((q : Path) → is_in (map lock_of (packed_places (if renamed then None else packed))) q ≡ true → is_in left q ≡ false → is_file (U q) ≡ false) →
        (renamed ≡ true → (path : Path) → packed ≡ Some path → is_file (U (lock_of path)) ≡ false) →
        ((k : ℕ) → k < length ran → stays_at ran done k ≡ true → is_in left (lock_at ran k) ≡ false → is_file (U (lock_at ran k)) ≡ false) →
        ((k : ℕ) → k < length ran → k < done → is_written_at ran k ≡ true → is_file (U (lock_at ran k)) ≡ false) →
        honest → (q : Path) → is_in mine q ≡ true → is_in left q ≡ false → is_file (U q) ≡ false
    gone_all U done renamed packed_gone packed_done locks_gone done_gone h q within out = ⊎_elim
        (λ p. by_packed renamed refl (subst (λ ps. is_in (map lock_of ps) q ≡ true) (sym (from.packed.due h)) p))
        (λ e. let at = lock_found ran q (subst (λ (l : List Path). is_in l q ≡ true) (sym locks_are) e) in
        subst (λ (r : Path). is_file (U r) ≡ false) at.2
        (by_lock at.0 at.1 (subst (λ (r : Path). is_in left r ≡ false) (sym at.2) out) (nat_lt at.0 done) refl (is_written_at ran at.0) refl))
        (any_cases (λ r. bytes_eq r q) (packed_locks s mode before given) (locks_of s given) within)
      where
        by_packed : (b : Bool) → renamed ≡ b → is_in (map lock_of (packed_places packed)) q ≡ true → is_file (U q) ≡ false
        by_packed true is mine' =
            let at = held_path packed q mine' in subst (λ (r : Path). is_file (U r) ≡ false) at.2 (packed_done is at.0 at.1)
        by_packed false is mine' = packed_gone q (subst (λ (b : Bool). is_in (map lock_of (packed_places (if b then None else packed))) q ≡ true) (sym is) mine') out

        by_lock : (k : ℕ) → k < length ran → is_in left (lock_at ran k) ≡ false → (early : Bool) → nat_lt k done ≡ early → (written : Bool) → is_written_at ran k ≡ written → is_file (U (lock_at ran k)) ≡ false
        by_lock k lt out' true is true written = done_gone k lt (ltb-true k done is) written
        by_lock k lt out' true is false written = locks_gone k lt (ap (λ b. not (b && is_written_at ran k)) is ∙ ap (λ b. not (true && b)) written) out'
        by_lock k lt out' false is w written = locks_gone k lt (ap (λ b. not (b && is_written_at ran k)) is) out'

    -- The commit ended before its first write, and its locks were released.
    module _ (decided : Meaning) (fills : honest → Leaves first decided (FillsPacked packed first.tree)) (alone : honest → OnlyLocks (map lock_of (packed_places packed)) first decided) where
      module _ (releases : honest → Leaves decided now (RemovesLocks (held_locks packed ran) decided.tree)) (only : honest → OnlyRemoves (held_locks packed ran) decided now)
          (packed_gone : honest → (q : Path) → is_in (map lock_of (packed_places packed)) q ≡ true → is_in left q ≡ false → is_file (now.tree q) ≡ false)
          (locks_gone : honest → (k : ℕ) → k < length ran → stays_at ran 0 k ≡ true → is_in left (lock_at ran k) ≡ false → is_file (now.tree (lock_at ran k)) ≡ false)
          (ours : (q : Path) → is_in left q ≡ true → is_in (held_locks packed ran) q ≡ true)
          (once : (q : Path) → times q left ≤ times q (held_locks packed ran)) where
        pub undecided_well : EveryStopIsOldOrNew honest means faults mode old start new given lines left
        undecided_well = record {
          began = λ h good. began h good;
          leaves = λ h.
              joins (weaken (fills h) (λ T filled good. filled_well h good T filled))
              (weaken (releases h) (λ T less good.
              old_or_new h good T (λ path other.
              less_alike decided.tree T (removes_wider (held_locks packed ran) mine decided.tree T (ran_mine h false) less) path other
              ∙ (fills_alike h decided.tree (fills h).tree path other ∙ start_alike h path other))));
          gone = λ h. gone_all now.tree 0 false (packed_gone h) (λ yes. clash yes refl) (locks_gone h) (λ k lt early. absurd (omega (arith, early))) h;
          ours = λ q named. possible false q (ours q named);
          once = λ q. once_then q false (once q);
        }

        pub undecided_lost : (h : honest) → HasGoodRecords means old → IsAtRest means old → EveryLossIsOldOrNew honest means faults mode old start new given lines
        undecided_lost h good at_rest =
            let rest = started h at_rest in
            let same = as_before locked staying (disk_of first) rest.1 in
            let early = alone h locked staying (disk_of first) (λ q within. own q (packed_mine h q within)) same in
            record {
              began = λ T lost. lost_early h good rest.0 staying (disk_of first) T same lost;
              loses = losses (IsLostWell s mode locked (with_extras given lines) (disk_of first) before) (λ E among T lost. lost_early h good rest.0 staying E T among lost)
                  (passes_joins early (only h locked staying [] (disk_of first) (λ q within. own q (ran_mine h false q within)) early.disk));
            }

      -- All is decided.
      module _ (outcomes : honest → outcomes_of ran ≡ log_outcomes (line_rules start committer) (view_of first.tree) (asked held)) (rewrite : Rewrite) (repacks : RepacksFrom honest means faults start packed held rewrite)
          (filled : honest → IsFilled packed rewrite first.tree decided.tree) (wholes : honest → (locks : List Path) → AreWholeLocks (disk_of first) locks → AreWholeLocks (disk_of decided) locks)
          (ways : List EmptyDirs) (in_way : honest → AllInWay ran old.dirs decided.tree (folder_lists ways) (planned_entries old.dirs ran packed rewrite)) where
        abbrev all_entries : List Entry
        all_entries = commit_entries old.dirs ran packed rewrite ways

        -- no folder of the store is removed
        pub out : honest → EachOutside (roots_of old.dirs) (folder_lists ways)
        out h = all_outside ran old.dirs decided.tree (folder_lists ways) (planned_entries old.dirs ran packed rewrite) (in_way h)

        -- where its steps are cut, they are those of the plan
        cut_at : (before : List Entry) (x : Entry) (rest : List Entry) → all_entries ≡ before ++ x ∷ rest → IsCutOf Any (planned_entries old.dirs ran packed rewrite) before x
        cut_at before x rest is =
            cut_of Any (folder_lists ways) (planned_entries old.dirs ran packed rewrite) (any_ways (folder_lists ways) (planned_entries old.dirs ran packed rewrite)) before x rest is

        own_logs : honest → AreLogsOf s given ran
        own_logs h =
            logs_same s given (updates held) ran (are_same given from.was (updates held) from.carried)
            (subst (λ (m : readings.Store). AreLogsOf m (updates held) ran) meaning_is (logs_are (line_rules start committer) (view_of first.tree) 0 held ran (outcomes h)))

        -- the lines that logs gain are those that are due
        own_lines : honest → extras_in ran ≡ lines
        own_lines h =
            extras_end ran
            ∙ (ap (λ (ls : List (Option (List ℕ))). with_ends ls ran) (lines_are (line_rules start committer) (view_of first.tree) ran (asked held) (outcomes h))
            ∙ ends_alike (lines_due means start committer held) ran held alike)

        pub laid : honest → IsLaid s mode (kind_of old) before (disk_of decided) given ran packed
        laid h = record {
          references = are_references;
          lockable = from.held.lockable h;
          places = places_alike ran held alike ∙ from.places;
          logs = own_logs h;
          packed_place = from.packed.place;
          packed_due = from.packed.due h;
          whole = wholes h mine (from.whole h);
        }

        -- the lock of a place is as it was
        same_lock : (h : honest) (n : List ℕ) → s.is_reference n ≡ true → decided.tree (lock_of (s.place n)) ≡ first.tree (lock_of (s.place n))
        same_lock h n is = by packed refl rewrite (filled h)
          where
            by : (p : Option Path) → packed ≡ p → (r : Rewrite) → IsFilled p r first.tree decided.tree → decided.tree (lock_of (s.place n)) ≡ first.tree (lock_of (s.place n))
            by None held' r same = ap (λ (T : Tree). T (lock_of (s.place n))) same
            by (Some path) held' Unchanged same = ap (λ (T : Tree). T (lock_of (s.place n))) same
            by (Some path) held' Removed same = ap (λ (T : Tree). T (lock_of (s.place n))) same
            by (Some path) held' (Text text) same =
                ap (λ (T : Tree). T (lock_of (s.place n))) same
                ∙ put_other first.tree (lock_of path) (lock_of (s.place n)) (Some (File text.items))
                (locks_apart path (s.place n) (λ e. laws.place_is_not_packed n is (sym e ∙ path_is path held')))

        texts_same : (h : honest) (some : List RefEdit) → All (λ (e : RefEdit). s.is_reference (name_of e) ≡ true) some → HoldTexts s mode before first.tree some → HoldTexts s mode before decided.tree some
        texts_same h [] are texts = tt
        texts_same h (e ∷ some) are texts =
            (same_lock h (name_of e) (are 0 e (omega arith)) ∙ texts.0, texts_same h some (λ k d lt. are (suc k) d (omega (arith, lt))) texts.1)

        adds : (h : honest) → HasGoodRecords means old → AddsLocks mine mine before decided.tree
        adds h good = by packed refl rewrite (filled h)
          where
            by : (p : Option Path) → packed ≡ p → (r : Rewrite) → IsFilled p r first.tree decided.tree → AddsLocks mine mine before decided.tree
            by None held' r e = subst (AddsLocks mine mine before) (sym e) (from.held.adds h)
            by (Some path) held' Unchanged e = subst (AddsLocks mine mine before) (sym e) (from.held.adds h)
            by (Some path) held' Removed e = subst (AddsLocks mine mine before) (sym e) (from.held.adds h)
            by (Some path) held' (Text text) e =
                let within = subst (λ (p : Option Path). is_in (map lock_of (packed_places p)) (lock_of path) ≡ true) (sym held') (in_here (lock_of path) (lock_of path) [] refl) in
                subst (AddsLocks mine mine before) (sym e)
                (put_adds (lock_of path) text.items before first.tree mine (packed_mine h (lock_of path) within)
                (taken_was_free s mode before given (from.held.accepted h good).unlocked (lock_of path) (subst (λ ps. is_in (map lock_of ps) (lock_of path) ≡ true) (from.packed.due h) within))
                (from.held.adds h))

        pub ready : (h : honest) → HasGoodRecords means old → IsReady s mode (kind_of old) before decided.tree given ran
        ready h good = record {
          accepted = from.held.accepted h good;
          texts = texts_same h given are_references (from.held.texts h good);
          adds = adds h good;
          effects = effects_alike ran held alike ∙ from.effects h good;
          places = places_alike ran held alike ∙ from.places;
          logs = own_logs h;
        }

        -- the new `packed-refs`, where it was well formed
        pub repack : (h : honest) (good : HasGoodRecords means old) → packed ≢ None → IsRepack s mode (kind_of old) good.0 (but_lines (with_extras given (extras_in ran))) rewrite
        repack h good some =
            subst (λ (l : List plan.Edit). IsRepack s mode (kind_of old) good.0 l rewrite)
            (sym (plans_alike ran held alike) ∙ plan_edits_are given ran (subst (AreSame given) (sym (updates_alike ran held alike)) (are_same given from.was (updates held) from.carried)))
            (at (repacked_edits h good) good.0 (records_there h good) (ids_are h good) from.puts from.can_be_put some)
          where
            Repacks : readings.Store → Kind → Type 0
            Repacks m k =
                AreEdits m (plan_edits held) → (rs : List Record) → ArePackedRecords k (view_of first.tree m.packed_path) rs →
                ids_in held ≡ ids_among m rs (updates held) → HaveTheirPuts m mode held → AllCanBePut m k held → packed ≢ None → IsRepack m mode k rs (plan_edits held) rewrite

            at : Repacks s (kind_of old)
            at = subst (Repacks s) from.held.same.of_kind (subst (λ (m : readings.Store). Repacks m (kind_of start)) meaning_is (repacks.made h mode))

        pub text_held : (h : honest) (path : Path) (bytes : List ℕ) → packed ≡ Some path → IsText rewrite bytes → view_of decided.tree (lock_of path) ≡ Some bytes
        text_held h path bytes some is = by rewrite is (subst (λ (p : Option Path). IsFilled p rewrite first.tree decided.tree) some (filled h))
          where
            by : (r : Rewrite) → IsText r bytes → IsFilled (Some path) r first.tree decided.tree → view_of decided.tree (lock_of path) ≡ Some bytes
            by (Text text) same e = ap (λ (T : Tree). file_of (T (lock_of path))) e ∙ (ap file_of (put_at first.tree (lock_of path) (Some (File text.items))) ∙ ap Some same)
            by Unchanged same e = absurd same
            by Removed same e = absurd same

        -- The steps ran on, to their end or not; the locks that were not renamed were released; and then empty folders were removed.
        module _ (mid released : Meaning) (renamed : Bool) (paths : List Path) (runs : honest → Leaves decided mid (IsLeftBy (bare_steps all_entries) decided.tree))
            (releases : honest → Leaves mid released (RemovesLocks (held_locks (if renamed then None else packed) ran) mid.tree))
            (tidies : honest → Leaves released now (FoldersGo old.dirs paths released.tree)) where
          pub removes : honest → RemovesLocks mine mid.tree released.tree
          removes h = removes_wider (held_locks (if renamed then None else packed) ran) mine mid.tree released.tree (ran_mine h renamed) (releases h).tree

          -- what remains where folders are gone
          pub gone_still : honest → (q : Path) → is_file (released.tree q) ≡ false → is_file (now.tree q) ≡ false
          gone_still h q none = no_file_still old.dirs paths released.tree now.tree q (tidies h).tree none

          cut_well : (h : honest) → HasGoodRecords means old → (T : Tree) → IsLeftBy (bare_steps all_entries) decided.tree T → IsOldOrNew s mode given (extras_in ran) before T
          cut_well h good T cut =
              ends.stopped old.dirs old.namespace (kind_of old) old.prohibit_windows_device_names mode before (disk_of decided) given ran packed rewrite ways (out h) (laid h) (ready h good) good.0 good.1 (repack h good) (text_held h) T cut

          at_stop : (h : honest) → HasGoodRecords means old → (T : Tree) → IsLeftBy (bare_steps all_entries) decided.tree T → IsOldOrNew s mode given lines before T
          at_stop h good T cut = subst (λ (ls : List Extra). IsOldOrNew s mode given ls before T) (own_lines h) (cut_well h good T cut)

          -- and after it, where locks were removed, or folders
          well_then : (h : honest) → HasGoodRecords means old → (T U : Tree) → IsOldOrNew s mode given (extras_in ran) before T → IsSameButLocks locked (view_of U) (view_of T) → IsOldOrNew s mode given (extras_in ran) before U
          well_then h good T U well same =
              ends.left_then old.dirs old.namespace (kind_of old) old.prohibit_windows_device_names mode before (disk_of decided) given ran packed rewrite ways (out h) (laid h) (ready h good) good.0 good.1 (repack h good) (text_held h) T U well same

          released_well : (h : honest) → HasGoodRecords means old → (T : Tree) → RemovesLocks mine mid.tree T → IsOldOrNew s mode given (extras_in ran) before T
          released_well h good T less = well_then h good mid.tree T (cut_well h good mid.tree (runs h).tree) (less_alike mid.tree T less)

          then_well : (h : honest) → HasGoodRecords means old → (T : Tree) → RemovesLocks mine mid.tree T → IsOldOrNew s mode given lines before T
          then_well h good T less = subst (λ (ls : List Extra). IsOldOrNew s mode given ls before T) (own_lines h) (released_well h good T less)

          tidied_well : (h : honest) → HasGoodRecords means old → (T : Tree) → FoldersGo old.dirs paths released.tree T → IsOldOrNew s mode given lines before T
          tidied_well h good T goes = subst (λ (ls : List Extra). IsOldOrNew s mode given ls before T) (own_lines h)
              (well_then h good released.tree T (released_well h good released.tree (removes h)) (λ path other. same_files old.dirs paths released.tree T goes path))

          pub ran_well : (done : ℕ) →
              (honest → (q : Path) → is_in (map lock_of (packed_places (if renamed then None else packed))) q ≡ true → is_in left q ≡ false → is_file (released.tree q) ≡ false) →
              (honest → renamed ≡ true → (path : Path) → packed ≡ Some path → is_file (released.tree (lock_of path)) ≡ false) →
              (honest → (k : ℕ) → k < length ran → stays_at ran done k ≡ true → is_in left (lock_at ran k) ≡ false → is_file (released.tree (lock_at ran k)) ≡ false) →
              (honest → (k : ℕ) → k < length ran → k < done → is_written_at ran k ≡ true → is_file (released.tree (lock_at ran k)) ≡ false) →
              ((q : Path) → is_in left q ≡ true → is_in (held_locks (if renamed then None else packed) ran) q ≡ true) →
              ((q : Path) → times q left ≤ times q (held_locks (if renamed then None else packed) ran)) → EveryStopIsOldOrNew honest means faults mode old start new given lines left
          ran_well done packed_gone packed_done locks_gone done_gone ours once = record {
            began = λ h good. began h good;
            leaves = λ h.
                joins (joins (joins (weaken (fills h) (λ T filled good. filled_well h good T filled)) (weaken (runs h) (λ T cut good. at_stop h good T cut)))
                (weaken (releases h) (λ T less good. then_well h good T (removes_wider (held_locks (if renamed then None else packed) ran) mine mid.tree T (ran_mine h renamed) less))))
                (weaken (tidies h) (λ T goes good. tidied_well h good T goes));
            gone = λ h q within out'. gone_still h q (gone_all released.tree done renamed (packed_gone h) (packed_done h) (locks_gone h) (done_gone h) h q within out');
            ours = λ q named. possible renamed q (ours q named);
            once = λ q. once_then q renamed (once q);
          }

          -- locks that were renamed are gone after the whole run
          pub whole_gone : (honest → IsAfter (bare_steps all_entries) decided.tree mid.tree) → honest → (k : ℕ) → k < length ran → is_written_at ran k ≡ true → is_file (released.tree (lock_at ran k)) ≡ false
          whole_gone after h k lt written =
              subst (λ (p : Path). is_file (released.tree p) ≡ false) (sym (lock_is ran k lt))
              (ends.all_gone old.dirs old.namespace (kind_of old) old.prohibit_windows_device_names mode before (disk_of decided) given ran packed rewrite ways (out h) (laid h) (place_at ran k) mid.tree released.tree
              (cleared_rename (lock_of (place_at ran k)) (folder_lists ways) (planned_entries old.dirs ran packed rewrite)
              (subst (λ (p : Path). HasRename p (planned_entries old.dirs ran packed rewrite)) (lock_is ran k lt) (renamed_in_all old.dirs (length ran) ran packed rewrite k written))) (after h) (removes h))

          pub whole_packed_gone : (honest → IsAfter (bare_steps all_entries) decided.tree mid.tree) → honest → renames_packed rewrite ≡ true → (path : Path) → packed ≡ Some path → is_file (released.tree (lock_of path)) ≡ false
          whole_packed_gone after h text path some =
              ends.all_gone old.dirs old.namespace (kind_of old) old.prohibit_windows_device_names mode before (disk_of decided) given ran packed rewrite ways (out h) (laid h) path mid.tree released.tree
              (cleared_rename (lock_of path) (folder_lists ways) (planned_entries old.dirs ran packed rewrite) (packed_renamed_in_all old.dirs (length ran) ran packed rewrite path some text)) (after h) (removes h)

          -- and after one that ended before a step or at it
          cut_before : (about : About) (cause : Cause) → EndsAtStep honest all_entries decided.tree mid.tree about cause → honest → (k : ℕ) → k < length ran → k < done_before (length ran) about → is_written_at ran k ≡ true →
              is_file (released.tree (lock_at ran k)) ≡ false
          cut_before about cause e h k lt early written =
              let at = e.ended h in
              let c = cut_at e.before (e.step, about) e.rest e.cut in
              subst (λ (p : Path). is_file (released.tree p) ≡ false) (sym (lock_is ran k lt))
              (ends.cut_gone old.dirs old.namespace (kind_of old) old.prohibit_windows_device_names mode before (disk_of decided) given ran packed rewrite ways (out h) (laid h) (place_at ran k) e.before (e.step, about) e.rest cause at.0 mid.tree released.tree
              e.cut (subst (λ (p : Path). HasRename p e.before) (lock_is ran k lt) (c.renames (lock_at ran k)
              (renamed_before old.dirs (length ran) ran packed rewrite c.seen c.step c.later c.cut k (subst (λ (a : About). k < done_before (length ran) a) (sym c.about) early) written))) at.1 at.2 (removes h))

          -- the rename of a step is that of its lock
          synced_rename : (n : ℕ) (fault : FileError) (e : EndsAtStep honest all_entries decided.tree mid.tree (about.Rename n) (Sync fault)) (h : honest) → IsRenameOf (lock_at ran n) (bare e.step)
          synced_rename n fault e h =
              let c = cut_at e.before (e.step, about.Rename n) e.rest e.cut in
              ⊎_elim
              (λ it.
              let shape = subst (λ (y : Entry). HasShape ran packed y.1 (bare y.0)) (sym it.0) (shape_at ran packed c.seen c.step c.later (subst (AllShaped ran packed) c.cut (all_shaped ran packed old.dirs rewrite))) in
              subst (IsRenameOf (lock_at ran n)) (sym shape.1) refl)
              (λ gone. absurd (subst MayBeSynced (ap bare gone.1) (e.ended h).2.0))
              c.what

          synced_packed : (fault : FileError) (e : EndsAtStep honest all_entries decided.tree mid.tree about.Packed (Sync fault)) (h : honest) (path : Path) → packed ≡ Some path → renames_packed rewrite ≡ true → IsRenameOf (lock_of path) (bare e.step)
          synced_packed fault e h path some text =
              let c = cut_at e.before (e.step, about.Packed) e.rest e.cut in
              ⊎_elim
              (λ it. subst (λ (y : Entry). IsRenameOf (lock_of path) (bare y.0)) (sym it.0)
              (at_packed old.dirs path c.seen c.step c.later (subst (RenamesPacked old.dirs path) c.cut (renames_packed_lock old.dirs path ran packed rewrite some text)) c.about))
              (λ gone. absurd (subst MayBeSynced (ap bare gone.1) (e.ended h).2.0))
              c.what

          cut_synced : (n : ℕ) (fault : FileError) → EndsAtStep honest all_entries decided.tree mid.tree (about.Rename n) (Sync fault) → honest → n < length ran → is_file (released.tree (lock_at ran n)) ≡ false
          cut_synced n fault e h lt =
              let at = e.ended h in
              subst (λ (p : Path). is_file (released.tree p) ≡ false) (sym (lock_is ran n lt))
              (ends.synced_gone old.dirs old.namespace (kind_of old) old.prohibit_windows_device_names mode before (disk_of decided) given ran packed rewrite ways (out h) (laid h) (place_at ran n) e.before (e.step, about.Rename n) e.rest fault at.0 mid.tree released.tree
              e.cut (subst (λ (p : Path). IsRenameOf p (bare e.step)) (lock_is ran n lt) (synced_rename n fault e h)) at.2 (removes h))

          pub cut_gone : (u : Unfinished) → EndsIn honest all_entries decided.tree mid.tree u → honest → (k : ℕ) → k < length ran → k < done_of (length ran) u → is_written_at ran k ≡ true → is_file (released.tree (lock_at ran k)) ≡ false
          cut_gone no_memory e h k lt early written = absurd (omega (arith, early))
          cut_gone (AtStep (about.Rename n) (Sync fault)) e h k lt early written = either_way (nat_eq k n)
              (λ same. let is = eqb-true k n same in subst (λ j. is_file (released.tree (lock_at ran j)) ≡ false) (sym is) (cut_synced n fault e h (subst (λ j. j < length ran) is lt)))
              (λ other. cut_before (about.Rename n) (Sync fault) e h k lt (omega (arith, early, eqb-false k n other)) written)
          cut_gone (AtStep (about.Rename n) (Fault fault)) e h k lt early written = cut_before (about.Rename n) (Fault fault) e h k lt early written
          cut_gone (AtStep (about.Rename n) Unexpected) e h k lt early written = cut_before (about.Rename n) Unexpected e h k lt early written
          cut_gone (AtStep (about.Rename n) Asked) e h k lt early written = cut_before (about.Rename n) Asked e h k lt early written
          cut_gone (AtStep (about.Folders n) cause) e h k lt early written = cut_before (about.Folders n) cause e h k lt early written
          cut_gone (AtStep (about.Line n) cause) e h k lt early written = cut_before (about.Line n) cause e h k lt early written
          cut_gone (AtStep (about.LogRemoval n) cause) e h k lt early written = cut_before (about.LogRemoval n) cause e h k lt early written
          cut_gone (AtStep about.Packed cause) e h k lt early written = cut_before about.Packed cause e h k lt early written
          cut_gone (AtStep (about.Removal n) cause) e h k lt early written = cut_before (about.Removal n) cause e h k lt early written

          pub cut_packed_gone : (u : Unfinished) → EndsIn honest all_entries decided.tree mid.tree u → honest → packed_done rewrite u ≡ true → (path : Path) → packed ≡ Some path → is_file (released.tree (lock_of path)) ≡ false
          cut_packed_gone (AtStep (about.Removal n) cause) e h text path some =
              let at = e.ended h in
              let c = cut_at e.before (e.step, about.Removal n) e.rest e.cut in
              ends.cut_gone old.dirs old.namespace (kind_of old) old.prohibit_windows_device_names mode before (disk_of decided) given ran packed rewrite ways (out h) (laid h) path e.before (e.step, about.Removal n) e.rest cause at.0 mid.tree released.tree
              e.cut (c.renames (lock_of path) (packed_renamed_before old.dirs (length ran) ran packed rewrite path some text c.seen c.step c.later c.cut (ap packed_before c.about))) at.1 at.2 (removes h)
          cut_packed_gone no_memory e h text path some = clash text refl
          cut_packed_gone (AtStep (about.Folders n) cause) e h text path some = clash text refl
          cut_packed_gone (AtStep (about.Line n) cause) e h text path some = clash text refl
          cut_packed_gone (AtStep (about.Rename n) cause) e h text path some = clash text refl
          cut_packed_gone (AtStep (about.LogRemoval n) cause) e h text path some = clash text refl
          cut_packed_gone (AtStep about.Packed (Sync fault)) e h text path some =
              let at = e.ended h in
              ends.synced_gone old.dirs old.namespace (kind_of old) old.prohibit_windows_device_names mode before (disk_of decided) given ran packed rewrite ways (out h) (laid h) path e.before (e.step, about.Packed) e.rest fault at.0 mid.tree released.tree
              e.cut (synced_packed fault e h path some text) at.2 (removes h)
          cut_packed_gone (AtStep about.Packed (Fault fault)) e h text path some = clash text refl
          cut_packed_gone (AtStep about.Packed Unexpected) e h text path some = clash text refl
          cut_packed_gone (AtStep about.Packed Asked) e h text path some = clash text refl

          pub committed : (h : honest) → HasGoodRecords means old → IsAfter (bare_steps all_entries) decided.tree mid.tree →
              ((q : Path) → is_in mine q ≡ true → is_in left q ≡ false → is_file (now.tree q) ≡ false) → AreCommitted s mode given lines before left now.tree
          committed h good after gone = subst (λ (ls : List Extra). AreCommitted s mode given ls before left now.tree) (own_lines h)
              (ends.commits old.dirs old.namespace (kind_of old) old.prohibit_windows_device_names mode before (disk_of decided) given ran packed rewrite ways (out h) (laid h) (ready h good) good.0 good.1 (repack h good) (text_held h)
              mid.tree now.tree left after
              (λ path other. same_files old.dirs paths released.tree now.tree (tidies h).tree path ∙ less_alike mid.tree released.tree (removes h) path other) gone)

          -- and `packed-refs` is well formed again
          pub kept_good : (h : honest) → HasGoodRecords means old → IsAfter (bare_steps all_entries) decided.tree mid.tree → IsPackedWell (kind_of old) (view_of now.tree s.packed_path)
          kept_good h good after =
              ends.commits_good old.dirs old.namespace (kind_of old) old.prohibit_windows_device_names mode before (disk_of decided) given ran packed rewrite ways (out h) (laid h) (ready h good) good.0 good.1 (repack h good) (text_held h)
              mid.tree now.tree after
              (λ path other. same_files old.dirs paths released.tree now.tree (tidies h).tree path ∙ less_alike mid.tree released.tree (removes h) path other)

          -- losses of power
          module _ (h : honest) (at_rest : IsAtRest means old) (only : OnlyRemoves (held_locks (if renamed then None else packed) ran) mid released) where
            abbrev rest : IsAllSettled (disk_of first) × AllStay (disk_of first) staying
            rest = started h at_rest

            only_mine : OnlyRemoves mine mid released
            only_mine = only_wider (held_locks (if renamed then None else packed) ran) mine mid released (ran_mine h renamed) only

            early : Passes first decided (IsAsBefore locked staying (disk_of first))
            early = alone h locked staying (disk_of first) (λ q within. own q (packed_mine h q within)) (as_before locked staying (disk_of first) rest.1)

            settled_then : IsAllSettled (disk_of decided) × AllStay (disk_of decided) staying
            settled_then = rest_kept locked staying (disk_of first) (disk_of decided) rest.0 early.disk

            -- after the whole run all is as it left it, except for own locks and folders
            as_left : OnlyFolders old.dirs released now → IsAsBefore locked staying (disk_of mid) (disk_of mid) → Passes released now (IsAsBefore locked staying (disk_of mid))
            as_left folders same = folders locked staying (disk_of mid) (λ q within. within) (only_mine locked staying [] (disk_of mid) own same).disk

            module _ (good : HasGoodRecords means old) where
              abbrev pub Inside : Disk → Type 0
              Inside = IsWithin (IsSpokenOf locked (disk_of decided))
                  (ends.all_writes old.dirs old.namespace (kind_of old) old.prohibit_windows_device_names mode before (disk_of decided) given ran packed rewrite ways (out h) (laid h) (ready h good) good.0 good.1 (repack h good) (text_held h)) (view_of decided.tree)

              ran_inside : Passes decided mid (IsReachedBy (steps_in all_entries) (disk_of decided)) → Passes decided released Inside
              ran_inside passes =
                  ends.within_run old.dirs old.namespace (kind_of old) old.prohibit_windows_device_names mode before (disk_of decided) given ran packed rewrite ways (out h) (laid h) (ready h good) good.0 good.1 (repack h good) (text_held h)
                  decided mid released refl settled_then.1 passes only_mine

              -- a loss of power leaves each reference as before or as edited
              abbrev pub EndsWell : Disk → Type 0
              EndsWell E = (T : Tree) → Lost E T → IsLostWell s mode locked (with_extras given lines) (disk_of decided) before T

              inside_well : (E : Disk) → Inside E → EndsWell E
              inside_well E inside T loss = subst (λ (ls : List Extra). IsLostWell s mode locked (with_extras given ls) (disk_of decided) before T) (own_lines h)
                  (ends.lost_well old.dirs old.namespace (kind_of old) old.prohibit_windows_device_names mode before (disk_of decided) given ran packed rewrite ways (out h) (laid h) (ready h good) good.0 good.1 (repack h good) (text_held h)
                  settled_then.0 E T inside loss)

              -- and so where empty folders are removed after the run
              all_well : Passes decided mid (IsReachedBy (steps_in all_entries) (disk_of decided)) → Passes released now (LosesNoMore (disk_of released)) → Passes decided now EndsWell
              all_well passes tidied =
                  let inside = ran_inside passes in
                  passes_joins (passes_weaken inside inside_well)
                  (passes_weaken tidied
                  (λ E less T loss.
                  let early = less T loss in
                  lost_well_alike s mode locked (with_extras given lines) (disk_of decided) before T early.0 early.2 (inside_well (disk_of released) inside.disk early.0 early.1)))

              pub lost : Passes decided mid (IsReachedBy (steps_in all_entries) (disk_of decided)) → Passes released now (LosesNoMore (disk_of released)) → EveryLossIsOldOrNew honest means faults mode old start new given lines
              lost passes tidied = record {
                began = λ T loss. lost_early h good rest.0 staying (disk_of first) T (as_before locked staying (disk_of first) rest.1) loss;
                loses = losses (IsLostWell s mode locked (with_extras given lines) (disk_of first) before)
                    (λ E among T loss. ⊎_elim
                    (λ same. lost_early h good rest.0 staying E T same loss)
                    (λ well. nothing.lost_before s mode locked staying (with_extras given lines) (disk_of first) (disk_of decided) before T early.disk (well T loss))
                    among)
                    (passes_joins (passes_weaken early (λ E same. inl same)) (passes_weaken (all_well passes tidied) (λ E well. inr well)));
              }

            -- a whole run leaves all settled
            pub settled : IsSyncedAfter (steps_in all_entries) (disk_of decided) (disk_of mid) → OnlyFolders old.dirs released now → new.dirs ≡ start.dirs → new.namespace ≡ start.namespace → IsAtRest means new
            settled done folders dirs_same namespace_same =
                let end = ends.settles old.dirs old.namespace (kind_of old) old.prohibit_windows_device_names mode before (disk_of decided) given ran packed rewrite ways (out h) (laid h) mid (disk_of now) settled_then.0 settled_then.1 done
                (λ same. (as_left folders same).disk) in
                (end.0, subst (λ (f : Layout). AllStay (disk_of now) (roots f)) (sym (ap (λ (dirs : Dirs). folders_of dirs new.namespace) (dirs_same ∙ from.held.same.dirs) ∙ ap (folders_of old.dirs) (namespace_same ∙ from.held.same.namespace))) end.1)
