-- A `prepare` that first read files for its splits, from the store with which it began.
use Rattle.gix_ref_transaction.proofs.Faults.{risen_by_before, risen_by_none}
use Rattle.gix_ref_files.proofs.Meeting.{no_fewer_joins, no_fewer_starts}
use Rattle.gix_ref_files.specs.declared.files.FileError.{FileError}
use Rattle.std.proofs.Common.{◌≡◌, ◌⊎◌, inl, inr, ⊎_elim, List, [], true, Option, refl, sym, ◌∙◌, ap, subst, arith, Result, Ok, Err, IfOk, IfErr, MatchResult, Vec, Global, length}
use Rattle.gix_ref_target.specs.Targets.{TargetValue}
use Rattle.gix_ref_files.specs.Disk.{Disk}
use Rattle.gix_ref_files.specs.Tree.{Tree, Path}
use Rattle.gix_ref_files.specs.Files.{Meaning, Leaves, Passes, HasRisenBy, FaultCounts}
use Rattle.gix_ref_files.specs.Settled.{AllStay}
use Rattle.gix_ref_files.proofs.Moments.{joins, weaken, passes_joins, passes_weaken}
use Rattle.gix_ref_theory.specs.OnDisks.{IsAsBefore}
use Rattle.gix_ref_hash.specs.declared.hash.ObjectId.{ObjectId}
use Rattle.gix_ref_object.specs.Objects.{Stored}
use Rattle.gix_ref_theory.specs.Edits.{Mode}
use Rattle.gix_ref_theory.specs.OnRealTrees.{view_of}
use Rattle.gix_ref_theory.proofs.LockDisks.{as_before}
use Rattle.gix_ref_edits.specs.DoubledNames.{NoneDoubled}
use Rattle.gix_ref_edits.specs.declared.transaction.RefEdit.{RefEdit}
use Rattle.gix_ref_transaction.specs.Causes.{AllValid, AreRecordIds, IsAccepted, IsCounted, IsDoubling, IsFindCause, IsPackedRefusal, IsPackedWell, names_of, packed_taken}
use Rattle.gix_ref_lookup.specs.Lookups.{IsOpenable}
use Rattle.gix_ref_transaction.specs.Peels.{IsLockCause}
use Rattle.gix_ref_transaction.specs.OwnLocks.{AddsLocks, is_in, times}
use Rattle.gix_ref_transaction.specs.PrepareSteps.{packed_ids, ids_in, targets_of, AreLockable, AreWholeLocks, effects_on, files_at, HoldTexts, old_targets, own_locks, own_places}
use Rattle.gix_ref_transaction.specs.SplitOutcomes.{IsNotSplit, IsSplitOf}
use Rattle.gix_ref_transaction.specs.Splits.{AreDirect, IsSplitCause}
use Rattle.gix_ref_files.specs.ReadOnly.{OnlyReads}
use Rattle.gix_ref_transaction.specs.declared.edit.Edit.{Edit}
use Rattle.gix_ref_transaction.specs.declared.prepare.error.Error.{Error}
use Rattle.gix_ref_transaction.specs.declared.prepare.error.Error.TheVariants.{Memory}
use Rattle.gix_ref_transaction.specs.declared.prepare.split.SplitEdits.{SplitEdits}
use Rattle.gix_ref_files.proofs.ReadOnly.{reads_none}
use Rattle.gix_ref_transaction.proofs.UnreadRecords.{no_find}
use Rattle.gix_ref_transaction.proofs.PackedLemmas.{counted_later, counted_on, not_packed}
use Rattle.gix_ref_store.specs.Prepared.{HasGoodRecords, HoldsFrom, HoldsPacked, HoldsSplit, KeepsAll, LosesNothing, RefusesFrom, RefusesSplit, SplitsFrom, disk_in, locks_in, places_in, tree_of}
use Rattle.gix_ref_store.specs.Store.{files_of, kind_of, meaning_of, with_files}
use Rattle.gix_ref_store.specs.declared.file.store.Store.{Store}
use Rattle.gix_ref_store.proofs.PreparedLosses.{kept_loses}

-- nothing is added to a tree that is the same
same_adds : (left all : List Path) (S T : Tree) → T ≡ S → AddsLocks left all S T
same_adds left all S T same q = inl (ap (λ (U : Tree). U q) same)

none_in : (q : Path) → is_in [] q ≡ true → ⊥
none_in q within = cc

module _ {F : Type 0} (honest : Type 0) (means : F → Meaning) (faults : F → FaultCounts) (mode : Mode) (old : Store F) (files : F) (reads : OnlyReads honest means faults (files_of old) files) where
  abbrev mid : Store F
  mid = with_files old files

  same_tree : honest → tree_of means mid ≡ tree_of means old
  same_tree h = (reads.leaves h).tree

  good_mid : honest → HasGoodRecords means old → HasGoodRecords means mid
  good_mid h good = subst (λ (T : Tree). IsPackedWell (kind_of old) (view_of T (meaning_of old).packed_path)) (sym (same_tree h)) good

  locks_same : honest → (edits : List RefEdit) → locks_in means mode mid edits ≡ locks_in means mode old edits
  locks_same h edits = ap (λ (T : Tree). own_locks (meaning_of old) mode T edits) (same_tree h)

  places_same : honest → (edits : List RefEdit) → places_in means mode mid edits ≡ places_in means mode old edits
  places_same h edits = ap (λ (T : Tree). own_places (meaning_of old) mode T edits) (same_tree h)

  leaves_on : (h : honest) (new : Store F) (locks : List Path) → Leaves (means files) (means (files_of new)) (AddsLocks locks locks (tree_of means mid)) →
      Leaves (means (files_of old)) (means (files_of new)) (AddsLocks locks locks (tree_of means old))
  leaves_on h new locks later = joins
      (weaken (reads.leaves h) (λ T same. same_adds locks locks (tree_of means old) T same))
      (subst (λ (S : Tree). Leaves (means files) (means (files_of new)) (AddsLocks locks locks S)) (same_tree h) later)

  keeps_on : (h : honest) (new : Store F) (edits : List RefEdit) → KeepsAll means mode mid new edits → KeepsAll means mode old new edits
  keeps_on h new edits keeps staying stays =
      let same : disk_in means mid ≡ disk_in means old = (reads.passes h).disk in
      let same_places : places_in means mode mid edits ≡ places_in means mode old edits = places_same h edits in
      let places = places_in means mode old edits in
      passes_joins
      (passes_weaken (reads.passes h) (λ D is. subst (IsAsBefore places staying (disk_in means old)) (sym is) (as_before places staying (disk_in means old) stays)))
      (subst (λ (D : Disk). Passes (means files) (means (files_of new)) (IsAsBefore places staying D)) same (subst (λ (ps : List Path). Passes (means files) (means (files_of new)) (IsAsBefore ps staying (disk_in means mid))) same_places (keeps staying (subst (λ (D : Disk). AllStay D staying) (sym same) stays))))

  keeps_none : (h : honest) (edits : List RefEdit) → KeepsAll means mode old mid edits
  keeps_none h edits staying stays =
      let places = places_in means mode old edits in
      passes_weaken (reads.passes h) (λ D is. subst (IsAsBefore places staying (disk_in means old)) (sym is) (as_before places staying (disk_in means old) stays))

  loses_on : (h : honest) (new : Store F) (edits : List RefEdit) → LosesNothing means mode mid new edits → LosesNothing means mode old new edits
  loses_on h new edits loses = kept_loses means mode old new edits (keeps_on h new edits loses.keeps)

  effects_same : (h : honest) (edits : List RefEdit) → effects_on (meaning_of old) mode (view_of (tree_of means mid)) edits ≡ effects_on (meaning_of old) mode (view_of (tree_of means old)) edits
  effects_same h edits = ap (λ (T : Tree). effects_on (meaning_of old) mode (view_of T) edits) (same_tree h)

  files_same : (h : honest) (edits : List RefEdit) → files_at (meaning_of old) (tree_of means mid) edits ≡ files_at (meaning_of old) (tree_of means old) edits
  files_same h edits = ap (λ (T : Tree). files_at (meaning_of old) T edits) (same_tree h)

  ids_same : (h : honest) (edits : List RefEdit) → packed_ids (meaning_of old) (tree_of means mid) edits ≡ packed_ids (meaning_of old) (tree_of means old) edits
  ids_same h edits = ap (λ (T : Tree). packed_ids (meaning_of old) T edits) (same_tree h)

  read_on : (h : honest) (edits : List RefEdit) (ids : List (Option ObjectId)) → AreRecordIds (meaning_of old) (kind_of old) (view_of (tree_of means mid)) edits ids → AreRecordIds (meaning_of old) (kind_of old) (view_of (tree_of means old)) edits ids
  read_on h edits ids are = subst (λ (T : Tree). AreRecordIds (meaning_of old) (kind_of old) (view_of T) edits ids) (same_tree h) are

  holds_on : (new : Store F) (split : List RefEdit) (was : List (Option TargetValue)) → HoldsFrom honest means faults mode mid new split was → HoldsFrom honest means faults mode old new split was
  holds_on new split was held = record {
    accepted = λ h good. subst (λ (T : Tree). IsAccepted (meaning_of old) mode (kind_of old) T split) (same_tree h) (held.accepted h (good_mid h good));
    found = λ h good. subst (λ (T : Tree). was ≡ old_targets (meaning_of old) T split) (same_tree h) (held.found h (good_mid h good));
    texts = λ h good. subst (λ (T : Tree). HoldTexts (meaning_of old) mode T (tree_of means new) split) (same_tree h) (held.texts h (good_mid h good));
    opened = λ h. subst (λ (T : Tree). IsOpenable (kind_of old) (view_of T (meaning_of old).packed_path)) (same_tree h) (held.opened h);
    valid = held.valid;
    lockable = λ h. subst (λ (T : Tree). AreLockable (meaning_of old) (kind_of old) T [] split) (same_tree h) (held.lockable h);
    adds = λ h. subst (λ (T : Tree). AddsLocks (own_locks (meaning_of old) mode T split) (own_locks (meaning_of old) mode T split) T (tree_of means new)) (same_tree h) (held.adds h);
    leaves = λ h. leaves_on h new (locks_in means mode old split) (subst (λ (l : List Path). Leaves (means files) (means (files_of new)) (AddsLocks l l (tree_of means mid))) (locks_same h split) (held.leaves h));
    no_fewer = no_fewer_joins reads.no_fewer held.no_fewer;
    same = record { dirs = held.same.dirs; namespace = held.same.namespace; of_kind = held.same.of_kind; reflogs = held.same.reflogs; composes = held.same.composes; prohibits = held.same.prohibits; threshold = held.same.threshold };
  }

  packed_on : (new : Store F) (split : List RefEdit) (packed : Option Path) → HoldsPacked honest means faults mode mid new split packed → HoldsPacked honest means faults mode old new split packed
  packed_on new split packed holds = record {
    place = holds.place;
    due = λ h. holds.due h ∙ ap (λ (T : Tree). packed_taken (meaning_of old) mode T split) (same_tree h);
    empty = holds.empty;
  }

  -- what is held of the split list
  pub split_on : (claims : Type 0) (meaning : ObjectId → Stored) (new : Store F) (split : List RefEdit) (packed : Option Path) (edits : List Edit) →
      HoldsSplit honest means faults claims meaning mode mid new split packed edits → HoldsSplit honest means faults claims meaning mode old new split packed edits
  split_on claims meaning new split packed edits holds = record {
    held = holds_on new split (targets_of edits) holds.held;
    lost = λ h. loses_on h new split (holds.lost h);
    whole = λ h. subst (AreWholeLocks (disk_in means new)) (locks_same h split) (holds.whole h);
    packed = packed_on new split packed holds.packed;
    places = holds.places;
    effects = λ h good. holds.effects h (good_mid h good) ∙ effects_same h split;
    files = λ h good. holds.files h (good_mid h good) ∙ files_same h split;
    ids = λ h good. holds.ids h (good_mid h good) ∙ ids_same h split;
    read = λ h. read_on h split (ids_in edits) (holds.read h);
    put = holds.put;
  }

  -- a refusal of the split list is one of the edits that were given
  pub refused_on : (read : FileError → Type 0) (claims : Type 0) (meaning : ObjectId → Stored) (new : Store F) (given split : List RefEdit) (error : Error) (left : List Path) → SplitsFrom honest means faults old given split →
      RefusesSplit honest read means faults claims meaning mode mid new split error left → (honest → LosesNothing means mode mid new split) → RefusesFrom honest read means faults claims meaning mode old new given error left
  refused_on read claims meaning new given split error left splits refused lost = record {
    tried = split;
    split = λ h. inl (splits.is h);
    direct = splits.direct;
    cause = λ h good. ⊎_elim (λ outside. inl (inl outside))
        (λ cause. inr (
          splits.valid,
          splits.can_follow h,
          (
            split,
            splits.is h,
            subst (λ (T : Tree). IsDoubling split error ⊎ (NoneDoubled (names_of split) × IsLockCause claims meaning (meaning_of old) mode (kind_of old) T split error)) (same_tree h) cause,
          ),
        ))
        (refused.cause h (good_mid h good));
    opened = λ h. subst (λ (T : Tree). IsPackedRefusal (kind_of old) (T (meaning_of old).packed_path) error) (same_tree h) (refused.opened h);
    unread = λ h. subst (λ (T : Tree). IsFindCause (meaning_of old) (kind_of old) (view_of T) split error) (same_tree h) (refused.unread h);
    counted = counted_on honest read (faults (files_of old)) (faults files) (faults (files_of new)) error reads.no_fewer refused.counted;
    as_before = λ h. subst (λ (T : Tree). AddsLocks left (own_locks (meaning_of old) mode T split) T (tree_of means new)) (same_tree h) (refused.as_before h);
    ours = refused.ours;
    once = refused.once;
    named = risen_by_before _ (faults (files_of old)) (faults files) (faults (files_of new)) reads.no_fewer refused.named;
    leaves = λ h. leaves_on h new (locks_in means mode old split) (subst (λ (l : List Path). Leaves (means files) (means (files_of new)) (AddsLocks l l (tree_of means mid))) (locks_same h split) (refused.leaves h));
    lost = λ h. loses_on h new split (lost h);
    same = record { dirs = refused.same.dirs; namespace = refused.same.namespace; of_kind = refused.same.of_kind; reflogs = refused.same.reflogs; composes = refused.same.composes; prohibits = refused.same.prohibits; threshold = refused.same.threshold };
  }

  -- a refusal before there is a split list
  pub refused_before : (read : FileError → Type 0) (claims : Type 0) (meaning : ObjectId → Stored) (given : List RefEdit) (error : Error) (left : List Path) → left ≡ [] → (honest → IsSplitCause (meaning_of old) (kind_of old) (tree_of means old) given error) →
      IsCounted (faults (files_of old)) (faults files) error → RefusesFrom honest read means faults claims meaning mode old mid given error left
  refused_before read claims meaning given error left none cause counted = record {
    tried = given;
    split = λ h. inr refl;
    direct = λ direct. refl;
    cause = λ h good. inl (cause h);
    opened = λ h. (not_packed (kind_of old) (tree_of means old (meaning_of old).packed_path) (faults (files_of old)) (faults files) error counted).0;
    unread = λ h. no_find _ (faults (files_of old)) (faults files) error counted;
    counted = counted_later honest read (faults (files_of old)) (faults (files_of old)) (faults files) error (no_fewer_starts (faults (files_of old))) counted;
    as_before = λ h. same_adds left (locks_in means mode old given) (tree_of means old) (tree_of means mid) (same_tree h);
    ours = λ q within. absurd (none_in q (subst (λ paths. is_in paths q ≡ true) none within));
    once = λ q. let zero : times q left ≡ 0 = ap (times q) none in omega (arith, zero);
    named = subst (λ (l : List Path). HasRisenBy (length l) (faults (files_of old)) (faults files)) (sym none) (risen_by_none (faults (files_of old)) (faults files) reads.no_fewer);
    leaves = λ h. weaken (reads.leaves h) (λ T same. same_adds (locks_in means mode old given) (locks_in means mode old given) (tree_of means old) T same);
    lost = λ h. kept_loses means mode old mid given (keeps_none h given);
    same = record { dirs = refl; namespace = refl; of_kind = refl; reflogs = refl; composes = refl; prohibits = refl; threshold = refl };
  }

-- a refusal before any file is read: there was no memory
pub refused_unread : {F : Type 0} (honest : Type 0) (read : FileError → Type 0) (means : F → Meaning) (faults : F → FaultCounts) (claims : Type 0) (meaning : ObjectId → Stored) (mode : Mode) (old : Store F) (given : List RefEdit) (error : Error) (left : List Path) → error ≡ Memory → left ≡ [] →
    RefusesFrom honest read means faults claims meaning mode old old given error left
refused_unread honest read means faults claims meaning mode old given error left is none =
    refused_before honest means faults mode old (files_of old) (reads_none honest means faults (files_of old)) read claims meaning given error left none
    (λ h. subst (IsSplitCause (meaning_of old) (kind_of old) (tree_of means old) given) (sym is) (inl tt))
    (subst (IsCounted (faults (files_of old)) (faults (files_of old))) (sym is) tt)

-- The split list of edits, from what the splits say of it.
module _ {F : Type 0} (honest : Type 0) (means : F → Meaning) (faults : F → FaultCounts) (old : Store F) (given : List RefEdit) (valid : AllValid (meaning_of old) (kind_of old) [] given) where
  pub splits_from : (r : Result SplitEdits (Error × Vec RefEdit Global)) → IfOk r (IsSplitOf honest (meaning_of old) (kind_of old) (tree_of means old) given) → (AreDirect given → MatchResult r (λ split. split.edits.items ≡ given) (λ e. e.1.items ≡ given)) →
      IfOk r (λ split. SplitsFrom honest means faults old given split.edits.items)
  splits_from (Ok split) splits direct = record { is = splits.is; can_follow = splits.can_follow; valid = valid; updates = splits.updates; direct = direct }
  splits_from (Err error) splits direct = tt

  pub split_cause : (new : F) (r : Result SplitEdits (Error × Vec RefEdit Global)) → IfErr r (λ e. IsNotSplit honest means faults (meaning_of old) given (files_of old) new e.0) → honest → IfErr r (λ e. IsSplitCause (meaning_of old) (kind_of old) (tree_of means old) given e.0)
  split_cause new (Ok split) refused h = tt
  split_cause new (Err error) refused h = ⊎_elim (λ outside. inl outside) (λ cause. inr (inr (valid, cause))) (refused.cause h)
