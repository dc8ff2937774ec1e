-- Edits that are judged while the lock of `packed-refs` is held are judged as before.
use Rattle.std.proofs.Common.{◌≡◌, ◌≢◌, ◌⊎◌, inl, inr, ⊎_elim, ℕ, suc, List, [], ◌∷◌, ◌++◌, true, Bool, Option, is_some, Some, None, All, refl, sym, ◌∙◌, ap, subst, arith}
use Rattle.std.specs.Prelude.{IsSome, ◌||◌, false}
use Rattle.gix_ref_target.specs.Targets.{TargetValue}
use Rattle.gix_ref_hash.specs.declared.hash.Kind.{Kind}
use Rattle.gix_ref_hash.specs.declared.hash.ObjectId.{ObjectId}
use Rattle.gix_ref_lookup.specs.Lookups.{HasNoKey, OfKey}
use Rattle.gix_ref_files.specs.Lock.{lock_of}
use Rattle.gix_ref_files.specs.Tree.{Tree, Path, Content, fronts, is_blocked, is_file}
use Rattle.gix_ref_files.specs.Tree.Content.{File, Folder}
use Rattle.gix_ref_theory.specs.Edits.{Effect, Mode}
use Rattle.gix_ref_theory.specs.OnRealTrees.{file_of, view_of}
use Rattle.gix_ref_theory.specs.Readings.{Store, records_of_file}
use Rattle.gix_ref_edits.specs.RefEdits.{name_of, expected_of, new_of, Expects}
use Rattle.gix_ref_edits.specs.declared.transaction.RefEdit.{RefEdit}
use Rattle.gix_ref_transaction.specs.Causes.{decoded, found, found_by, packed_id, packed_of, AreRecordIds, IsApartFromPacked, IsFindCause, IsHidden, IsIdOfKey, IsRecordId, IsUnreadableRecord, OfSomeKey, IsEditFault, IsFirstCause, IsLockable, IsMismatch, IsUnlockable, NoCause, IsEditAccepted}
use Rattle.gix_ref_transaction.specs.OwnLocks.{is_in, IsOurs}
use Rattle.gix_ref_transaction.specs.PrepareSteps.{packed_ids, effect_on, effects_on, files_at, has_file_at, lock_text, old_targets, updates, AreLockable, AreSettled, HoldTexts, IsPackedPlace, TakesPacked}
use Rattle.gix_ref_transaction.specs.declared.edit.Edit.{Edit}
use Rattle.gix_ref_transaction.specs.declared.prepare.error.Error.{Error}
use Rattle.gix_ref_transaction.specs.declared.prepare.error.Error.TheVariants.{UnsafeName, DeviceName, DeleteMustNotExist, TargetNotFull, OtherHashKind, PreprocessingFailed, PackedTransactionAcquire, Packed, PackedFind, PackedTransactionPrepare, PathCollision, LockAcquire, DeleteReferenceMustExist, MustExist, MustNotExist, ReferenceOutOfDate, ReferenceDecode, Io, Memory}
use Rattle.gix_ref_transaction.proofs.Adds.{any_same, clash, in_one}
use Rattle.gix_ref_transaction.proofs.LookupLemmas.{effect_alike}
use Rattle.gix_ref_transaction.proofs.UnreadRecords.{find_wider}

-- At a path there is what was there before, or a new folder that leads to the lock.
abbrev pub IsSameButWay : Path → (plain held : Tree) → Path → Type 0
IsSameButWay lock plain held q = (held q ≡ plain q)
    ⊎ ((plain q ≡ None) × (held q ≡ Some Folder) × (is_in (fronts lock) q ≡ true))

module _ (s : Store) (kind : Kind) (plain held : Tree) (off : (q : Path) → q ≢ lock_of s.packed_path → IsSameButWay (lock_of s.packed_path) plain held q) (packed_lock : s.packed_path ≢ lock_of s.packed_path) where
  -- what does not see folders is the same
  off_file : {X : Type 0} (look : Option Content → X) → look (Some Folder) ≡ look None → (q : Path) → q ≢ lock_of s.packed_path → look (held q) ≡ look (plain q)
  off_file look blind q other = ⊎_elim (λ same. ap look same) (λ new. ap look new.1 ∙ (blind ∙ ap look (sym new.0))) (off q other)

  -- off the way to the lock all is the same
  pub off_way : (q : Path) → q ≢ lock_of s.packed_path → is_in (fronts (lock_of s.packed_path)) q ≡ false → held q ≡ plain q
  off_way q other out = ⊎_elim (λ same. same) (λ new. clash new.2 out) (off q other)

  pub same_packed : view_of held s.packed_path ≡ view_of plain s.packed_path
  same_packed = off_file file_of refl s.packed_path packed_lock

  -- one edit
  module _ (edit : RefEdit) (apart : IsApartFromPacked s edit) where
    abbrev lock : Path
    lock = lock_of (s.place (name_of edit))

    same_way : is_blocked held lock ≡ is_blocked plain lock
    same_way = any_same (λ f. is_file (held f)) (λ f. is_file (plain f)) (fronts lock)
        (λ f within. off_file is_file refl f (λ same. clash (subst (λ (p : Path). is_in (fronts lock) p ≡ true) same within) apart.way))

    at_lock : held lock ≡ plain lock
    at_lock = off_way lock apart.lock apart.behind

    same_place : view_of held (s.place (name_of edit)) ≡ view_of plain (s.place (name_of edit))
    same_place = off_file file_of refl (s.place (name_of edit)) apart.place

    same_file : has_file_at s held edit ≡ has_file_at s plain edit
    same_file = ap is_some same_place

    same_found : found s (view_of held) (name_of edit) ≡ found s (view_of plain) (name_of edit)
    same_found =
        ap (λ (file : Option (List ℕ)). found_by s (decoded s file) (packed_of s (view_of held) (name_of edit))) same_place
        ∙ ap (λ (file : Option (List ℕ)). found_by s (decoded s (view_of plain (s.place (name_of edit)))) (packed_id (s.key (name_of edit)) (records_of_file s file))) same_packed

    same_effect : (mode : Mode) → effect_on s mode (view_of held) edit ≡ effect_on s mode (view_of plain) edit
    same_effect mode = effect_alike mode s (view_of held) (view_of plain) edit same_place same_packed

    hidden_on : IsHidden s (view_of held) edit → IsHidden s (view_of plain) edit
    hidden_on hidden = (hidden.0, subst (λ (file : Option (List ℕ)). IsSome (decoded s file)) same_place hidden.1)

    hidden_back : IsHidden s (view_of plain) edit → IsHidden s (view_of held) edit
    hidden_back hidden = (hidden.0, subst (λ (file : Option (List ℕ)). IsSome (decoded s file)) (sym same_place) hidden.1)

    record_id_on : (id : Option ObjectId) → IsRecordId s kind (view_of held) edit id → IsRecordId s kind (view_of plain) edit id
    record_id_on id (inl hidden) = inl (hidden_on hidden)
    record_id_on id (inr asked) = inr (subst (λ (packed : Option (List ℕ)). (HasNoKey s (name_of edit) × (id ≡ None)) ⊎ OfKey s (name_of edit) (λ key. IsIdOfKey kind packed key id)) same_packed asked)

    lockable_on : (seen : List RefEdit) → IsLockable s kind held seen edit → IsLockable s kind plain seen edit
    lockable_on seen can = record { way = sym same_way ∙ can.way; free = sym at_lock ∙ can.free; ours = can.ours }

    passes_on : (seen : List RefEdit) → IsEditAccepted s kind held seen edit → IsEditAccepted s kind plain seen edit
    passes_on seen passes = (lockable_on seen passes.0, subst (Expects (expected_of edit.change) (new_of edit.change)) same_found passes.1)

    unlockable_on : (seen : List RefEdit) (error : Error) → IsUnlockable s kind held seen edit error → IsUnlockable s kind plain seen edit error
    unlockable_on seen (PathCollision name) why = (why.0, sym same_way ∙ why.1)
    unlockable_on seen (LockAcquire name) why = (why.0, ⊎_elim (λ some. inl (subst (λ (n : Option Content). IsSome n) at_lock some)) (λ ours. inr ours) why.1)
    unlockable_on seen (Io error) why = absurd why
    unlockable_on seen Memory why = absurd why
    unlockable_on seen UnsafeName why = absurd why
    unlockable_on seen DeviceName why = absurd why
    unlockable_on seen DeleteMustNotExist why = absurd why
    unlockable_on seen TargetNotFull why = absurd why
    unlockable_on seen OtherHashKind why = absurd why
    unlockable_on seen (PreprocessingFailed source) why = absurd why
    unlockable_on seen PackedTransactionAcquire why = absurd why
    unlockable_on seen (Packed error) why = absurd why
    unlockable_on seen (PackedFind error) why = absurd why
    unlockable_on seen (DeleteReferenceMustExist name) why = absurd why
    unlockable_on seen (MustExist name expected) why = absurd why
    unlockable_on seen (MustNotExist name actual new) why = absurd why
    unlockable_on seen (ReferenceOutOfDate name expected actual) why = absurd why
    unlockable_on seen (PackedTransactionPrepare source) why = absurd why
    unlockable_on seen (ReferenceDecode source) why = absurd why

    fault_on : (seen : List RefEdit) (error : Error) → IsEditFault s kind held seen edit error → IsEditFault s kind plain seen edit error
    fault_on seen error (inl outside) = inl outside
    fault_on seen error (inr (inl locked)) = inr (inl (unlockable_on seen error locked))
    fault_on seen error (inr (inr mismatch)) = inr (inr (lockable_on seen mismatch.0, subst (λ (f : Option TargetValue). IsMismatch kind edit f error) same_found mismatch.1))

  -- and all
  abbrev AreApart : List RefEdit → Type 0
  AreApart some = All (IsApartFromPacked s) some

  first : (e : RefEdit) (some : List RefEdit) → AreApart (e ∷ some) → IsApartFromPacked s e
  first e some apart = apart 0 e (omega arith)

  others : (e : RefEdit) (some : List RefEdit) → AreApart (e ∷ some) → AreApart some
  others e some apart k d lt = apart (suc k) d (omega (arith, lt))

  -- the ids of their records are as they are judged
  pub record_ids_on : (some : List RefEdit) (ids : List (Option ObjectId)) → AreApart some → AreRecordIds s kind (view_of held) some ids → AreRecordIds s kind (view_of plain) some ids
  record_ids_on [] [] apart are = tt
  record_ids_on (e ∷ some) (id ∷ ids) apart are = (record_id_on e (first e some apart) id are.0, record_ids_on some ids (others e some apart) are.1)
  record_ids_on [] (id ∷ ids) apart are = absurd are
  record_ids_on (e ∷ some) [] apart are = absurd are

  -- and a record that cannot be read is one before
  pub find_cause_on : (some : List RefEdit) (error : Error) → AreApart some → IsFindCause s kind (view_of held) some error → IsFindCause s kind (view_of plain) some error
  find_cause_on some error apart cause =
      find_wider (OfSomeKey (λ edit. IsHidden s (view_of held) edit → ⊥) (IsUnreadableRecord kind (view_of held s.packed_path)) s some)
      (OfSomeKey (λ edit. IsHidden s (view_of plain) edit → ⊥) (IsUnreadableRecord kind (view_of plain s.packed_path)) s some) error
      (λ one. (
        one.0,
        one.1,
        one.2,
        one.3,
        (
          λ hidden. one.4.0 (hidden_back one.1 (subst (IsApartFromPacked s) one.3 (apart one.0 one.1 one.2)) hidden),
          (one.4.1.0, one.4.1.1, subst (λ (packed : Option (List ℕ)). IsUnreadableRecord kind packed one.4.1.0) same_packed one.4.1.2),
        ),
      ))
      cause

  pub no_cause_on : (seen some : List RefEdit) → AreApart some → NoCause s kind held seen some → NoCause s kind plain seen some
  no_cause_on seen [] apart none = tt
  no_cause_on seen (e ∷ some) apart none = (passes_on e (first e some apart) seen none.0, no_cause_on (seen ++ e ∷ []) some (others e some apart) none.1)

  pub first_cause_on : (seen some : List RefEdit) (error : Error) → AreApart some → IsFirstCause s kind held seen some error → IsFirstCause s kind plain seen some error
  first_cause_on seen [] error apart cause = absurd cause
  first_cause_on seen (e ∷ some) error apart (inl here) = inl (fault_on e (first e some apart) seen error here)
  first_cause_on seen (e ∷ some) error apart (inr later) = inr (passes_on e (first e some apart) seen later.0, first_cause_on (seen ++ e ∷ []) some error (others e some apart) later.1)

  pub lockable_all_on : (seen some : List RefEdit) → AreApart some → AreLockable s kind held seen some → AreLockable s kind plain seen some
  lockable_all_on seen [] apart can = tt
  lockable_all_on seen (e ∷ some) apart can = (lockable_on e (first e some apart) seen can.0, lockable_all_on (seen ++ e ∷ []) some (others e some apart) can.1)

  texts_on : (mode : Mode) (T : Tree) (some : List RefEdit) → AreApart some → HoldTexts s mode held T some → HoldTexts s mode plain T some
  texts_on mode T [] apart hold = tt
  texts_on mode T (e ∷ some) apart hold = (hold.0 ∙ ap (λ (w : Effect). Some (File (lock_text w))) (same_effect e (first e some apart) mode), texts_on mode T some (others e some apart) hold.1)

  targets_on : (some : List RefEdit) → AreApart some → old_targets s held some ≡ old_targets s plain some
  targets_on [] apart = refl
  targets_on (e ∷ some) apart = ap (λ (f : Option TargetValue). f ∷ old_targets s held some) (same_found e (first e some apart)) ∙ ap (λ (l : List (Option TargetValue)). found s (view_of plain) (name_of e) ∷ l) (targets_on some (others e some apart))

  files_on : (some : List RefEdit) → AreApart some → files_at s held some ≡ files_at s plain some
  files_on [] apart = refl
  files_on (e ∷ some) apart = ap (λ (b : Bool). b ∷ files_at s held some) (same_file e (first e some apart)) ∙ ap (λ (l : List Bool). has_file_at s plain e ∷ l) (files_on some (others e some apart))

  effects_as : (mode : Mode) (some : List RefEdit) → AreApart some → effects_on s mode (view_of held) some ≡ effects_on s mode (view_of plain) some
  effects_as mode [] apart = refl
  effects_as mode (e ∷ some) apart = ap (λ (w : Effect). w ∷ effects_on s mode (view_of held) some) (same_effect e (first e some apart) mode) ∙ ap (λ (l : List Effect). effect_on s mode (view_of plain) e ∷ l) (effects_as mode some (others e some apart))

  ids_on : (some : List RefEdit) → packed_ids s held some ≡ packed_ids s plain some
  ids_on [] = refl
  ids_on (e ∷ some) =
      ap (λ (file : Option (List ℕ)). packed_id (s.key (name_of e)) (records_of_file s file) ∷ packed_ids s held some) same_packed
      ∙ ap (λ l. packed_of s (view_of plain) (name_of e) ∷ l) (ids_on some)

  pub settled_on : {mode : Mode} (T : Tree) (old new : List Edit) → AreApart (updates old) → AreSettled s mode kind held T old new → AreSettled s mode kind plain T old new
  settled_on {mode = mode} T old new apart settled = record {
    was = settled.was ∙ targets_on (updates old) apart;
    files = settled.files ∙ files_on (updates old) apart;
    what = settled.what ∙ effects_as mode (updates old) apart;
    ids = settled.ids ∙ ids_on (updates old);
    no_cause = no_cause_on [] (updates old) apart settled.no_cause;
    texts = texts_on mode T (updates old) apart settled.texts;
  }

-- elsewhere the tree is as before the lock was taken
pub off_lock : (s : Store) (plain held : Tree) (packed : Option Path) → IsPackedPlace s packed → TakesPacked plain packed held → (q : Path) → q ≢ lock_of s.packed_path → IsSameButWay (lock_of s.packed_path) plain held q
off_lock s plain held None place takes q other = inl (ap (λ (T : Tree). T q) takes)
off_lock s plain held (Some place) (inl none) takes q other = cc
off_lock s plain held (Some place) (inr is) takes q other =
    ⊎_elim (λ same. inl same)
    (λ new. inr (by (held q) refl (subst (λ (p : Path). IsOurs (lock_of p ∷ []) (lock_of p ∷ []) q (held q)) (inner is) new.1) new.0))
    (takes.2 q)
  where
    inner : {x y : Path} → Some x ≡ Some y → x ≡ y
    inner e = cc

    or_none : (b : Bool) → (b || false) ≡ b
    or_none true = refl
    or_none false = refl

    by : (n : Option Content) → held q ≡ n → IsOurs (lock_of s.packed_path ∷ []) (lock_of s.packed_path ∷ []) q n → plain q ≡ None → (plain q ≡ None) × (held q ≡ Some Folder) × (is_in (fronts (lock_of s.packed_path)) q ≡ true)
    by (Some (File bytes)) at ours none = absurd (other (sym (in_one (lock_of s.packed_path) q ours)))
    by (Some Folder) at ours none = (none, at, sym (or_none (is_in (fronts (lock_of s.packed_path)) q)) ∙ ours)
    by None at ours none = absurd ours
