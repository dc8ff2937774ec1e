-- One round of the loop that takes the locks, over plain meanings.
use Rattle.std.proofs.Common.{◌≡◌, ◌⊎◌, inl, inr, ⊎_elim, ℕ, ◌+◌, ◌<◌, List, [], ◌∷◌, ◌++◌, length, get_or, true, false, Option, Some, None, All, refl, sym, ◌∙◌, ap, subst, take, drop}
use Rattle.std.proofs.lemmas.List.Elements.{All-nil, All-cons}
use Rattle.std.proofs.lemmas.List.{map-append}
use Rattle.gix_ref_hash.specs.declared.hash.Kind.{Kind}
use Rattle.gix_ref_hash.specs.declared.hash.ObjectId.{ObjectId}
use Rattle.gix_ref_files.specs.Tree.{Tree, Path, put}
use Rattle.gix_ref_files.specs.Tree.Content.{File}
use Rattle.gix_ref_files.specs.Files.{Meaning, Leaves}
use Rattle.gix_ref_files.proofs.Moments.{weaken, joins}
use Rattle.gix_ref_theory.specs.Edits.{Mode}
use Rattle.gix_ref_transaction.specs.OwnLocks.{is_in, AddsLocks}
use Rattle.gix_ref_theory.specs.OnRealTrees.{view_of}
use Rattle.gix_ref_transaction.specs.Causes.{AllValid, IsPossible, IsValidEdit, found, packed_of, IsEditAccepted, IsEditFault, IsIoOrMemory, IsMismatch, NoCause, IsFirstCause, LocksAreApart, IsLockable, locks_of}
use Rattle.gix_ref_theory.specs.Readings.{Store}
use Rattle.gix_ref_transaction.specs.PrepareSteps.{lock_text, effect_on, effect_value, effects_of, effects_on, files_at, has_file_at, seen_files, targets_of, HoldTexts, AreLockable, value_of, IsRefusedLock, IsNewLock, FillsLock, old_targets}
use Rattle.gix_ref_edits.specs.RefEdits.{name_of, expected_of, new_of, Expects}
use Rattle.gix_ref_files.specs.Lock.{lock_of}
use Rattle.gix_ref_edits.specs.declared.transaction.RefEdit.{RefEdit}
use Rattle.gix_ref_transaction.specs.declared.edit.Edit.{Edit}
use Rattle.gix_ref_transaction.specs.declared.prepare.error.Error.{Error}
use Rattle.gix_ref_transaction.proofs.Firsts.{fault_here, fault_later, pass_more, seen_of}
use Rattle.gix_ref_transaction.proofs.Taking.{Held, front_in, more_here, refused, still, stop_taking, lockable, free_more, same_found, filling, stop_filling, held_more, same_id, same_has_file, same_effect, texts_more}

-- no edit is of a reference that the store prohibits
all_valid : (s : Store) (kind : Kind) (seen edits : List RefEdit) → AllValid s kind seen edits → All (IsValidEdit s kind) edits
all_valid s kind seen [] valid = All-nil (IsValidEdit s kind)
all_valid s kind seen (edit ∷ edits) valid = All-cons (IsValidEdit s kind) edit edits valid.0 (all_valid s kind (seen ++ edit ∷ []) edits valid.1)

pub possible_at : (s : Store) (kind : Kind) (edits : List RefEdit) → AllValid s kind [] edits → (i : ℕ) (edit : RefEdit) → i < length edits → edit ≡ get_or edits i edit → IsPossible edit.change
possible_at s kind edits valid i edit lt is = subst (λ (e : RefEdit). IsPossible e.change) (sym is) (all_valid s kind [] edits valid i edit lt).possible

pub allowed_at : (s : Store) (kind : Kind) (edits : List RefEdit) → AllValid s kind [] edits → (i : ℕ) (edit : RefEdit) → i < length edits → edit ≡ get_or edits i edit → s.is_prohibited (s.place (name_of edit)) ≡ false
allowed_at s kind edits valid i edit lt is = subst (λ (e : RefEdit). s.is_prohibited (s.place (name_of e)) ≡ false) (sym is) (all_valid s kind [] edits valid i edit lt).allowed

module _ (s : Store) (kind : Kind) (edits : List RefEdit) (apart : LocksAreApart s edits) (first mid : Meaning) (i : ℕ) (edit : RefEdit) (lt : i < length edits) (is : edit ≡ get_or edits i edit) (lock : Path) (at : lock ≡ lock_of (s.place (name_of edit))) (held : Held s kind edits apart first.tree (take i edits) mid.tree) (run : Leaves first mid (AddsLocks (locks_of s edits) (locks_of s edits) first.tree)) where
  abbrev all : List Path
  all = locks_of s edits

  abbrev seen : List RefEdit
  seen = take i edits

  abbrev T0 : Tree
  T0 = first.tree

  pub more : take (i + 1) edits ≡ seen ++ edit ∷ []
  more = seen_of edits i edit lt is

  known : (q : Path) → is_in (locks_of s seen) q ≡ true → is_in all q ≡ true
  known q h = front_in s kind edits i q h

  pub within : is_in all (lock_of (s.place (name_of edit))) ≡ true
  within = front_in s kind edits (i + 1) _ (subst (λ l. is_in (locks_of s l) (lock_of (s.place (name_of edit))) ≡ true) (sym more) (more_here s kind seen edit _ refl))

  place_apart : is_in all (s.place (name_of edit)) ≡ false
  place_apart = subst (λ (x : RefEdit). is_in all (s.place (name_of x)) ≡ false) (sym is) (apart.places i edit lt)

  -- the lock is refused
  pub lock_refused : (cause : Error) → IsRefusedLock mid.tree (name_of edit) lock cause → IsFirstCause s kind T0 seen (drop i edits) cause
  lock_refused cause why =
      fault_here (IsEditAccepted s kind T0) (IsEditFault s kind T0) edits i edit cause lt is
      (refused s kind edits apart T0 seen known edit within mid.tree held cause (subst (λ l. IsRefusedLock mid.tree (name_of edit) l cause) at why))

  pub lock_still : (new : Tree) → AddsLocks [] (lock ∷ []) mid.tree new → AddsLocks (locks_of s seen) all T0 new
  lock_still new adds = still s kind edits apart T0 seen known edit within mid.tree held new (subst (λ l. AddsLocks [] (l ∷ []) mid.tree new) at adds)

  pub lock_leaves : (new : Meaning) → Leaves mid new (AddsLocks (lock ∷ []) (lock ∷ []) mid.tree) → Leaves first new (AddsLocks all all T0)
  lock_leaves new next =
      joins run (weaken next (λ T adds. stop_taking s kind edits apart T0 seen known edit within mid.tree held T (subst (λ l. AddsLocks (l ∷ []) (l ∷ []) mid.tree T) at adds)))

  module _ (one : Meaning) (took : Leaves mid one (AddsLocks (lock ∷ []) (lock ∷ []) mid.tree)) (new : IsNewLock mid.tree lock one.tree) where
    adds' : AddsLocks (lock_of (s.place (name_of edit)) ∷ []) (lock_of (s.place (name_of edit)) ∷ []) mid.tree one.tree
    adds' = subst (λ l. AddsLocks (l ∷ []) (l ∷ []) mid.tree one.tree) at took.tree

    new' : IsNewLock mid.tree (lock_of (s.place (name_of edit))) one.tree
    new' = subst (λ l. IsNewLock mid.tree l one.tree) at new

    fills' : (T : Tree) → FillsLock one.tree lock T → FillsLock one.tree (lock_of (s.place (name_of edit))) T
    fills' T fills = subst (λ l. FillsLock one.tree l T) at fills

    pub same_as_first : found s (view_of one.tree) (name_of edit) ≡ found s (view_of T0) (name_of edit)
    same_as_first = same_found s kind edits apart T0 seen known edit within mid.tree held one.tree adds' new' place_apart

    lockable' : IsLockable s kind T0 seen edit
    lockable' = lockable s kind edits apart T0 seen known edit within mid.tree held one.tree adds' new'

    -- what is found is refused
    pub found_refused : (cause : Error) → IsIoOrMemory cause ⊎ IsMismatch kind edit (found s (view_of one.tree) (name_of edit)) cause → IsFirstCause s kind T0 seen (drop i edits) cause
    found_refused cause why =
        fault_here (IsEditAccepted s kind T0) (IsEditFault s kind T0) edits i edit cause lt is
        (⊎_elim (λ outside. inl outside) (λ mismatch. inr (inr (lockable', subst (λ was. IsMismatch kind edit was cause) same_as_first mismatch))) why)

    pub free_then : (q : Path) → is_in (locks_of s (take (i + 1) edits)) q ≡ true → T0 q ≡ None
    free_then q h = free_more s kind edits apart T0 seen known edit within mid.tree held one.tree adds' new' q (subst (λ l. is_in (locks_of s l) q ≡ true) more h)

    pub adds_then_text : (T : Tree) → FillsLock one.tree lock T → AddsLocks (locks_of s (take (i + 1) edits)) all T0 T
    adds_then_text T fills = subst (λ l. AddsLocks (locks_of s l) all T0 T) (sym more) (filling s kind edits apart T0 seen known edit within mid.tree held one.tree adds' new' T (fills' T fills))

    pub text_leaves : (two : Meaning) → Leaves one two (FillsLock one.tree lock) → Leaves first two (AddsLocks all all T0)
    text_leaves two next =
        joins (lock_leaves one took) (weaken next (λ T fills. stop_filling s kind edits apart T0 seen known edit within mid.tree held one.tree adds' new' T (fills' T fills)))

    -- the edit passes
    passes : Expects (expected_of edit.change) (new_of edit.change) (found s (view_of one.tree) (name_of edit)) → IsEditAccepted s kind T0 seen edit
    passes expects = (lockable', subst (λ was. Expects (expected_of edit.change) (new_of edit.change) was) same_as_first expects)

    pub later_fault : Expects (expected_of edit.change) (new_of edit.change) (found s (view_of one.tree) (name_of edit)) → (cause : Error) → IsFirstCause s kind T0 (take (i + 1) edits) (drop (i + 1) edits) cause → IsFirstCause s kind T0 seen (drop i edits) cause
    later_fault expects cause later = fault_later (IsEditAccepted s kind T0) (IsEditFault s kind T0) edits i edit cause lt is (passes expects) later

    pub all_pass : Expects (expected_of edit.change) (new_of edit.change) (found s (view_of one.tree) (name_of edit)) → NoCause s kind T0 (take (i + 1) edits) (drop (i + 1) edits) → NoCause s kind T0 seen (drop i edits)
    all_pass expects later = pass_more (IsEditAccepted s kind T0) (IsEditFault s kind T0) edits i edit lt is (passes expects) later

    pub held_then : (T : Tree) → FillsLock one.tree lock T → Held s kind edits apart T0 (take (i + 1) edits) T
    held_then T fills = subst (λ l. Held s kind edits apart T0 l T) (sym more) (held_more s kind edits apart T0 seen known edit within mid.tree held one.tree adds' new' T (fills' T fills))

    pub id_as_first : (id : Option ObjectId) → id ≡ packed_of s (view_of T0) (name_of edit) → id ≡ packed_of s (view_of one.tree) (name_of edit)
    id_as_first id asked = asked ∙ sym (same_id s kind edits apart T0 seen known edit within mid.tree held one.tree adds' new' place_apart)

    file_as_first : has_file_at s one.tree edit ≡ has_file_at s T0 edit
    file_as_first = same_has_file s kind edits apart T0 seen known edit within mid.tree held one.tree adds' new' place_apart

    effect_as_first : (mode : Mode) → effect_on s mode (view_of one.tree) edit ≡ effect_on s mode (view_of T0) edit
    effect_as_first mode = same_effect s kind edits apart T0 seen known edit within mid.tree held one.tree adds' new' place_apart mode

    pub texts_then : (mode : Mode) (T : Tree) → HoldTexts s mode T0 mid.tree seen → T ≡ put one.tree lock (Some (File (lock_text (effect_on s mode (view_of one.tree) edit)))) → HoldTexts s mode T0 T (take (i + 1) edits)
    texts_then mode T texts filled = subst (λ l. HoldTexts s mode T0 T l) (sym more)
        (texts_more s kind edits apart T0 seen known edit within mid.tree held one.tree adds' new' mode T texts
        (subst (λ e. T ≡ put one.tree (lock_of (s.place (name_of edit))) (Some (File (lock_text e)))) (effect_as_first mode) (subst (λ l. T ≡ put one.tree l (Some (File (lock_text (effect_on s mode (view_of one.tree) edit))))) at filled)))

    pub found_then : (es : List Edit) (e : Edit) → targets_of es ≡ old_targets s T0 seen → value_of e.found ≡ found s (view_of one.tree) (name_of edit) → targets_of (es ++ e ∷ []) ≡ old_targets s T0 (take (i + 1) edits)
    found_then es e before here =
        map-append (λ (x : Edit). value_of x.found) es (e ∷ [])
        ∙ ap (λ l. l ++ value_of e.found ∷ []) before
        ∙ ap (λ t. old_targets s T0 seen ++ t ∷ []) (here ∙ same_as_first)
        ∙ sym (map-append (λ (x : RefEdit). found s (view_of T0) (name_of x)) seen (edit ∷ []))
        ∙ ap (old_targets s T0) (sym more)

    pub files_then : (es : List Edit) (e : Edit) → seen_files es ≡ files_at s T0 seen → e.has_file ≡ has_file_at s one.tree edit → seen_files (es ++ e ∷ []) ≡ files_at s T0 (take (i + 1) edits)
    files_then es e before here =
        map-append (λ (x : Edit). x.has_file) es (e ∷ [])
        ∙ ap (λ l. l ++ e.has_file ∷ []) before
        ∙ ap (λ b. files_at s T0 seen ++ b ∷ []) (here ∙ file_as_first)
        ∙ sym (map-append (has_file_at s T0) seen (edit ∷ []))
        ∙ ap (files_at s T0) (sym more)

    pub effects_then : (mode : Mode) (es : List Edit) (e : Edit) → effects_of es ≡ effects_on s mode (view_of T0) seen → effect_value e.update.change e.effect ≡ effect_on s mode (view_of one.tree) edit → effects_of (es ++ e ∷ []) ≡ effects_on s mode (view_of T0) (take (i + 1) edits)
    effects_then mode es e before here =
        map-append (λ (x : Edit). effect_value x.update.change x.effect) es (e ∷ [])
        ∙ ap (λ l. l ++ effect_value e.update.change e.effect ∷ []) before
        ∙ ap (λ w. effects_on s mode (view_of T0) seen ++ w ∷ []) (here ∙ effect_as_first mode)
        ∙ sym (map-append (effect_on s mode (view_of T0)) seen (edit ∷ []))
        ∙ ap (effects_on s mode (view_of T0)) (sym more)

    -- one lock more that can be taken
    pub lockable_then : AreLockable s kind T0 (take (i + 1) edits) (drop (i + 1) edits) → AreLockable s kind T0 seen (drop i edits)
    lockable_then later = pass_more {E = Error} (IsLockable s kind T0) (λ _ _ _. ⊥) edits i edit lt is lockable' later
