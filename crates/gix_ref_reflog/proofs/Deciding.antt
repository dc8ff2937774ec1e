-- The decision of the lines, one edit after the other.
use Rattle.std.proofs.Common.{◌≡◌, ◌<◌, inl, inr, ⊎_elim, ℕ, ◌+◌, List, [], ◌∷◌, ◌++◌, Option, None, length, drop, take, get_or, refl, sym, subst, ap, ◌∙◌, append_assoc, arith}
use Rattle.std.proofs.Math.ListN.{set}
use Rattle.std.proofs.Math.Nat.{eq-or-lt_of_le}
use Rattle.std.proofs.lemmas.List.{get_or-set_same, get_or-set_other, take_more_set}
use Rattle.gix_ref_transaction.specs.CommitRenames.{SeesItsLog}
use Rattle.gix_ref_hash.specs.declared.hash.ObjectId.{ObjectId}
use Rattle.gix_ref_files.specs.Tree.{Path, Tree}
use Rattle.gix_ref_transaction.specs.declared.edit.Edit.{Edit}
use Rattle.gix_ref_theory.specs.OnRealTrees.{view_of}
use Rattle.gix_ref_theory.specs.Views.{View}
use Rattle.gix_ref_reflog.specs.AskedEdits.{asked, asked_edit, asked_from, leaf_after, outcome_of, outcomes_of}
use Rattle.gix_ref_reflog.specs.DueLines.{LogRules, LogOutcome, AskedEdit, log_outcome, log_outcomes, with_log}
use Rattle.gix_ref_reflog.specs.LineCauses.{AllHaveNoCause, IsRefusal, IsRefusalAt, HasNoCause}
use Rattle.gix_ref_reflog.specs.declared.error.Error.{Error as Refusal}
use Rattle.gix_ref_reflog.specs.declared.error.Error.TheVariants.{CreateOrUpdateRefLog, Memory}
use Rattle.gix_ref_reflog.specs.internal.Decided.{AreDecidedBefore}
use Rattle.gix_ref_reflog.specs.internal.LineSteps.{Sees}
use Rattle.gix_ref_reflog.proofs.LeafSteps.{from_place}

outcomes_append : (a b : List Edit) → outcomes_of (a ++ b) ≡ outcomes_of a ++ outcomes_of b
outcomes_append [] b = refl
outcomes_append (e ∷ a) b = ap (λ (os : List LogOutcome). outcome_of e.log ∷ os) (outcomes_append a b)

-- a refusal at the first edit, and after it
refused_here : (r : LogRules) (files : View) (a : AskedEdit) (rest : List AskedEdit) (e : Refusal) → IsRefusalAt r files a e → IsRefusal r files (a ∷ rest) e
refused_here r files a rest Memory told = tt
refused_here r files a rest (CreateOrUpdateRefLog error) told = inl told

refused_later : (r : LogRules) (files : View) (a : AskedEdit) (rest : List AskedEdit) (e : Refusal) → HasNoCause r files a → IsRefusal r (with_log r files a) rest e → IsRefusal r files (a ∷ rest) e
refused_later r files a rest Memory passes told = tt
refused_later r files a rest (CreateOrUpdateRefLog error) passes told = inr (passes, told)

-- one edit more has its log, where it says so
pub there_more : (edits : List Edit) (i : ℕ) (new : Edit) (T : Tree) → i < length edits → ((k : ℕ) (d : Edit) → k < i → SeesItsLog T (get_or edits k d)) → SeesItsLog T new →
    (k : ℕ) (d : Edit) → k < i + 1 → SeesItsLog T (get_or (set edits i new) k d)
there_more edits i new T lt before here k d within = ⊎_elim
    (λ (same : k ≡ i). subst (λ (e : Edit). SeesItsLog T e) (sym (ap (λ j. get_or (set edits i new) j d) same ∙ get_or-set_same edits i new d lt)) here)
    (λ (less : k < i). subst (λ (e : Edit). SeesItsLog T e) (sym (get_or-set_other edits i k new d (λ same. absurd (omega (arith, less, same))))) (before k d less))
    (eq-or-lt_of_le (omega (arith, within)))

module _ (r : LogRules) (T : Tree) (given : List Edit) (i : ℕ) (edits : List Edit) (due : List Path) (so_far : AreDecidedBefore r T given i edits due) (e : Edit) (leaf : Option ObjectId) (lt : i < length given) (is : e ≡ get_or given i e) (leaf_is : leaf ≡ leaf_after i (i + 1) None (drop (i + 1) given)) where
  -- the edits from this one on
  asked_is : asked_from i (drop i given) ≡ asked_edit e leaf ∷ asked_from (i + 1) (drop (i + 1) given)
  asked_is =
      ap (asked_from i) (from_place given i e lt is)
      ∙ ap (λ (l : Option ObjectId). asked_edit e l ∷ asked_from (i + 1) (drop (i + 1) given)) (sym leaf_is)

  -- a refusal at this edit
  pub refused_at : (error : Refusal) → IsRefusalAt r so_far.files (asked_edit e leaf) error → IsRefusal r (view_of T) (asked given) error
  refused_at error told =
      so_far.refused error
      (subst (λ (l : List AskedEdit). IsRefusal r so_far.files l error) (sym asked_is)
      (refused_here r so_far.files (asked_edit e leaf) (asked_from (i + 1) (drop (i + 1) given)) error told))

  -- once this edit is decided too
  pub decided_more : (new : Edit) (due' : List Path) → length edits ≡ length given → outcome_of new.log ≡ log_outcome r so_far.files (asked_edit e leaf) → HasNoCause r so_far.files (asked_edit e leaf) → Sees (with_log r so_far.files (asked_edit e leaf)) T due' → AreDecidedBefore r T given (i + 1) (set edits i new) due'
  decided_more new due' len log passes sees =
      let a = asked_edit e leaf in
      let files = with_log r so_far.files a in
      let rest = asked_from (i + 1) (drop (i + 1) given) in
      record {
        files = files;
        sees = sees;
        logs =
            so_far.logs
            ∙ (ap (λ (l : List AskedEdit). outcomes_of (take i edits) ++ log_outcomes r so_far.files l) asked_is
            ∙ (ap (λ (o : LogOutcome). outcomes_of (take i edits) ++ (o ∷ log_outcomes r files rest)) (sym log)
            ∙ (sym (append_assoc (outcomes_of (take i edits)) (outcome_of new.log ∷ []) (log_outcomes r files rest))
            ∙ ap (λ (os : List LogOutcome). os ++ log_outcomes r files rest)
            (sym (outcomes_append (take i edits) (new ∷ [])) ∙ ap outcomes_of (sym (take_more_set edits i new (omega (arith, lt, len))))))));
        passed = λ all. so_far.passed (subst (AllHaveNoCause r so_far.files) (sym asked_is) (passes, all));
        refused = λ error told. so_far.refused error (subst (λ (l : List AskedEdit). IsRefusal r so_far.files l error) (sym asked_is) (refused_later r so_far.files a rest error passes told));
      }
