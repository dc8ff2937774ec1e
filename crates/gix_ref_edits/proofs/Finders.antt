-- For callers: what each call of a finder keeps, its calls in turn keep, whatever came of them.
use Rattle.std.proofs.Common.{◌≡◌, ℕ, subst, ◌∙◌, List, [], ◌∷◌, Option, Result, Ok, Err}
use Rattle.std.specs.Result.{OnOk, IfErr}
use Rattle.std.proofs.lemmas.List.Elements.{All-nil, All-cons}
use Rattle.gix_ref_name.specs.declared.name.PartialNameRef.{PartialNameRef}
use Rattle.gix_ref_target.specs.declared.target.Target.{Target}
use Rattle.gix_ref_name.specs.Names.{partial_ref_bytes}
use Rattle.gix_ref_edits.specs.declared.transaction.RefEdit.{RefEdit}
use Rattle.gix_ref_edits.specs.declared.transaction.ext.error.SplitError.{SplitError}
use Rattle.gix_ref_edits.specs.declared.transaction.ext.error.SplitError.TheVariants.{Find, TooManySplits, DoubledName, Memory}
use Rattle.gix_ref_edits.specs.LookUps.{LookUp, CallsInOrder, AnswersBy, referent_of}
use Rattle.gix_ref_edits.specs.EditValues.{EditValue}
use Rattle.gix_ref_edits.specs.SplitErrors.{IsSplitFault}
use Rattle.gix_ref_edits.specs.SplitResults.{HasSplits, HasTooManySplits}

module _ {F E : Type 0} (step : F → PartialNameRef → Result (Option Target) E → F → Type 0) (P : F → Type 0)
    (keeps : (s : F) (asked : PartialNameRef) (result : Result (Option Target) E) (t : F) → P s → step s asked result t → P t) where
  -- a fact that each call keeps
  pub lookups_keep : (s : F) (lookups : List LookUp) (t : F) → P s → CallsInOrder step s lookups t → P t
  lookups_keep s [] t holds is = subst P is holds
  lookups_keep s (lookup ∷ lookups) t holds called =
      lookups_keep called.0 lookups t (keeps s called.1.asked (Ok called.1.target) called.0 holds called.1.called) called.2

  pub faults_keep : (s t : F) (edits : List EditValue) (error : SplitError E) → P s → IsSplitFault step s t (HasTooManySplits step s edits t) (λ name. ⊥) error → P t
  faults_keep s t edits (Find error) holds fault =
      keeps fault.between fault.asked (Err error) t (lookups_keep s fault.lookups fault.between holds fault.called) fault.failed
  faults_keep s t edits (TooManySplits rounds) holds fault = lookups_keep s fault.1.lookups t holds fault.1.called
  faults_keep s t edits (DoubledName name) holds fault = absurd fault
  faults_keep s t edits Memory holds fault = lookups_keep s fault.lookups t holds fault.called

  -- the same after a call that splits edits, whatever it returned
  pub outcome_keeps : {M T : Type 0} (makes : M → ℕ → RefEdit → T → M → Type 0) (edit_of : T → RefEdit) (with_edit : T → RefEdit → T) (s t : F) (m n : M)
      (edits split : List T) (values : List EditValue) (result : Result (Unit {0}) (SplitError E)) → P s
      → OnOk result (HasSplits step makes edit_of with_edit (s, m) edits split (t, n))
      → IfErr result (IsSplitFault step s t (HasTooManySplits step s values t) (λ name. ⊥)) → P t
  outcome_keeps makes edit_of with_edit s t m n edits split values (Ok done) holds splits fault = lookups_keep s splits.lookups t holds splits.called
  outcome_keeps makes edit_of with_edit s t m n edits split values (Err error) holds splits fault = faults_keep s t values error holds fault

  -- calls that each answer as `find` says
  pub lookups_answer : (find : List ℕ → Option (List ℕ))
      → ((s : F) (asked : PartialNameRef) (target : Option Target) (t : F) → P s → step s asked (Ok target) t → find (partial_ref_bytes asked) ≡ referent_of target)
      → (s : F) (lookups : List LookUp) (t : F) → P s → CallsInOrder step s lookups t → AnswersBy find lookups
  lookups_answer find answers s [] t holds called = All-nil (λ lookup. find lookup.name ≡ lookup.referent)
  lookups_answer find answers s (lookup ∷ lookups) t holds called =
      let first = called.1 in
      All-cons (λ lookup. find lookup.name ≡ lookup.referent) lookup lookups
      (subst (λ name. find name ≡ lookup.referent) first.name (answers s first.asked first.target called.0 holds first.called ∙ first.referent))
      (lookups_answer find answers called.0 lookups t (keeps s first.asked (Ok first.target) called.0 holds first.called) called.2)

-- A relation of states that holds of a state and itself, and that each call carries on.
pub outcome_relates : {F E M T : Type 0} (step : F → PartialNameRef → Result (Option Target) E → F → Type 0) (R : F → F → Type 0) → ((s : F) → R s s)
    → ((s t : F) (asked : PartialNameRef) (result : Result (Option Target) E) (u : F) → R s t → step t asked result u → R s u)
    → (makes : M → ℕ → RefEdit → T → M → Type 0) (edit_of : T → RefEdit) (with_edit : T → RefEdit → T) (s t : F) (m n : M) (edits split : List T) (values : List EditValue) (result : Result (Unit {0}) (SplitError E))
    → OnOk result (HasSplits step makes edit_of with_edit (s, m) edits split (t, n)) → IfErr result (IsSplitFault step s t (HasTooManySplits step s values t) (λ name. ⊥)) → R s t
outcome_relates step R same carries makes edit_of with_edit s t m n edits split values result =
    outcome_keeps step (R s) (carries s) makes edit_of with_edit s t m n edits split values result (same s)
