use Rattle.std.proofs.Common.{refl, ap, ◌∙◌, [], ◌∷◌, Some, None, Ok}
use Rattle.gix_ref_target.specs.declared.target.Target.TheVariants.{Symbolic, Object}
use Rattle.gix_ref_name.specs.Names.{full_bytes}
use Rattle.gix_ref_edits.specs.EditValues.{EditValue}
use Rattle.std.proofs.lemmas.Result.{err_from_is_err_and}
use Rattle.gix_ref_edits.proofs.Rounds.{answered, looked_up_once, failed_at_once, not_followed, followed}
use Rattle.gix_ref_edits.proofs.transaction.RefEdit.follow.Goals as goal

pub returns-then-not-self-clause-round : goal.returns-then-not-self-clause-round
returns-then-not-self-clause-round g c = not_followed _ _ _ c.if-not-self.true

pub returns-in_ok-split_to-in-Ok-Some-Symbolic-clause-round :
    goal.returns-in_ok-split_to-in-Ok-Some-Symbolic-clause-round
returns-in_ok-split_to-in-Ok-Some-Symbolic-clause-round g c =
    let it = c.in-Ok-Some-Symbolic in
    let split = c.in_ok-split_to-in-Ok-Some-Symbolic.ensures in
    followed _ _ _ _ (Some (full_bytes it.referent)) _ _ c.if-not-self.false
    (answered _ _ _ _ _ _ (Some (Symbolic it.referent)) c.find.ensures (c.as_partial_name.ensures ∙ c.as_ref.ensures)
    (it.is ∙ ap Ok (it.field-0-is ∙ ap Some it.field-0-0-is)))
    split.parent (ap {B = _} (λ (v : EditValue). v ∷ []) split.child)

pub returns-in-Ok-Some-Object-clause-round : goal.returns-in-Ok-Some-Object-clause-round
returns-in-Ok-Some-Object-clause-round g c =
    let it = c.in-Ok-Some-Object in
    followed _ _ _ _ None _ _ c.if-not-self.false
    (answered _ _ _ _ _ _ (Some (Object it.field-0-0-0)) c.find.ensures (c.as_partial_name.ensures ∙ c.as_ref.ensures)
    (it.is ∙ ap Ok (it.field-0-is ∙ ap Some it.field-0-0-is))) refl refl

pub returns-in-Ok-None-clause-round : goal.returns-in-Ok-None-clause-round
returns-in-Ok-None-clause-round g c =
    let it = c.in-Ok-None in
    followed _ _ _ _ None _ _ c.if-not-self.false
    (answered _ _ _ _ _ _ None c.find.ensures (c.as_partial_name.ensures ∙ c.as_ref.ensures) (it.is ∙ ap Ok it.field-0-is)) refl refl

pub returns-in-Err-clause-fault : goal.returns-in-Err-clause-fault
returns-in-Err-clause-fault g c = failed_at_once _ _ _ _ _ _ c.find.ensures c.in-Err.is

pub returns-in_err-split_to-in-Ok-Some-Symbolic-clause-fault : goal.returns-in_err-split_to-in-Ok-Some-Symbolic-clause-fault
returns-in_err-split_to-in-Ok-Some-Symbolic-clause-fault g c =
    let it = c.in-Ok-Some-Symbolic in
    let error = err_from_is_err_and c.from_residual.result c.from_residual.ensures.1 in
    rw (error.1, error.2) (looked_up_once _ _ _ _ (answered _ _ _ _ _ _ (Some (Symbolic it.referent)) c.find.ensures
    (c.as_partial_name.ensures ∙ c.as_ref.ensures) (it.is ∙ ap Ok (it.field-0-is ∙ ap Some it.field-0-0-is))))
