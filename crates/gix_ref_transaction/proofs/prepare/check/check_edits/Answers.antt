use Rattle.std.proofs.Common.{⊎_elim, inl, inr, length, ◌<◌, arith}
use Rattle.std.proofs.lemmas.Result.{err_from_is_err_and}
use Rattle.gix_ref_transaction.specs.Causes.{IsValidEdit, IsInvalidEdit}
use Rattle.gix_ref_transaction.specs.PrepareSteps.{setting_of}
use Rattle.gix_ref_transaction.proofs.Firsts.{fault_here}
use Rattle.gix_ref_transaction.proofs.prepare.check.check_edits.Goals as goal

pub returns-in_err-check_edit-clause-refused : goal.returns-in_err-check_edit-clause-refused
returns-in_err-check_edit-clause-refused c =
    let s = setting_of c.args.settings.now in
    let kind = c.args.settings.now.kind in
    let edits = c.args.edits.now in
    let i = c.loop-edit.edit-index in
    let lt : i < length edits = omega arith in
    let told = err_from_is_err_and c.from_residual.result c.from_residual.ensures.1 in
    rw (told.1, told.2)
    (⊎_elim (λ none. inl none)
    (λ bad. inr (c.loop-edit.invariant.fault _ (fault_here (λ _ edit. IsValidEdit s kind edit) (λ _ edit error. IsInvalidEdit s kind edit error) edits i c.edit-item.result _ lt c.edit-item.is bad)))
    c.in_err-check_edit.ensures.refused)
