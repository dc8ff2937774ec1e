use Rattle.std.proofs.Common.{inl, inr, ⊎_elim, rules}
use Rattle.std.proofs.lemmas.Result.{err_from_is_err_and}
use Rattle.gix_ref_hash.specs.declared.hash.Kind.{Kind}
use Rattle.gix_ref_theory.specs.Readings.{Store}
use Rattle.gix_ref_edits.specs.RefEdits.{name_of}
use Rattle.gix_ref_edits.specs.declared.transaction.RefEdit.{RefEdit}
use Rattle.gix_ref_transaction.specs.Causes.{IsInvalidEdit, IsMisnamed}
use Rattle.gix_ref_transaction.specs.PrepareSteps.{setting_of}
use Rattle.gix_ref_transaction.specs.declared.prepare.error.Error.{Error}
use Rattle.gix_ref_transaction.specs.declared.prepare.error.Error.TheVariants.{UnsafeName, DeviceName}
use Rattle.gix_ref_transaction.proofs.prepare.check.check_edit.Goals as goal

-- a name that may not be edited is a cause of its edit
misnamed : (s : Store) (kind : Kind) (edit : RefEdit) (error : Error) → IsMisnamed s (name_of edit) error → IsInvalidEdit s kind edit error
misnamed s kind edit UnsafeName bad = bad
misnamed s kind edit DeviceName bad = bad
misnamed s kind edit other bad = absurd bad

pub returns-in_err-check_name-clause-refused : goal.returns-in_err-check_name-clause-refused
returns-in_err-check_name-clause-refused c =
    let told = err_from_is_err_and c.from_residual.result c.from_residual.ensures.1 in
    rw (told.1, told.2)
    (⊎_elim (λ none. inl none)
    (λ bad. inr (misnamed (setting_of c.args.settings.now) c.args.settings.now.kind c.args.edit.now _ (rw c.as_ref.ensures at bad)))
    c.in_err-check_name.ensures.refused)

pub returns-then-not-is_possible-clause-refused : goal.returns-then-not-is_possible-clause-refused
returns-then-not-is_possible-clause-refused c =
    let named = rw c.as_ref.ensures at c.in_ok-check_name.ensures.named in
    inr (named, search rules)

pub returns-then-not-is_full_target-clause-refused : goal.returns-then-not-is_full_target-clause-refused
returns-then-not-is_full_target-clause-refused c =
    let named = rw c.as_ref.ensures at c.in_ok-check_name.ensures.named in
    inr (named, search rules, search rules)

pub returns-then-not-has_kind-clause-refused : goal.returns-then-not-has_kind-clause-refused
returns-then-not-has_kind-clause-refused c =
    let named = rw c.as_ref.ensures at c.in_ok-check_name.ensures.named in
    inr (named, search rules, search rules, search rules)

pub returns-clause-sound : goal.returns-clause-sound
returns-clause-sound c =
    let named = rw c.as_ref.ensures at c.in_ok-check_name.ensures.named in
    record { safe = named.safe; allowed = named.allowed; possible = search rules; target = search rules; kinds = search rules; whole = search rules }
