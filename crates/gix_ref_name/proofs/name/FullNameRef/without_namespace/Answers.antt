use Rattle.std.proofs.Common.{◌≡◌, ◌++◌, Some, None, sym, ◌∙◌, ap}
use Rattle.std.proofs.lemmas.List.{append_cancel_left}
use Rattle.gix_ref_name.specs.NameGrammar.{partial_error}
use Rattle.gix_ref_name.proofs.name.FullNameRef.without_namespace.Goals as goal

pub returns-in-Some-broken_partial_rule : goal.returns-in-Some-broken_partial_rule
returns-in-Some-broken_partial_rule c = λ rest valid whole.
    let space = c.to_path.result.now in
    let same : rest ≡ c.in-Some.rest.now = append_cancel_left space rest c.in-Some.rest.now (ap (λ v. v ++ rest) c.to_path.ensures.bytes ∙ sym whole ∙ c.in-Some.ensures) in
    let bad : None ≡ Some c.in-Some-broken_partial_rule.field-0 = sym valid ∙ ap partial_error same ∙ sym c.in-Some-broken_partial_rule.ensures in
    absurd (cc)
