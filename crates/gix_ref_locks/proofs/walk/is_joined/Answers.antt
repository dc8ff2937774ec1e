use Rattle.std.proofs.Common.{◌++◌, ap, sym, ◌∙◌}
use Rattle.std.proofs.lemmas.Slice.Eq.{bytes_eq-Decides}
use Rattle.gix_ref_theory.proofs.PlaceLaws.{cancel}
use Rattle.gix_ref_locks.proofs.walk.is_joined.Goals as goal

pub returns-in-Some : goal.returns-in-Some
returns-in-Some c =
    let text = c.args.text.now in
    let front = c.args.front.now in
    let rest = c.in-Some.rest.now in
    let decides = bytes_eq-Decides rest c.args.end.now in
    (λ yes. c.in-Some.ensures ∙ ap (λ t. front ++ t) (decides.0 (sym c.eq.ensures ∙ yes)), λ is. c.eq.ensures ∙ decides.1 (cancel front rest c.args.end.now (sym c.in-Some.ensures ∙ is)))
