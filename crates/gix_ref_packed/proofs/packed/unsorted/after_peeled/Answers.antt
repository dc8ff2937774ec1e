use Rattle.std.proofs.Common.{◌∷◌, ◌∙◌, ap}
use Rattle.gix_ref_packed.proofs.UnsortedLemmas.{behind_peeled, no_peeled}
use Rattle.gix_ref_packed.proofs.packed.unsorted.after_peeled.Goals as goal

pub returns-in-Some-clause-after : goal.returns-in-Some-clause-after
returns-in-Some-clause-after c = λ o rest.
    let first = c.in-Some-eq94-default in
    behind_peeled c.args.text.now first.line.now c.in-Some.field-0-0.now c.in-Some.rest.now o rest (first.ensures.cases.0 ∙ ap (λ b. b ∷ first.line.now) first.field-0-0-test) c.in-Some.ensures

pub returns-in-None-clause-after : goal.returns-in-None-clause-after
returns-in-None-clause-after c = λ o rest p.
    let first = c.in-Some-eq94-default in
    absurd (no_peeled c.args.text.now first.line.now o rest (first.ensures.cases.0 ∙ ap (λ b. b ∷ first.line.now) first.field-0-0-test) c.in-None.ensures p)
