use Rattle.std.proofs.Common.{◌∷◌, ◌∙◌, ap}
use Rattle.gix_ref_program.specs.Words.{texts}
use Rattle.gix_ref_program.proofs.WordLemmas.{no_old, empty}
use Rattle.gix_ref_program.proofs.words.old_of.Goals as goal

pub returns-in-None : goal.returns-in-None
returns-in-None c =
    no_old (texts c.args.words.now) c.in-Some.digits.now.now
    (ap texts c.in-Some.ensures.cases.0
    ∙ ap (λ ws. texts (c.in-Some.digits.now ∷ ws)) (empty c.in-Some.rest.now c.if-not-is_empty.ensures))
    c.in-None.ensures
