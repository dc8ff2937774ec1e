use Rattle.std.proofs.Common.{◌∷◌, ◌∙◌, ap}
use Rattle.gix_ref_program.specs.Words.{texts}
use Rattle.gix_ref_program.proofs.WordLemmas.{no_update}
use Rattle.gix_ref_program.proofs.words.update_of.Goals as goal

pub returns-in_err-id : goal.returns-in_err-id
returns-in_err-id c =
    let name = c.in_ok-name.name.now.now in
    let rest = texts c.in_ok-digits.rest.now in
    rw c.from_residual-in_err-id.ensures (no_update (texts c.args.words.now) name c.in_ok-digits.digits.now.now rest
    (ap texts c.in_ok-name.ensures.cases.0
    ∙ ap (λ ws. name ∷ texts ws) c.in_ok-digits.ensures.cases.0)
    c.in_err-id.ensures)
