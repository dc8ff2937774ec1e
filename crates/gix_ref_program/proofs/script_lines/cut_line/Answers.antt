use Rattle.std.proofs.Common.{List, ℕ, ◌∷◌, sym, ◌∙◌, ap}
use Rattle.gix_ref_log.specs.LogCuts.{log_lines}
use Rattle.gix_ref_log.proofs.FirstLines.{first_of_lines, only_line}
use Rattle.gix_ref_program.proofs.script_lines.cut_line.Goals as goal

pub returns-in-Some-clause-lines : goal.returns-in-Some-clause-lines
returns-in-Some-clause-lines c =
    first_of_lines c.args.text.now c.in-Some.line.now c.in-Some.rest.now c.in-Some.ensures
    ∙ ap (λ (t : List ℕ). t ∷ log_lines c.in-Some.rest.now) (sym c.without_cr.ensures)

pub returns-in-None-clause-lines : goal.returns-in-None-clause-lines
returns-in-None-clause-lines c = only_line c.args.text.now c.requires c.in-None.ensures
