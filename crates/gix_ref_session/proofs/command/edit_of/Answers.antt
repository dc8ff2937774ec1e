use Rattle.std.proofs.Common.{◌≡◌, [], length, sym, ◌∙◌}
use Rattle.std.proofs.lemmas.Bool.{eqb-true}
use Rattle.gix_ref_session.specs.Commands.{texts}
use Rattle.gix_ref_session.proofs.CommandLemmas.{at_err, no_asked, no_name}
use Rattle.gix_ref_session.proofs.QuoteLemmas.{no_length}
use Rattle.gix_ref_session.proofs.command.edit_of.Goals as goal

pub returns-then-is_empty-clause-refused : goal.returns-then-is_empty-clause-refused
returns-then-is_empty-clause-refused c =
    let none : c.in_ok-verb.name.now ≡ [] = no_length c.in_ok-verb.name.now (eqb-true (length c.in_ok-verb.name.now) 0 (sym c.is_empty.ensures ∙ c.if-is_empty.true)) in
    no_name c.args.format c.args.kind (texts c.args.words.now) c.in_ok-verb.verb.now c.in_ok-verb.name.now (texts c.in_ok-verb.fields.now) c.in_ok-verb.ensures.parsed c.in_ok-verb.ensures.first_space none

pub returns-in_err-asked-clause-refused : goal.returns-in_err-asked-clause-refused
returns-in_err-asked-clause-refused c =
    at_err c.from_residual-in_err-asked.result
    (no_asked c.args.format c.args.kind (texts c.args.words.now) c.in_ok-verb.verb.now c.in_ok-verb.name.now (texts c.in_ok-verb.fields.now) c.in_ok-verb.ensures.parsed c.in_ok-verb.ensures.first_space c.in_err-asked.ensures.refused)
