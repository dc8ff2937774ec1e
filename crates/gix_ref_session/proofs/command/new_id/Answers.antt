use Rattle.gix_ref_session.specs.Commands.{texts}
use Rattle.gix_ref_session.proofs.CommandLemmas.{at_err, no_new_id}
use Rattle.gix_ref_session.proofs.command.new_id.Goals as goal

pub returns-in_err-id_of-clause-refused : goal.returns-in_err-id_of-clause-refused
returns-in_err-id_of-clause-refused c =
    at_err c.from_residual-in_err-id_of.result
    (no_new_id c.args.kind (texts c.args.fields.now) c.in_ok-field.field.now (texts c.in_ok-field.rest.now) c.in_ok-field.ensures.parsed c.in_err-id_of.ensures.refused)
