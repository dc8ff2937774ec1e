use Rattle.gix_ref_session.specs.Commands.{texts}
use Rattle.gix_ref_session.proofs.CommandLemmas.{at_err, no_old_id}
use Rattle.gix_ref_session.proofs.command.old_id.Goals as goal

pub returns-in_err-id_of-clause-refused : goal.returns-in_err-id_of-clause-refused
returns-in_err-id_of-clause-refused c =
    at_err c.from_residual-in_err-id_of.result
    (no_old_id c.args.kind (texts c.args.fields.now) c.args.format c.in_ok-field.field.now (texts c.in_ok-field.rest.now) c.in_ok-field.ensures.parsed c.in_err-id_of.ensures.refused)
