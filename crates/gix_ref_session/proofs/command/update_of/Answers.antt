use Rattle.gix_ref_session.specs.Commands.{texts}
use Rattle.gix_ref_session.proofs.CommandLemmas.{at_err, no_update}
use Rattle.gix_ref_session.proofs.command.update_of.Goals as goal

pub returns-in_err-new-clause-refused : goal.returns-in_err-new-clause-refused
returns-in_err-new-clause-refused c =
    at_err c.from_residual.result (no_update c.args.format c.args.kind (texts c.args.fields.now) c.in_err-new.ensures.refused)
