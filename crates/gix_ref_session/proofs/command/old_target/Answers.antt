use Rattle.std.proofs.Common.{◌≡◌, codes, rules}
use Rattle.gix_ref_session.specs.Commands.{texts}
use Rattle.gix_ref_session.proofs.CommandLemmas.{at_err, no_old_oid}
use Rattle.gix_ref_session.proofs.command.old_target.Goals as goal

pub returns-in_err-id_of-clause-refused : goal.returns-in_err-id_of-clause-refused
returns-in_err-id_of-clause-refused c =
    let oid : c.in_ok-word.word.now ≡ codes "oid" = search rules in
    at_err c.from_residual-in_err-id_of.result
    (no_old_oid c.args.kind (texts c.args.fields.now) c.args.format c.in_ok-word.word.now c.in_ok-value.value.now (texts c.in_ok-word.rest.now) (texts c.in_ok-value.rest.now)
    c.in_ok-word.ensures.parsed c.in_ok-value.ensures.parsed oid c.in_err-id_of.ensures.refused)
