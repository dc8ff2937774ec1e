use Rattle.std.proofs.Common.{◌≢◌, [], rules}
use Rattle.gix_ref_session.proofs.CommandLemmas.{no_id}
use Rattle.gix_ref_session.proofs.command.id_of.Goals as goal

pub returns-in-None-clause-refused : goal.returns-in-None-clause-refused
returns-in-None-clause-refused c =
    let some : c.args.field.now ≢ [] = search rules in
    no_id c.args.kind c.args.field.now some c.in-None.ensures
