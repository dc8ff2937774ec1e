use Rattle.std.proofs.Common.{rules}
use Rattle.gix_ref_session.specs.Commands.{texts}
use Rattle.gix_ref_session.proofs.GatherLemmas.{only_plain}
use Rattle.gix_ref_session.proofs.gather.quoted_command.Goals as goal

pub returns-clause-fails : goal.returns-clause-fails
returns-clause-fails c =
    let session = c.args.session.now in
    only_plain session.format session.object_hash c.command_in.result c.args.text.now (texts c.args.words.now) _ (search rules) c.command_in.ensures.fails
