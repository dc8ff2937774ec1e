use Rattle.gix_ref_session.specs.Commands.{texts}
use Rattle.gix_ref_session.proofs.CommandLemmas.{no_parts}
use Rattle.gix_ref_session.proofs.command.verb_and_name.Goals as goal

pub returns-in-None-clause-refused : goal.returns-in-None-clause-refused
returns-in-None-clause-refused c =
    rw c.in-Nul.is (no_parts (texts c.args.words.now) c.in_ok-first.first.now (texts c.in_ok-first.rest.now) c.in_ok-first.ensures.parsed c.in-None.ensures)
