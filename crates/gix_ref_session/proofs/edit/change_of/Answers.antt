use Rattle.gix_ref_session.specs.Commands.{ask_of}
use Rattle.gix_ref_session.proofs.EditLemmas.{of_memory}
use Rattle.gix_ref_session.proofs.edit.change_of.Goals as goal

pub returns-else-eq-clause-fails : goal.returns-else-eq-clause-fails
returns-else-eq-clause-fails c = of_memory c.args.name.now (ask_of c.args.asked) c.update_to.result c.update_to.ensures.fails

pub returns-in-Create-clause-fails : goal.returns-in-Create-clause-fails
returns-in-Create-clause-fails c = of_memory c.args.name.now (ask_of c.args.asked) c.update_to-in-Create.result c.update_to-in-Create.ensures.fails
