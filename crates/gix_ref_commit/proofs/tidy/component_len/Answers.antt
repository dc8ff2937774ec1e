use Rattle.gix_ref_commit.proofs.Walking.{component_cut, component_whole}
use Rattle.gix_ref_commit.proofs.tidy.component_len.Goals as goal

pub returns-in-Some-clause-component : goal.returns-in-Some-clause-component
returns-in-Some-clause-component c = component_cut c.args.path.now c.in-Some.component.now c.in-Some.field-0-1.now c.in-Some.ensures

pub returns-in-None-clause-component : goal.returns-in-None-clause-component
returns-in-None-clause-component c = component_whole c.args.path.now c.in-None.ensures
