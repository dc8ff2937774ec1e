use Rattle.gix_ref_name.proofs.DeviceLemmas.{stem_cut, stem_whole}
use Rattle.gix_ref_name.proofs.name.device.stem.Goals as goal

pub returns-in-Some : goal.returns-in-Some
returns-in-Some c = stem_cut c.args.component.now c.in-Some.before.now _ c.in-Some.ensures.whole c.in-Some.ensures.none

pub returns-in-None : goal.returns-in-None
returns-in-None c = stem_whole c.args.component.now c.in-None.ensures
