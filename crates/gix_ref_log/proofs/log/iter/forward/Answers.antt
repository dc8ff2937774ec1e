use Rattle.std.proofs.Common.{refl}
use Rattle.gix_ref_log.proofs.LogRuns.{each_forward}
use Rattle.gix_ref_log.proofs.log.iter.forward.Goals as goal

pub returns : goal.returns
returns c = each_forward _ _ refl refl
