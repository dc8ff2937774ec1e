use Rattle.gix_ref_log.proofs.DigitLanes.{pair_lane}
use Rattle.gix_ref_log.proofs.actor.stamp.pairs.Goals as goal

pub returns : goal.returns
returns c = λ k within first second. pair_lane c.args.text.now c.requires (λ i. (c.type_inv.text i).fits) k within first second
