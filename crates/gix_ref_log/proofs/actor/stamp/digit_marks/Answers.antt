use Rattle.gix_ref_log.proofs.DigitLanes.{marked_digit}
use Rattle.std.proofs.Common.{refl}
use Rattle.gix_ref_log.proofs.actor.stamp.digit_marks.Goals as goal

pub returns : goal.returns
returns c = λ k within set. marked_digit c.args.text.now c.requires (λ i. (c.type_inv.text i).fits) _ k refl within set
