use Rattle.gix_ref_target.specs.Targets.{target_value}
use Rattle.gix_ref_lookup.proofs.Stripping.{nothing_less}
use Rattle.gix_ref_lookup.proofs.find.strip.Goals as goal

pub returns-in_default : goal.returns-in_default
returns-in_default c = rw c.in_default.is (nothing_less (target_value c.args.target.now))
