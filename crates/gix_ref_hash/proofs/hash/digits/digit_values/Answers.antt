use Rattle.gix_ref_hash.proofs.HexLanes.{value_lane}
use Rattle.gix_ref_hash.proofs.hash.digits.digit_values.Goals as goal

pub returns : goal.returns
returns c = value_lane c.args.digits c.fits-digits
