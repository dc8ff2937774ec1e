use Rattle.std.proofs.Common.{rules, get_or}
use Rattle.gix_ref_hash.proofs.HexLanes.{pair_lane}
use Rattle.gix_ref_hash.proofs.hash.digits.bytes_of_pairs.Goals as goal

pub returns : goal.returns
returns c = λ k within.
    pair_lane c.digit_values.result c.digit_values-2.result (search rules) (search rules) k within (get_or c.args.first k 0) (get_or c.args.second k 0)
    (c.digit_values.ensures k within) (c.digit_values-2.ensures k within)
