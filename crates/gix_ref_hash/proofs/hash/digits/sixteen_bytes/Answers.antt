use Rattle.gix_ref_hash.proofs.HexLanes.{pair_at}
use Rattle.gix_ref_hash.proofs.hash.digits.sixteen_bytes.Goals as goal

pub returns : goal.returns
returns c = λ k within. pair_at c.args.digits.now c.requires k within _ (c.bytes_of_pairs.ensures k within)
