use Rattle.std.proofs.Common.{arith, ◌∙◌}
use Rattle.gix_ref_hash.proofs.HexRuns.{runs_more, runs_whole}
use Rattle.gix_ref_hash.proofs.hash.digits.are_sha1_digits.Goals as goal

pub loop-i-preserved : goal.loop-i-preserved
loop-i-preserved c =
    runs_more c.args.digits.now c.loop-i.i _ _ _ c.told-digits c.loop-i-test.true c.is_folded_hex-are_digits.ensures c.is_folded_hex-are_digits-in-loop-i.ensures c.is_folded_hex-are_digits-in-loop-i-2.ensures _ c.loop-i.invariant

pub returns : goal.returns
returns c = c.loop-i.invariant ∙ runs_whole c.args.digits.now c.loop-i.i c.told-digits (omega (arith, c.loop-i-test.false))
