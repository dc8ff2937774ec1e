use Rattle.std.proofs.Common.{arith}
use Rattle.gix_ref_commit.proofs.Clearing.{all_cleared}
use Rattle.gix_ref_commit.proofs.folders.with_removals.Goals as goal

pub returns : goal.returns
returns c = all_cleared c.args.ways.now c.args.plan.now c.loop-at.steps.items c.loop-at.at (omega (arith, c.loop-at-test.false)) c.loop-at.invariant
