use Rattle.std.proofs.Common.{arith}
use Rattle.gix_ref_session.proofs.FolderLemmas.{shared_folder}
use Rattle.gix_ref_session.proofs.clash.common_prefix_len.Goals as goal

pub returns-then-at-other : goal.returns-then-at-other
returns-then-at-other c folder of lt =
    shared_folder c.loop-at.at c.args.name.now c.args.other.now folder c.loop-at.invariant of lt

pub returns : goal.returns
returns c folder of lt =
    shared_folder c.loop-at.at c.args.name.now c.args.other.now folder c.loop-at.invariant of (omega (arith, lt, c.loop-at-test.false))
