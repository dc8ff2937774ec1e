use Rattle.std.proofs.Common.{arith, length-drop}
use Rattle.std.proofs.lemmas.List.{take_rest}
use Rattle.gix_ref_log.proofs.StoppedWrites.{Appends-more}
use Rattle.gix_ref_log.proofs.writer.write_whole.Goals as goal

pub loop-at-preserved : goal.loop-at-preserved
loop-at-preserved g c =
    let (within, before) = c.loop-at.invariant in
    let at = c.loop-at.at in
    let text = c.args.text.now in
    let some = c.in_ok-at.ensures in
    let written = rw (take_rest text at) at some.written in
    (omega (arith, length-drop at text, some.count.1), Appends-more _ _ _ text at c.in_ok-at.field-0 before written)
