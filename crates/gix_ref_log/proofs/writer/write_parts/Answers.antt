use Rattle.std.proofs.Common.{arith}
use Rattle.std.proofs.lemmas.Grind.{common_steps}
use Rattle.std.proofs.lemmas.Result.{err_from_is_err_and}
use Rattle.gix_ref_log.proofs.StoppedWrites.{StopsShort-part}
use Rattle.gix_ref_log.proofs.writer.write_parts.Goals as goal

pub returns-in_err-write_whole-clause-stopped : goal.returns-in_err-write_whole-clause-stopped
returns-in_err-write_whole-clause-stopped g c =
    let parts = c.args.parts.now in
    let i = c.loop-part.part-index in
    let stopped = c.in_err-write_whole.ensures.stopped in
    let p = err_from_is_err_and c.from_residual.result c.from_residual.ensures.1 in
    rw (p.1, p.2) (StopsShort-part _ _ _ parts i _ _ (grind (arith, common_steps)) c.loop-part.invariant stopped)
