use Rattle.std.proofs.Common.{◌∙◌, arith}
use Rattle.std.proofs.lemmas.List.{length-take-le}
use Rattle.gix_ref_log.proofs.WindowLemmas.{widened}
use Rattle.gix_ref_log.proofs.log.iter.backward.Reverse.widen.Goals as goal

pub returns-clause-window : goal.returns-clause-window
returns-clause-window g c = λ honest w.
    let s = c.args.self.now in
    let more = c.min-more.result in
    let k = c.min-more.ensures in
    let within = w.fits in
    widened (g.F.ReadAt.bytes s.reader) s.buf.now c.copy_within.new.self c.read_exact_at.new.buf s.pos s.end more
    (omega arith) (omega arith) c.copy_within.auto.self c.copy_within.ensures.after (c.read_exact_at.auto.buf ∙ length-take-le more c.copy_within.new.self (omega (arith, c.copy_within.auto.self))) (c.in_ok-read_exact_at.ensures.bytes honest) w
