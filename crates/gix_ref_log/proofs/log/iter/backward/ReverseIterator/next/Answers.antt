use Rattle.std.proofs.Common.{Some, subst}
use Rattle.gix_ref_log.specs.LogItems.{ReadsOwned, ReadsLent}
use Rattle.gix_ref_log.specs.LogWindows.{StepOf, ReadsPlace}
use Rattle.gix_ref_log.proofs.LineSteps.{fault_place}
use Rattle.gix_ref_log.proofs.log.iter.backward.ReverseIterator.next.Goals as goal

pub returns-in-Err-clause-steps : goal.returns-in-Err-clause-steps
returns-in-Err-clause-steps g c =
    let R = g.F.ReadAt in
    let s = c.args.self.now in
    let t = c.advance.new.self in
    let passed = subst (λ r. StepOf (ReadsPlace t.buf.now) R.honest R.bytes R.faults s (Some r) t) c.in-Some-Ok.field-0-is c.in-Some-Ok.ensures.step in
    fault_place ReadsOwned R.honest R.bytes R.faults t.buf.now s t c.in-Some-Ok.place passed ReadsLent c.line_at.result c.in-Err.error c.in-Err.is c.line_at.ensures.memory c.line_at.ensures.line
