use Rattle.std.proofs.Common.{◌≢◌, Some, Result, Err, refl, subst}
use Rattle.gix_ref_log.specs.LogItems.{ReadsLent}
use Rattle.gix_ref_log.specs.LogWindows.{StepOf, ReadsPlace}
use Rattle.gix_ref_log.specs.declared.log.line.LineRef.{LineRef}
use Rattle.gix_ref_log.specs.declared.log.iter.error.ReverseError.{ReverseError}
use Rattle.gix_ref_log.specs.declared.log.iter.error.ReverseError.TheVariants.{Memory}
use Rattle.gix_ref_log.proofs.LineSteps.{line_step}
use Rattle.gix_ref_log.proofs.log.iter.backward.Reverse.next_ref.Goals as goal

inside : (r : Result LineRef ReverseError) → r ≢ Err Memory → Some r ≢ Some (Err Memory)
inside r other is = other (cc)

pub returns-in-Some-Ok : goal.returns-in-Some-Ok
returns-in-Some-Ok g c =
    let R = g.F.ReadAt in
    let s = c.args.self.now in
    let t = c.advance.new.self in
    let passed = subst (λ r. StepOf (ReadsPlace t.buf.now) R.honest R.bytes R.faults s (Some r) t) c.in-Some-Ok.field-0-is c.in-Some-Ok.ensures.step in
    let e = c.line_at.ensures in
    let step = line_step ReadsLent R.honest R.bytes R.faults t.buf.now s t c.in-Some-Ok.place passed c.line_at.result e.memory e.line in (
      (refl, (λ n. tt), ((step, inside c.line_at.result e.memory), c.in-Some-Ok.ensures.left)),
      record { steps = tt; memory = inside c.line_at.result e.memory },
    )
