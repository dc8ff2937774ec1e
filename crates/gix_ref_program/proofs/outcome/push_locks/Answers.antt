use Rattle.std.proofs.Common.{◌++◌, take, sym, ◌∙◌, ap}
use Rattle.gix_ref_program.specs.Outcomes.{lock_lines}
use Rattle.gix_ref_program.proofs.LockLines.{one_more, pieces}
use Rattle.gix_ref_program.proofs.outcome.push_locks.Goals as goal

pub loop-lock-preserved : goal.loop-lock-preserved
loop-lock-preserved c =
    let old = c.args.text.now.items in
    let locks = c.args.locks.now in
    let i = c.loop-lock.lock-index in
    let lock = c.lock-item.result in
    record {
      text = pieces old (lock_lines (take i locks)) c.loop-lock.text.items c.extend_from_slice.new.self.items c.extend_from_slice-in-loop-lock.new.self.items c.extend_from_slice-in-loop-lock-2.new.self.items lock.items
          c.loop-lock.invariant.text c.in_ok-extend_from_slice.ensures.items
          (c.in_ok-extend_from_slice-2.ensures.items ∙ ap (λ t. c.extend_from_slice.new.self.items ++ t) c.deref.ensures.value)
          c.in_ok-extend_from_slice-3.ensures.items
          ∙ ap (λ t. old ++ t) (sym (one_more locks i lock c.loop-lock-test.true c.lock-item.is));
    }
