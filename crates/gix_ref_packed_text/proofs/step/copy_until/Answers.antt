use Rattle.std.proofs.Common.{◌++◌, ◌-◌, ◌∙◌, ap, length, arith}
use Rattle.gix_ref_packed_text.proofs.RunLemmas.{run_kept}
use Rattle.gix_ref_packed_text.proofs.step.copy_until.Goals as goal

pub returns-clause-copies : goal.returns-clause-copies
returns-clause-copies c =
    let p = c.in_ok-next.ensures.passes in
    let shorter = p.passes.shorter in (
      p,
      c.in_ok-push_run.ensures ∙ ap (λ t. c.args.text.now.items ++ t)
          (run_kept c.args.kind c.args.ahead.rest.now p.passed c.in_ok-next.next.rest.now (length c.args.ahead.rest.now - length c.in_ok-next.next.rest.now) p.passes.fronts (omega arith)),
    )
