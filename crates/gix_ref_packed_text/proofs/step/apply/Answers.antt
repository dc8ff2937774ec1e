use Rattle.gix_ref_packed_text.proofs.StepLemmas.{applies_named, applies_other}
use Rattle.gix_ref_packed_text.proofs.step.apply.Goals as goal

pub returns-in-Some-clause-applies : goal.returns-in-Some-clause-applies
returns-in-Some-clause-applies c =
    let named = c.in-Some.ensures in
    applies_named c.args.kind c.args.edit.now c.args.ahead c.in_ok-before.before c.in-Some.next c.args.text.now.items _ c.push_put.new.text.items c.in_ok-before.ensures.copies c.in_ok-push_put.ensures named.0 named.1 named.2

pub returns-in-None-clause-applies : goal.returns-in-None-clause-applies
returns-in-None-clause-applies c =
    applies_other c.args.kind c.args.edit.now c.args.ahead c.in_ok-before.before c.args.text.now.items _ c.push_put.new.text.items c.is_some.result c.in_ok-before.ensures.copies c.in_ok-push_put.ensures c.in-None.ensures c.is_some.ensures
