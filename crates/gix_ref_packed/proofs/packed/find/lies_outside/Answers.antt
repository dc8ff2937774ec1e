use Rattle.std.proofs.Common.{◌≡◌, refl, ◌∙◌, ap, arith, Some}
use Rattle.gix_ref_packed.proofs.Outside.{behind_all, before_all}
use Rattle.gix_ref_packed.proofs.packed.find.lies_outside.Goals as goal

pub returns-in-Some-Less-clause-none : goal.returns-in-Some-Less-clause-none
returns-in-Some-Less-clause-none c =
    behind_all c.args.kind c.args.text.now c.args.wanted.now c.in-Some.end c.probe_at-last.result (omega arith) c.probe_at-last.ensures.probed
    (omega arith) c.probe_at-last.ensures.beyond (c.in-Some-Less.is ∙ ap (λ o. Some o) (rw c.in-Some-Less.is at c.in-Some-Less.field-0-is))

pub returns-in-Some-Greater-clause-none : goal.returns-in-Some-Greater-clause-none
returns-in-Some-Greater-clause-none c =
    before_all c.args.kind c.args.text.now c.args.wanted.now 0 c.probe_at-first.result (omega arith) c.probe_at-first.ensures.probed
    refl (c.in-Some-Greater.is ∙ ap (λ o. Some o) (rw c.in-Some-Greater.is at c.in-Some-Greater.field-0-is))
