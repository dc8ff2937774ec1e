use Rattle.gix_ref_transaction.proofs.prepare.split.follow.Goals as goal

pub returns-clause-led : goal.returns-clause-led
returns-clause-led g c h = rw c.if-not-edit.false (rw c.as_ref-2.ensures at (c.referent_of.ensures.led h))
