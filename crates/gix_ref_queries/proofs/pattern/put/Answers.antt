use Rattle.gix_ref_queries.proofs.Globs.{then_star, then_sign}
use Rattle.gix_ref_queries.proofs.pattern.put.Goals as goal

pub returns-then-sign-eq42 : goal.returns-then-sign-eq42
returns-then-sign-eq42 c = λ rest is. then_star c.args.sign rest c.args.name.now c.put_star.new.row c.if-sign-eq42.true (c.put_star.ensures rest is)

pub returns-else-sign-eq42 : goal.returns-else-sign-eq42
returns-else-sign-eq42 c = λ rest is. then_sign c.args.sign rest c.args.name.now c.put_sign.new.row c.if-sign-eq42.false (c.put_sign.ensures rest is)
