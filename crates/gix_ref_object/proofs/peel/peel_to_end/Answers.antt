use Rattle.std.proofs.Common.{Option, Ok, subst, arith}
use Rattle.gix_ref_hash.specs.declared.hash.ObjectId.{ObjectId}
use Rattle.gix_ref_object.proofs.Chains.{Says, walks_on, walks_to, walks_into, too_long}
use Rattle.gix_ref_object.proofs.peel.peel_to_end.Goals as goal

pub loop-preserved : goal.loop-preserved
loop-preserved g c =
    let C = g.T.Find.claims c.args.finder.now in
    let m = g.T.Find.meaning c.args.finder.now in
    walks_on C m c.args.id c.loop.counter c.loop.at c.in-Ok-Some.target c.loop-test.true c.loop.invariant
    (subst (λ (o : Option ObjectId). Says C m c.loop.at (Ok o)) c.in-Ok-Some.field-0-is c.in-Ok-Some.ensures)

pub returns-in-Ok-None : goal.returns-in-Ok-None
returns-in-Ok-None g c =
    let C = g.T.Find.claims c.args.finder.now in
    let m = g.T.Find.meaning c.args.finder.now in
    walks_to C m c.args.id c.loop.counter c.loop.at c.loop-test.true c.loop.invariant
    (subst (λ (o : Option ObjectId). Says C m c.loop.at (Ok o)) c.in-Ok-None.field-0-is c.in-Ok-None.ensures)

pub returns-in-Err : goal.returns-in-Err
returns-in-Err g c =
    walks_into (g.T.Find.claims c.args.finder.now) (g.T.Find.meaning c.args.finder.now) c.args.id c.loop.counter c.loop.at c.in-Err.error c.loop-test.true c.loop.invariant c.in-Err.ensures

pub returns : goal.returns
returns g c =
    let a = c.loop-test.false in
    let b = c.loop.auto.counter-end in
    too_long _ _ _ c.loop.counter c.loop.at (omega arith) c.loop.invariant
