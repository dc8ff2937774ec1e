use Rattle.gix_ref_read_back.proofs.EditedListings.{ended, taken}
use Rattle.gix_ref_read_back.proofs.list.collect.Goals as goal

pub loop-all-preserved : goal.loop-all-preserved
loop-all-preserved g c =
    let F = g.F.Files in
    taken F.honest F.means F.faults c.args.items.now c.loop-all.items c.take_next.new.items c.loop-all.all.items c.take_next.new.all.items c.in_ok-take_next.field-0
    c.loop-all.invariant c.in_ok-take_next.ensures.takes c.if-branch.true

pub returns-clause-gives : goal.returns-clause-gives
returns-clause-gives g c =
    let F = g.F.Files in
    ended F.honest F.means F.faults c.args.items.now c.loop-all.items c.take_next.new.items c.loop-all.all.items c.take_next.new.all.items c.in_ok-take_next.field-0
    c.loop-all.invariant c.in_ok-take_next.ensures.takes c.if-branch.false
