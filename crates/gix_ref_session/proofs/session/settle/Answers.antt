use Rattle.std.proofs.Common.{◌∙◌, refl, arith}
use Rattle.gix_ref_session.proofs.Settling.{ends_well, gives_up, leaves_on, loses_on, none_yet, one_more, settles_from}
use Rattle.gix_ref_session.proofs.session.settle.Goals as goal

pub tries-init : goal.tries-init
tries-init g c =
    let F = g.F.Files in
    (none_yet g.F.Reader.ReadAt F.honest F.means F.faults c.args.session.now c.args.edits.now c.args.store.now _ refl refl refl, refl, refl)

pub tries-preserved : goal.tries-preserved
tries-preserved g c =
    let F = g.F.Files in
    let b = c.tries.invariant in
    let more = one_more g.F.Reader.ReadAt F.honest F.means F.faults c.args.session.now c.args.edits.now c.args.store.now c.tries.store c.try_once.new.store c.tries.patience b.0
    c.args.closing (g.R.Read.remaining c.tries.input) (g.W.Write.contents c.tries.out) (g.R.Read.remaining c.try_once.new.input) (g.W.Write.contents c.try_once.new.out) c.in-Err.fatal c.in-Some.less c.in-Some.ensures c.in-Err.ensures.ends c.try_once.ensures.leaves c.try_once.ensures.lost in
    (more.0, more.1 ∙ b.1, more.2 ∙ b.2)

pub returns-in-Ok-clause-ends : goal.returns-in-Ok-clause-ends
returns-in-Ok-clause-ends g c =
    let F = g.F.Files in
    let b = c.tries.invariant in
    let input = g.R.Read.remaining in
    let out = g.W.Write.contents in
    settles_from g.F.Reader.ReadAt F.honest F.means F.faults c.args.session.now c.args.closing c.args.edits.now (input c.tries.input) (out c.tries.out) (input c.args.input.now) (out c.args.out.now) (input c.try_once.new.input) (out c.try_once.new.out) c.args.store.now c.try_once.new.store _ b.1 b.2
    (ends_well g.F.Reader.ReadAt F.honest F.means F.faults c.args.session.now c.args.edits.now c.args.store.now c.tries.store c.try_once.new.store c.tries.patience b.0 c.args.closing (input c.tries.input) (out c.tries.out) (input c.try_once.new.input) (out c.try_once.new.out) c.in-Ok.goes_on c.in-Ok.ensures.ends)

pub returns-in-Ok-clause-leaves : goal.returns-in-Ok-clause-leaves
returns-in-Ok-clause-leaves g c =
    let F = g.F.Files in
    leaves_on g.F.Reader.ReadAt F.honest F.means F.faults c.args.session.now c.args.edits.now c.args.store.now c.tries.store c.try_once.new.store c.tries.patience c.tries.invariant.0 c.try_once.ensures.leaves

pub returns-in-None-clause-ends : goal.returns-in-None-clause-ends
returns-in-None-clause-ends g c =
    let F = g.F.Files in
    let b = c.tries.invariant in
    let input = g.R.Read.remaining in
    let out = g.W.Write.contents in
    settles_from g.F.Reader.ReadAt F.honest F.means F.faults c.args.session.now c.args.closing c.args.edits.now (input c.tries.input) (out c.tries.out) (input c.args.input.now) (out c.args.out.now) (input c.try_once.new.input) (out c.try_once.new.out) c.args.store.now c.try_once.new.store _ b.1 b.2
    (gives_up g.F.Reader.ReadAt F.honest F.means F.faults c.args.session.now c.args.edits.now c.args.store.now c.tries.store c.try_once.new.store c.tries.patience b.0 c.args.closing (input c.tries.input) (out c.tries.out) (input c.try_once.new.input) (out c.try_once.new.out) c.in-Err.fatal c.in-None.ensures c.in-Err.ensures.ends)

pub returns-in-None-clause-leaves : goal.returns-in-None-clause-leaves
returns-in-None-clause-leaves g c =
    let F = g.F.Files in
    leaves_on g.F.Reader.ReadAt F.honest F.means F.faults c.args.session.now c.args.edits.now c.args.store.now c.tries.store c.try_once.new.store c.tries.patience c.tries.invariant.0 c.try_once.ensures.leaves

pub returns-in-Ok-clause-lost : goal.returns-in-Ok-clause-lost
returns-in-Ok-clause-lost g c =
    let F = g.F.Files in
    loses_on g.F.Reader.ReadAt F.honest F.means F.faults c.args.session.now c.args.edits.now c.args.store.now c.tries.store c.try_once.new.store c.tries.patience c.tries.invariant.0 c.try_once.ensures.lost

pub returns-in-None-clause-lost : goal.returns-in-None-clause-lost
returns-in-None-clause-lost g c =
    let F = g.F.Files in
    loses_on g.F.Reader.ReadAt F.honest F.means F.faults c.args.session.now c.args.edits.now c.args.store.now c.tries.store c.try_once.new.store c.tries.patience c.tries.invariant.0 c.try_once.ensures.lost

pub tries-smaller : goal.tries-smaller
tries-smaller g c = omega (arith, c.in-Some.ensures.fewer)
