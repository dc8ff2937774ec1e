use Rattle.gix_ref_session.specs.Commands.{heard_of}
use Rattle.gix_ref_session.specs.Gathering.{as_gathering}
use Rattle.gix_ref_session.proofs.GatherLemmas.{heard, not_done}
use Rattle.gix_ref_session.proofs.gather.hear.Goals as goal

pub returns-else-not-may_come-clause-hears : goal.returns-else-not-may_come-clause-hears
returns-else-not-may_come-clause-hears g c =
    heard c.args.session.now c.args.needs_start (heard_of c.in-Ok-Some.command) c.take.result (g.R.Read.remaining c.args.input.now) _ (g.W.Write.contents c.args.out.now) _ c.args.gathered.now c.take.new.gathered
    (rw c.in-Ok-Some.field-0-is at c.in-Ok-Some.ensures.read) c.if-not-may_come.ensures c.take.ensures.takes

pub returns-else-not-may_come-clause-fails : goal.returns-else-not-may_come-clause-fails
returns-else-not-may_come-clause-fails g c =
    not_done c.args.session.now c.args.needs_start (heard_of c.in-Ok-Some.command) c.take.result (as_gathering (g.R.Read.remaining c.args.input.now) (g.W.Write.contents c.args.out.now) c.args.gathered.now) _ (rw c.in-Ok-Some.field-0-is at c.in-Ok-Some.ensures.read)
    (c.take.ensures.fails (g.R.Read.remaining c.args.input.now) (g.W.Write.contents c.args.out.now) c.args.needs_start)
