use Rattle.std.proofs.Common.{inr, sym, subst, ap}
use Rattle.gix_ref_session.specs.Commands.{Heard, heard_of}
use Rattle.gix_ref_session.specs.Gathering.{Takes, as_gathering}
use Rattle.gix_ref_session.proofs.AnswerLemmas.{append_none, keeps_same, stays_same}
use Rattle.gix_ref_session.proofs.gather.take.Goals as goal

pub returns-in-Start-clause-unsaid : goal.returns-in-Start-clause-unsaid
returns-in-Start-clause-unsaid g c = inr (append_none (g.W.Write.contents c.args.out.now))

pub returns-in-Err-clause-unsaid : goal.returns-in-Err-clause-unsaid
returns-in-Err-clause-unsaid g c = inr (append_none (g.W.Write.contents c.args.out.now))

pub returns-in-Ok-clause-takes : goal.returns-in-Ok-clause-takes
returns-in-Ok-clause-takes g c known after =
    let x = g.W.Write.contents c.args.out.now in
    let added = c.in-Ok.ensures.added in
    subst (λ (h : Heard). Takes c.args.session.now h (as_gathering known x c.args.gathered.now) (as_gathering after x c.add.new.gathered)) (sym (ap heard_of c.in-Edit.is))
    (added.3, added.4, keeps_same x, (added.0, added.1, added.2))

pub returns-in-Prepare-clause-takes : goal.returns-in-Prepare-clause-takes
returns-in-Prepare-clause-takes g c known after = (ap heard_of c.in-Prepare.is, stays_same known after (g.W.Write.contents c.args.out.now) c.args.gathered.now)

pub returns-in-Commit-clause-takes : goal.returns-in-Commit-clause-takes
returns-in-Commit-clause-takes g c known after = (ap heard_of c.in-Commit.is, stays_same known after (g.W.Write.contents c.args.out.now) c.args.gathered.now)

pub returns-in-Abort-clause-takes : goal.returns-in-Abort-clause-takes
returns-in-Abort-clause-takes g c known after = (ap heard_of c.in-Abort.is, stays_same known after (g.W.Write.contents c.args.out.now) c.args.gathered.now)
