use Rattle.gix_ref_session.proofs.AnswerLemmas.{append_none}
use Rattle.gix_ref_session.proofs.Closing.{aborted, answered}
use Rattle.gix_ref_session.proofs.try_once.close_by.Goals as goal

pub returns-in-Commit-clause-ends : goal.returns-in-Commit-clause-ends
returns-in-Commit-clause-ends g c old edits from =
    let F = g.F.Files in
    rw c.in-Commit.is (answered g.F.Reader.ReadAt F.honest F.means F.faults c.args.session.now old _ edits c.commit-committed.result (g.W.Write.contents c.args.out.now) (g.W.Write.contents c.answer_commit.new.out) c.answer_commit.result
    (c.commit-committed.ensures.ends old edits from) c.answer_commit.ensures)

pub returns-in-Abort-clause-ends : goal.returns-in-Abort-clause-ends
returns-in-Abort-clause-ends g c old edits from =
    let F = g.F.Files in
    rw c.in-Abort.is (aborted g.F.Reader.ReadAt F.honest F.means F.faults c.args.session.now old _ edits (g.W.Write.contents c.args.out.now) (g.W.Write.contents c.answer_abort.new.out) c.answer_abort.result
    (c.give_up.ensures.ends old edits from) c.answer_abort.ensures)

pub returns-in-End-clause-ends : goal.returns-in-End-clause-ends
returns-in-End-clause-ends g c old edits from = rw c.in-End.is (c.give_up-in-End.ensures.ends old edits from, append_none (g.W.Write.contents c.args.out.now))

pub returns-in-Abort-clause-safe : goal.returns-in-Abort-clause-safe
returns-in-Abort-clause-safe g c = c.give_up.ensures.safe c.args.session.now.committer

pub returns-in-End-clause-safe : goal.returns-in-End-clause-safe
returns-in-End-clause-safe g c = c.give_up-in-End.ensures.safe c.args.session.now.committer
