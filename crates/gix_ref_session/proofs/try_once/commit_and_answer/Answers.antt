use Rattle.gix_ref_session.proofs.Closing.{answered_now}
use Rattle.gix_ref_session.proofs.try_once.commit_and_answer.Goals as goal

pub returns-clause-ends : goal.returns-clause-ends
returns-clause-ends g c input old edits from =
    let F = g.F.Files in
    answered_now g.F.Reader.ReadAt F.honest F.means F.faults c.args.session.now old _ edits c.commit-committed.result input (g.W.Write.contents c.args.out.now) (g.W.Write.contents c.answer_commit.new.out) c.answer_commit.result
    (c.commit-committed.ensures.ends old edits from) c.answer_commit.ensures
