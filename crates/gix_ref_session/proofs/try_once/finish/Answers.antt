use Rattle.gix_ref_session.proofs.try_once.finish.Goals as goal

pub returns-in-Prepare-clause-ends : goal.returns-in-Prepare-clause-ends
returns-in-Prepare-clause-ends g c old edits from = rw c.in-Prepare.is (c.close.ensures.ends old edits from)

pub returns-in-Commit-clause-ends : goal.returns-in-Commit-clause-ends
returns-in-Commit-clause-ends g c old edits from = rw c.in-Commit.is (c.commit_and_answer.ensures.ends (g.R.Read.remaining c.args.input.now) old edits from)

pub returns-in-End-clause-ends : goal.returns-in-End-clause-ends
returns-in-End-clause-ends g c old edits from = rw c.in-End.is (c.commit_at_end.ensures.ends (g.R.Read.remaining c.args.input.now) (g.W.Write.contents c.args.out.now) old edits from)
