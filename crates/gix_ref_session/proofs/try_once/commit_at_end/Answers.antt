use Rattle.std.proofs.Common.{inl}
use Rattle.gix_ref_session.proofs.AnswerLemmas.{append_none, keeps_same}
use Rattle.gix_ref_session.proofs.try_once.commit_at_end.Goals as goal

pub returns-in-Ok-clause-ends : goal.returns-in-Ok-clause-ends
returns-in-Ok-clause-ends g c input out old edits from = (c.in-Ok.ensures.ends old edits from, keeps_same input, append_none out)

pub returns-in-Err-clause-ends : goal.returns-in-Err-clause-ends
returns-in-Err-clause-ends g c input out old edits from = inl (c.in-Err.ensures.ends old edits from, keeps_same input, append_none out)
