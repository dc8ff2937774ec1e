use Rattle.std.proofs.Common.{inl, inr, subst, List, ℕ}
use Rattle.gix_ref_queries.specs.Answers.{NotValid, VerifiesAs, VerifiesFull}
use Rattle.gix_ref_queries.proofs.RowLemmas.{if_ok}
use Rattle.gix_ref_queries.proofs.verify.verify.Goals as goal

pub returns-clause-answers : goal.returns-clause-answers
returns-clause-answers g c =
    let F = g.F.Files in
    inr (c.in-Some.ensures.0, subst (λ (n : List ℕ). VerifiesFull g.F.Reader.ReadAt F.honest F.means F.faults c.args.store.now n c.in_ok-answer-in-Some.answer) c.in-Some.ensures.1 c.in_ok-answer-in-Some.ensures.answers)

pub returns-in-None-clause-answers : goal.returns-in-None-clause-answers
returns-in-None-clause-answers g c =
    let F = g.F.Files in
    let name = c.args.name.now in
    if_ok c.not_valid.result (NotValid name) (VerifiesAs g.F.Reader.ReadAt F.honest F.means F.faults c.args.store.now name) (λ a fails. inl (c.in-None.ensures, fails)) c.not_valid.ensures
