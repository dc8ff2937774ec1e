use Rattle.std.proofs.Common.{inl, inr, ap, subst, List, ℕ}
use Rattle.std.specs.Option.{is_none}
use Rattle.gix_ref_queries.specs.Answers.{NoSuchRef, SymbolicAs, SymbolicFull}
use Rattle.gix_ref_name.specs.NameGrammar.{partial_error}
use Rattle.gix_ref_queries.proofs.Ends.{not_none}
use Rattle.gix_ref_queries.proofs.RowLemmas.{if_ok}
use Rattle.gix_ref_queries.proofs.verify.symbolic.Goals as goal

pub returns-clause-answers : goal.returns-clause-answers
returns-clause-answers g c =
    let F = g.F.Files in
    inr (ap is_none c.in-Some.ensures.0, subst (λ (n : List ℕ). SymbolicFull g.F.Reader.ReadAt F.honest F.means F.faults c.args.store.now c.args.short n c.in_ok-answer-in-Some.answer) c.in-Some.ensures.1 c.in_ok-answer-in-Some.ensures.answers)

pub returns-in-None-clause-answers : goal.returns-in-None-clause-answers
returns-in-None-clause-answers g c =
    let F = g.F.Files in
    let name = c.args.name.now in
    if_ok c.no_such_ref.result (NoSuchRef name) (SymbolicAs g.F.Reader.ReadAt F.honest F.means F.faults c.args.store.now c.args.short name) (λ a fails. inl (not_none (partial_error name) c.in-None.ensures, fails)) c.no_such_ref.ensures
