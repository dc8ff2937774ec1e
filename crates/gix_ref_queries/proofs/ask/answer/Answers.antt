use Rattle.std.proofs.Common.{List, ℕ, Bor, IfOk, subst, sym}
use Rattle.gix_ref_queries.specs.Asks.{IsAnswered}
use Rattle.gix_ref_queries.specs.Patterns.{texts}
use Rattle.gix_ref_queries.specs.Rows.{EachAnswer}
use Rattle.gix_ref_queries.specs.declared.ask.Ask.{Ask}
use Rattle.gix_ref_queries.proofs.AskLemmas.{still_locked}
use Rattle.gix_ref_queries.proofs.ask.answer.Goals as goal

pub returns-in-Locks-clause-leaves : goal.returns-in-Locks-clause-leaves
returns-in-Locks-clause-leaves g c h =
    still_locked g.F.Files.honest g.F.Files.means c.args.store.now c.list_locks.new.store c.list_locks.ensures.unchanged h

pub returns-in-Symbolic-clause-leaves : goal.returns-in-Symbolic-clause-leaves
returns-in-Symbolic-clause-leaves g c h =
    still_locked g.F.Files.honest g.F.Files.means c.args.store.now c.symbolic.new.store c.symbolic.ensures.unchanged h

pub returns-in-Verify-clause-leaves : goal.returns-in-Verify-clause-leaves
returns-in-Verify-clause-leaves g c h =
    still_locked g.F.Files.honest g.F.Files.means c.args.store.now c.verify.new.store c.verify.ensures.unchanged h

pub returns-in-LogExists-clause-leaves : goal.returns-in-LogExists-clause-leaves
returns-in-LogExists-clause-leaves g c h =
    still_locked g.F.Files.honest g.F.Files.means c.args.store.now c.log_exists.new.store c.log_exists.ensures.unchanged h

pub returns-in-ShowLog-clause-leaves : goal.returns-in-ShowLog-clause-leaves
returns-in-ShowLog-clause-leaves g c h =
    still_locked g.F.Files.honest g.F.Files.means c.args.store.now c.show_log.new.store c.show_log.ensures.unchanged h

pub returns-in-Each-clause-leaves : goal.returns-in-Each-clause-leaves
returns-in-Each-clause-leaves g c h =
    still_locked g.F.Files.honest g.F.Files.means c.args.store.now c.for_each_ref.new.store c.for_each_ref.ensures.unchanged h

pub returns-in-Symbolic-clause-answers : goal.returns-in-Symbolic-clause-answers
returns-in-Symbolic-clause-answers g c =
    let F = g.F.Files in
    subst (λ (ask : Ask). IfOk c.symbolic.result (IsAnswered g.F.Reader.ReadAt F.honest F.means F.faults c.args.store.now c.symbolic.new.store ask)) (sym c.in-Symbolic.is) c.symbolic.ensures.answers

pub returns-in-ShowLog-clause-answers : goal.returns-in-ShowLog-clause-answers
returns-in-ShowLog-clause-answers g c =
    let F = g.F.Files in
    subst (λ (ask : Ask). IfOk c.show_log.result (IsAnswered g.F.Reader.ReadAt F.honest F.means F.faults c.args.store.now c.show_log.new.store ask)) (sym c.in-ShowLog.is) c.show_log.ensures.answers

pub returns-in-Each-clause-answers : goal.returns-in-Each-clause-answers
returns-in-Each-clause-answers g c =
    let F = g.F.Files in
    let old = c.args.store.now in
    let new = c.for_each_ref.new.store in
    let each = c.in-Each.each in
    subst (λ (ask : Ask). IfOk c.for_each_ref.result (IsAnswered g.F.Reader.ReadAt F.honest F.means F.faults old new ask)) (sym c.in-Each.is)
    (subst (λ (patterns : List (Bor (List ℕ))). IfOk c.for_each_ref.result (EachAnswer F.honest F.means F.faults g.F.Reader.ReadAt old new each.format.now (texts patterns) each.descending each.count))
    c.deref.ensures.value c.for_each_ref.ensures.answers)
