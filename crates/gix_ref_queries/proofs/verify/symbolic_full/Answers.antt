use Rattle.std.proofs.Common.{inl, inr, refl, subst, List, ℕ}
use Rattle.gix_ref_name.specs.Names.{full_bytes, full_ref_bytes}
use Rattle.gix_ref_queries.specs.Answers.{NoSuchRef, ShowsLast, SymbolicFull}
use Rattle.gix_ref_queries.specs.Resolving.NameEnd.{Reached, Missing, TooDeep}
use Rattle.gix_ref_queries.proofs.Ends.{led_to}
use Rattle.gix_ref_queries.specs.declared.resolve.End.TheVariants as ends
use Rattle.gix_ref_queries.proofs.Names.{follows_to, unfollowed_by}
use Rattle.gix_ref_queries.proofs.RowLemmas.{if_ok}
use Rattle.gix_ref_queries.proofs.verify.symbolic_full.Goals as goal

pub returns-in-Object-clause-answers : goal.returns-in-Object-clause-answers
returns-in-Object-clause-answers g c =
    let F = g.F.Files in
    let G = g.F.Reader.ReadAt in
    let old = c.args.store.now in
    let mid = c.follow-last.new.store in
    let short = c.args.short in
    let name = full_ref_bytes c.args.name in
    let last = full_bytes c.follow-last.result.name in
    let at = full_ref_bytes c.as_ref.result in
    if_ok c.shown_last.result (ShowsLast G F.honest F.means F.faults mid short at name) (SymbolicFull G F.honest F.means F.faults old short name)
    (λ a. led_to G F.honest F.means F.faults old mid c.follow-last.ensures.unchanged short (Reached last c.in-Object.field-0) last at name a c.as_ref.ensures
    (follows_to F.honest F.means old (full_bytes c.in_ok-owned.owned) last name c.follow-last.result.end (ends.Object c.in-Object.field-0) (Reached last c.in-Object.field-0) c.in_ok-owned.ensures c.in-Object.is refl c.follow-last.ensures.ends c.follow-last.ensures.seen) (λ says. says))
    c.shown_last.ensures.answers

pub returns-in-Absent-clause-answers : goal.returns-in-Absent-clause-answers
returns-in-Absent-clause-answers g c =
    let F = g.F.Files in
    let G = g.F.Reader.ReadAt in
    let old = c.args.store.now in
    let mid = c.follow-last.new.store in
    let short = c.args.short in
    let name = full_ref_bytes c.args.name in
    let last = full_bytes c.follow-last.result.name in
    let at = full_ref_bytes c.as_ref-in-Absent.result in
    if_ok c.shown_last-in-Absent.result (ShowsLast G F.honest F.means F.faults mid short at name) (SymbolicFull G F.honest F.means F.faults old short name)
    (λ a. led_to G F.honest F.means F.faults old mid c.follow-last.ensures.unchanged short (Missing last) last at name a c.as_ref-in-Absent.ensures
    (follows_to F.honest F.means old (full_bytes c.in_ok-owned.owned) last name c.follow-last.result.end ends.Absent (Missing last) c.in_ok-owned.ensures c.in-Absent.is refl c.follow-last.ensures.ends c.follow-last.ensures.seen) (λ says. says))
    c.shown_last-in-Absent.ensures.answers

pub returns-in-TooDeep-clause-answers : goal.returns-in-TooDeep-clause-answers
returns-in-TooDeep-clause-answers g c =
    let F = g.F.Files in
    let old = c.args.store.now in
    if_ok c.no_such_ref.result (NoSuchRef c.to_path.result.now) (SymbolicFull g.F.Reader.ReadAt F.honest F.means F.faults old c.args.short (full_ref_bytes c.args.name))
    (λ a fails. inr (
      TooDeep,
      follows_to F.honest F.means old (full_bytes c.in_ok-owned.owned) (full_bytes c.follow-last.result.name) (full_ref_bytes c.args.name) c.follow-last.result.end ends.TooDeep TooDeep c.in_ok-owned.ensures c.in-TooDeep.is refl c.follow-last.ensures.ends c.follow-last.ensures.seen,
      subst (λ (n : List ℕ). NoSuchRef n a) c.to_path.ensures.bytes fails,
    )) c.no_such_ref.ensures

pub returns-in-Unread-clause-answers : goal.returns-in-Unread-clause-answers
returns-in-Unread-clause-answers g c =
    let F = g.F.Files in
    let G = g.F.Reader.ReadAt in
    let old = c.args.store.now in
    let done = c.follow-last.result in
    let name = full_ref_bytes c.args.name in
    let error = c.in-Unread.field-0 in
    if_ok c.no_such_ref-in-Unread.result (NoSuchRef c.to_path-in-Unread.result.now) (SymbolicFull G F.honest F.means F.faults old c.args.short name)
    (λ a fails. inl ((error, unfollowed_by G F.honest F.means F.faults old (full_bytes c.in_ok-owned.owned) (full_bytes done.name) name done.end error c.in-Unread.is c.in_ok-owned.ensures c.follow-last.ensures.ends c.follow-last.ensures.seen c.follow-last.ensures.failed), subst (λ (n : List ℕ). NoSuchRef n a) c.to_path-in-Unread.ensures.bytes fails)) c.no_such_ref-in-Unread.ensures
