use Rattle.std.proofs.Common.{◌++◌, ◌∙◌, ap, inl, inr, codes, refl, subst, List, ℕ}
use Rattle.std.specs.Prelude.{is_none}
use Rattle.gix_ref_name.specs.Names.{full_bytes, full_ref_bytes}
use Rattle.gix_ref_queries.specs.Answers.{Fails}
use Rattle.gix_ref_queries.specs.LogRows.{ShowAnswer, ShowsLog}
use Rattle.gix_ref_queries.specs.Resolving.NameEnd.{Reached, Missing, TooDeep}
use Rattle.gix_ref_queries.specs.declared.answer.Answer.{Answer}
use Rattle.gix_ref_queries.specs.declared.resolve.End.TheVariants as ends
use Rattle.gix_ref_queries.proofs.LogEntries.{answered, shows_before}
use Rattle.gix_ref_queries.proofs.Names.{follows_to, unfollowed_by}
use Rattle.gix_ref_queries.proofs.RowLemmas.{if_ok}
use Rattle.gix_ref_queries.proofs.reflog.show_log.Goals as goal

pub returns-in-Object-clause-answers : goal.returns-in-Object-clause-answers
returns-in-Object-clause-answers g c =
    let F = g.F.Files in
    let G = g.F.Reader.ReadAt in
    let old = c.args.store.now in
    let mid = c.follow-last.new.store in
    let done = c.follow-last.result in
    let name = c.args.name.now in
    let full = full_ref_bytes c.in-Ok.full in
    let last = full_bytes done.name in
    let id = c.in-Object.field-0 in
    if_ok c.show_either.result (ShowsLog F.honest F.means F.faults mid c.show_either.new.store full (full_ref_bytes c.as_ref.result) c.args.count) (ShowAnswer F.honest F.means F.faults G old c.show_either.new.store name c.args.count)
    (λ answer shows. answered F.honest F.means F.faults old c.show_either.new.store G name c.args.count answer (Reached last id) c.in-Ok.ensures.1
    (follows_to F.honest F.means old (full_bytes c.in_ok-owned.owned) last name done.end (ends.Object id) (Reached last id) (c.in_ok-owned.ensures ∙ c.in-Ok.ensures.0) c.in-Object.is refl c.follow-last.ensures.ends c.follow-last.ensures.seen)
    (subst (λ (n : List ℕ). ShowsLog F.honest F.means F.faults old c.show_either.new.store n last c.args.count answer) c.in-Ok.ensures.0
    (subst (λ (l : List ℕ). ShowsLog F.honest F.means F.faults old c.show_either.new.store full l c.args.count answer) c.as_ref.ensures (shows_before F.honest F.means F.faults old mid c.follow-last.ensures.unchanged c.show_either.new.store full (full_ref_bytes c.as_ref.result) c.args.count answer (rw c.in-Object.is at c.follow-last.ensures.no_fault) shows)))) c.show_either.ensures.answers

pub returns-in-Absent-clause-answers : goal.returns-in-Absent-clause-answers
returns-in-Absent-clause-answers g c =
    let F = g.F.Files in
    let G = g.F.Reader.ReadAt in
    let old = c.args.store.now in
    let done = c.follow-last.result in
    let name = c.args.name.now in
    let full = full_ref_bytes c.in-Ok.full in
    let last = full_bytes done.name in
    if_ok c.ambiguous.result (λ (answer : Answer). Fails (codes "ambiguous argument '" ++ (name ++ codes "': unknown revision or path not in the working tree.")) answer) (ShowAnswer F.honest F.means F.faults G old c.follow-last.new.store name c.args.count)
    (λ answer fails. answered F.honest F.means F.faults old c.follow-last.new.store G name c.args.count answer (Missing last) c.in-Ok.ensures.1
    (follows_to F.honest F.means old (full_bytes c.in_ok-owned.owned) last name done.end ends.Absent (Missing last) (c.in_ok-owned.ensures ∙ c.in-Ok.ensures.0) c.in-Absent.is refl c.follow-last.ensures.ends c.follow-last.ensures.seen) fails) c.ambiguous.ensures

pub returns-in-TooDeep-clause-answers : goal.returns-in-TooDeep-clause-answers
returns-in-TooDeep-clause-answers g c =
    let F = g.F.Files in
    let G = g.F.Reader.ReadAt in
    let old = c.args.store.now in
    let done = c.follow-last.result in
    let name = c.args.name.now in
    let full = full_ref_bytes c.in-Ok.full in
    let last = full_bytes done.name in
    if_ok c.ambiguous-in-TooDeep.result (λ (answer : Answer). Fails (codes "ambiguous argument '" ++ (name ++ codes "': unknown revision or path not in the working tree.")) answer) (ShowAnswer F.honest F.means F.faults G old c.follow-last.new.store name c.args.count)
    (λ answer fails. answered F.honest F.means F.faults old c.follow-last.new.store G name c.args.count answer TooDeep c.in-Ok.ensures.1
    (follows_to F.honest F.means old (full_bytes c.in_ok-owned.owned) last name done.end ends.TooDeep TooDeep (c.in_ok-owned.ensures ∙ c.in-Ok.ensures.0) c.in-TooDeep.is refl c.follow-last.ensures.ends c.follow-last.ensures.seen) fails) c.ambiguous-in-TooDeep.ensures

pub returns-in-Unread-clause-answers : goal.returns-in-Unread-clause-answers
returns-in-Unread-clause-answers g c =
    let F = g.F.Files in
    let G = g.F.Reader.ReadAt in
    let old = c.args.store.now in
    let done = c.follow-last.result in
    let name = c.args.name.now in
    let error = c.in-Unread.field-0 in
    if_ok c.fatal-in-Unread.result (λ (answer : Answer). Fails (codes "cannot follow '" ++ (name ++ codes "'")) answer) (ShowAnswer F.honest F.means F.faults G old c.follow-last.new.store name c.args.count)
    (λ answer fails. inr (ap is_none c.in-Ok.ensures.1, inl ((error, unfollowed_by G F.honest F.means F.faults old (full_bytes c.in_ok-owned.owned) (full_bytes done.name) name done.end error c.in-Unread.is (c.in_ok-owned.ensures ∙ c.in-Ok.ensures.0) c.follow-last.ensures.ends c.follow-last.ensures.seen c.follow-last.ensures.failed), fails))) c.fatal-in-Unread.ensures
