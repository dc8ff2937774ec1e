use Rattle.std.proofs.Common.{inl, inr, refl, false, subst, List, ℕ}
use Rattle.gix_ref_name.specs.Names.{full_ref_bytes}
use Rattle.gix_ref_queries.specs.Answers.{IsShownAs, LastName, NoSuchRef, ShowsLast}
use Rattle.gix_ref_queries.specs.Shortening.{IsAskedFor, IsAskedInVain}
use Rattle.gix_ref_queries.proofs.Ends.{last_is}
use Rattle.gix_ref_queries.proofs.RowLemmas.{if_ok}
use Rattle.gix_ref_queries.proofs.verify.shown_last.Goals as goal

pub returns-in-Ok-clause-answers : goal.returns-in-Ok-clause-answers
returns-in-Ok-clause-answers g c =
    let F = g.F.Files in
    let old = c.args.store.now in
    let name = full_ref_bytes c.args.name in
    let last = full_ref_bytes c.args.last in
    let shown = c.in-Ok.shown.now in
    if_ok c.last_name.result (LastName c.to_path-in-Ok-2.result.now shown c.to_path-in-Ok.result.now) (ShowsLast g.F.Reader.ReadAt F.honest F.means F.faults old c.args.short last name)
    (λ a says. inl (shown, subst (λ (n : List ℕ). IsShownAs F.honest F.means old c.args.short n shown) c.to_path.ensures.bytes c.in-Ok.ensures.shown, last_is c.to_path-in-Ok-2.result.now last shown shown c.to_path-in-Ok.result.now name a c.to_path-in-Ok-2.ensures.bytes refl c.to_path-in-Ok.ensures.bytes says)) c.last_name.ensures

pub returns-in-Err-Unread-clause-answers : goal.returns-in-Err-Unread-clause-answers
returns-in-Err-Unread-clause-answers g c =
    let F = g.F.Files in
    let G = g.F.Reader.ReadAt in
    let old = c.args.store.now in
    let name = full_ref_bytes c.args.name in
    let last = full_ref_bytes c.args.last in
    let error = c.in-Err-Unread.field-0-0 in
    let vain = rw c.in-Err-Unread.field-0-is at c.in-Err-Unread.ensures.failed in
    if_ok c.no_such_ref.result (NoSuchRef c.to_path-in-Err-Unread.result.now) (ShowsLast G F.honest F.means F.faults old c.args.short last name)
    (λ a fails. inr (c.in-Err-Unread.ensures.asked, (error, subst (λ (n : List ℕ). IsAskedInVain G F.honest F.means F.faults (IsAskedFor false n) old error) c.to_path.ensures.bytes vain), subst (λ (n : List ℕ). NoSuchRef n a) c.to_path-in-Err-Unread.ensures.bytes fails)) c.no_such_ref.ensures
