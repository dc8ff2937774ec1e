use Rattle.std.proofs.Common.{rules, ◌≡◌, ◌∙◌, ap, refl, sym, subst, List, ℕ}
use Rattle.gix_ref_name.specs.Names.{full_bytes}
use Rattle.gix_ref_queries.specs.Resolving.{SeesEnd, targets_in, resolved}
use Rattle.gix_ref_queries.specs.Resolving.NameEnd.{Missing, Reached, TooDeep}
use Rattle.gix_ref_queries.proofs.Names.{unfollowed_by}
use Rattle.gix_ref_session.specs.Clashes.{missing_last}
use Rattle.gix_ref_session.proofs.clash.missing_end.Goals as goal

pub returns-in-Object-clause-ends : goal.returns-in-Object-clause-ends
returns-in-Object-clause-ends g c h records are =
    let find = targets_in g.F.Files.means c.args.store.now records in
    let same : full_bytes c.in_ok-clone.field-0 ≡ full_bytes c.args.name.now = search rules in
    sym (ap missing_last (sym (ap (λ (n : List ℕ). resolved find 5 n) same) ∙ rw c.in-Object.is at (c.follow-last.ensures.ends h records are)))

pub returns-in-Absent-clause-ends : goal.returns-in-Absent-clause-ends
returns-in-Absent-clause-ends g c h records are =
    let find = targets_in g.F.Files.means c.args.store.now records in
    let same : full_bytes c.in_ok-clone.field-0 ≡ full_bytes c.args.name.now = search rules in
    sym (ap missing_last (sym (ap (λ (n : List ℕ). resolved find 5 n) same) ∙ rw c.in-Absent.is at (c.follow-last.ensures.ends h records are)))

pub returns-in-TooDeep-clause-ends : goal.returns-in-TooDeep-clause-ends
returns-in-TooDeep-clause-ends g c h records are =
    let find = targets_in g.F.Files.means c.args.store.now records in
    let same : full_bytes c.in_ok-clone.field-0 ≡ full_bytes c.args.name.now = search rules in
    sym (ap missing_last (sym (ap (λ (n : List ℕ). resolved find 5 n) same) ∙ rw c.in-TooDeep.is at (c.follow-last.ensures.ends h records are)))

pub returns-in-Unread-clause-fails : goal.returns-in-Unread-clause-fails
returns-in-Unread-clause-fails g c =
    let F = g.F.Files in
    let done = c.follow-last.result in
    let same : full_bytes c.in_ok-clone.field-0 ≡ full_bytes c.args.name.now = search rules in
    unfollowed_by g.F.Reader.ReadAt F.honest F.means F.faults c.args.store.now (full_bytes c.in_ok-clone.field-0) (full_bytes done.name) (full_bytes c.args.name.now) done.end c.in-Unread.error c.in-Unread.is same c.follow-last.ensures.ends c.follow-last.ensures.seen c.follow-last.ensures.failed

pub returns-in-Absent-clause-seen : goal.returns-in-Absent-clause-seen
returns-in-Absent-clause-seen g c h =
    let F = g.F.Files in
    let same : full_bytes c.in_ok-clone.field-0 ≡ full_bytes c.args.name.now = search rules in
    let end = Missing (full_bytes c.follow-last.result.name) in
    (end, subst (λ (n : List ℕ). SeesEnd F.means c.args.store.now 5 n end) same (rw c.in-Absent.is at (c.follow-last.ensures.seen h)), refl)

pub returns-in-Object-clause-seen : goal.returns-in-Object-clause-seen
returns-in-Object-clause-seen g c h =
    let F = g.F.Files in
    let same : full_bytes c.in_ok-clone.field-0 ≡ full_bytes c.args.name.now = search rules in
    let end = Reached (full_bytes c.follow-last.result.name) c.in-Object.field-0 in
    (end, subst (λ (n : List ℕ). SeesEnd F.means c.args.store.now 5 n end) same (rw c.in-Object.is at (c.follow-last.ensures.seen h)), refl)

pub returns-in-TooDeep-clause-seen : goal.returns-in-TooDeep-clause-seen
returns-in-TooDeep-clause-seen g c h =
    let F = g.F.Files in
    let same : full_bytes c.in_ok-clone.field-0 ≡ full_bytes c.args.name.now = search rules in
    (TooDeep, subst (λ (n : List ℕ). SeesEnd F.means c.args.store.now 5 n TooDeep) same (rw c.in-TooDeep.is at (c.follow-last.ensures.seen h)), refl)
