use Rattle.std.proofs.Common.{◌∙◌, ap, refl, true, false, subst, sym}
use Rattle.std.specs.Option.{is_none}
use Rattle.gix_ref_name.specs.Names.{full_bytes}
use Rattle.gix_ref_queries.specs.Resolving.{targets_in}
use Rattle.gix_ref_queries.specs.declared.resolve.End.{End}
use Rattle.gix_ref_queries.proofs.Names.{unfollowed_by}
use Rattle.gix_ref_queries.proofs.ShortLemmas.{IsAtObject, leads_by, sees_leads}
use Rattle.gix_ref_queries.proofs.short.leads_to_object.Goals as goal

pub returns-in-Object-clause-leads : goal.returns-in-Object-clause-leads
returns-in-Object-clause-leads g c h records are =
    leads_by (targets_in g.F.Files.means c.args.store.now records) c.args.name.now (full_bytes c.in_ok-owned.owned) (full_bytes c.follow-end.result.name) c.follow-end.result.end _ (ap is_none c.in-Ok.ensures.1)
    (c.in_ok-owned.ensures ∙ c.in-Ok.ensures.0) (c.follow-end.ensures.ends h records are) (subst (λ (e : End). IsAtObject e true) (sym c.in-Object.is) refl)

pub returns-in-Absent-clause-leads : goal.returns-in-Absent-clause-leads
returns-in-Absent-clause-leads g c h records are =
    leads_by (targets_in g.F.Files.means c.args.store.now records) c.args.name.now (full_bytes c.in_ok-owned.owned) (full_bytes c.follow-end.result.name) c.follow-end.result.end _ (ap is_none c.in-Ok.ensures.1)
    (c.in_ok-owned.ensures ∙ c.in-Ok.ensures.0) (c.follow-end.ensures.ends h records are) (subst (λ (e : End). IsAtObject e false) (sym c.in-Absent.is) refl)

pub returns-in-TooDeep-clause-leads : goal.returns-in-TooDeep-clause-leads
returns-in-TooDeep-clause-leads g c h records are =
    leads_by (targets_in g.F.Files.means c.args.store.now records) c.args.name.now (full_bytes c.in_ok-owned.owned) (full_bytes c.follow-end.result.name) c.follow-end.result.end _ (ap is_none c.in-Ok.ensures.1)
    (c.in_ok-owned.ensures ∙ c.in-Ok.ensures.0) (c.follow-end.ensures.ends h records are) (subst (λ (e : End). IsAtObject e false) (sym c.in-TooDeep.is) refl)

pub returns-in-Unread-clause-failed : goal.returns-in-Unread-clause-failed
returns-in-Unread-clause-failed g c =
    let F = g.F.Files in
    let done = c.follow-end.result in
    record {
      full = c.args.name.now;
      unfollowed = unfollowed_by g.F.Reader.ReadAt F.honest F.means F.faults c.args.store.now (full_bytes c.in_ok-owned.owned) (full_bytes done.name) c.args.name.now done.end c.in-Unread.error c.in-Unread.is (c.in_ok-owned.ensures ∙ c.in-Ok.ensures.0) c.follow-end.ensures.ends c.follow-end.ensures.seen c.follow-end.ensures.failed;
      asked = λ h records are. refl;
    }

pub returns-in-Object-clause-seen : goal.returns-in-Object-clause-seen
returns-in-Object-clause-seen g c h =
    sees_leads g.F.Files.means c.args.store.now c.args.name.now (full_bytes c.in_ok-owned.owned) (full_bytes c.follow-end.result.name) c.follow-end.result.end _ (ap is_none c.in-Ok.ensures.1)
    (c.in_ok-owned.ensures ∙ c.in-Ok.ensures.0) (c.follow-end.ensures.seen h) (subst (λ (e : End). IsAtObject e true) (sym c.in-Object.is) refl)

pub returns-in-Absent-clause-seen : goal.returns-in-Absent-clause-seen
returns-in-Absent-clause-seen g c h =
    sees_leads g.F.Files.means c.args.store.now c.args.name.now (full_bytes c.in_ok-owned.owned) (full_bytes c.follow-end.result.name) c.follow-end.result.end _ (ap is_none c.in-Ok.ensures.1)
    (c.in_ok-owned.ensures ∙ c.in-Ok.ensures.0) (c.follow-end.ensures.seen h) (subst (λ (e : End). IsAtObject e false) (sym c.in-Absent.is) refl)

pub returns-in-TooDeep-clause-seen : goal.returns-in-TooDeep-clause-seen
returns-in-TooDeep-clause-seen g c h =
    sees_leads g.F.Files.means c.args.store.now c.args.name.now (full_bytes c.in_ok-owned.owned) (full_bytes c.follow-end.result.name) c.follow-end.result.end _ (ap is_none c.in-Ok.ensures.1)
    (c.in_ok-owned.ensures ∙ c.in-Ok.ensures.0) (c.follow-end.ensures.seen h) (subst (λ (e : End). IsAtObject e false) (sym c.in-TooDeep.is) refl)
