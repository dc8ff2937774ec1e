use Rattle.std.proofs.Common.{◌≡◌, sym, ap, subst, ◌∙◌}
use Rattle.std.specs.Prelude.{vec_items}
use Rattle.std.specs.Option.{option_map}
use Rattle.gix_ref_files.specs.Tree.{Path, node_at}
use Rattle.gix_ref_reflog.specs.AskedEdits.{asked_edit}
use Rattle.gix_ref_reflog.specs.DueLines.{asked_log, outcome_by}
use Rattle.gix_ref_reflog.specs.internal.LineSteps.{log_rules}
use Rattle.gix_ref_reflog.proofs.decide.decide_log.Goals as goal

pub returns-clause-log : goal.returns-clause-log
returns-clause-log g c h view sees =
    let r = log_rules c.args.rules in
    let a = asked_edit c.args.edit.now c.args.leaf in
    let at : c.in_ok-path.path.items ≡ asked_log r a = c.in_ok-path.ensures ∙ ap r.store.log c.as_ref.ensures in
    c.outcome.ensures.outcome
    ∙ (ap (λ (p : Path). outcome_by a.update.change p (option_map vec_items c.in_ok-found.found.line)) at
    ∙ ap (outcome_by a.update.change (asked_log r a)) (c.in_ok-found.ensures.line h view sees))

pub returns-clause-there : goal.returns-clause-there
returns-clause-there g c h node seen =
    let there = c.in_ok-found.ensures.there h node seen in
    subst (λ (p : Path). node ≡ node_at (g.F.Files.means c.args.files.now).tree p) (sym (c.outcome.ensures.path there.0)) (rw c.deref.ensures.value at there.1)
