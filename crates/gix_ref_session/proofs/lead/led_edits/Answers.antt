use Rattle.std.proofs.Common.{subst, sym, List, []}
use Rattle.std.specs.Option.{option_map}
use Rattle.gix_ref_name.specs.Names.{full_bytes}
use Rattle.gix_ref_edits.specs.declared.transaction.RefEdit.{RefEdit}
use Rattle.gix_ref_session.specs.Leading.{AreLed, IsLed, LeadsIn}
use Rattle.gix_ref_session.specs.Clashes.{IsLookFailure}
use Rattle.gix_ref_session.proofs.ClashLemmas.{clash_look, head_look_before, own_look_before, told}
use Rattle.gix_ref_session.proofs.LeadLemmas.{branch_in, leads_in, led_more, sees_branch_before}
use Rattle.gix_ref_session.proofs.Looking.{looks_on}
use Rattle.gix_ref_session.proofs.lead.led_edits.Goals as goal

pub loop-edit-init : goal.loop-edit-init
loop-edit-init g c =
    let F = g.F.Files in
    let first = c.args.store.now in
    let at = c.check_names.new.store in
    let looked = c.check_names.ensures.unchanged in (
      looks_on F.honest F.means first at c.head_branch.new.store looked c.head_branch.ensures.unchanged,
      subst (λ (led : List RefEdit). AreLed (LeadsIn F.honest F.means first c.args.writes_lines) [] led) (sym c.new-led.ensures.items) tt,
      branch_in F.honest F.means first at looked c.args.writes_lines c.in_ok-branch.branch c.in_ok-branch.ensures.branch,
      (λ h. sees_branch_before F.honest F.means first at looked h c.args.writes_lines (option_map full_bytes c.in_ok-branch.branch) (c.in_ok-branch.ensures.seen h)),
    )

pub loop-edit-preserved : goal.loop-edit-preserved
loop-edit-preserved g c =
    let F = g.F.Files in
    let first = c.args.store.now in
    let mid = c.loop-edit.store in
    let Leads = LeadsIn F.honest F.means first c.args.writes_lines in
    let looked = c.loop-edit.invariant.0 in
    let branch = c.loop-edit.invariant.2 in (
      looks_on F.honest F.means first mid c.led_edit.new.store looked c.led_edit.ensures.unchanged,
      led_more Leads c.args.edits.now c.loop-edit.edit-index c.edit-item.result c.loop-edit.led.items c.push_edit.new.edits.items c.in_ok-edit.edit c.loop-edit-test.true c.loop-edit.invariant.1
          (subst (λ (e : RefEdit). IsLed Leads e c.in_ok-edit.edit) c.edit-item.is
          (record { change = c.in_ok-edit.ensures.change; leads = leads_in F.honest F.means first mid looked c.args.writes_lines c.loop-edit.branch-1 c.edit-item.result c.in_ok-edit.edit branch c.in_ok-edit.ensures.leads c.loop-edit.invariant.3 c.in_ok-edit.ensures.seen })) c.in_ok-push_edit.ensures,
      branch,
      c.loop-edit.invariant.3,
    )

pub returns-in_err-branch-clause-fails : goal.returns-in_err-branch-clause-fails
returns-in_err-branch-clause-fails g c =
    let F = g.F.Files in
    let G = g.F.Reader.ReadAt in
    let first = c.args.store.now in
    let fatal = c.in_err-branch.field-0.0 in
    told c.from_residual-in_err-branch.result fatal (IsLookFailure F.honest F.means F.faults G first c.args.writes_lines c.args.edits.now) c.from_residual-in_err-branch.ensures.1
    (head_look_before F.honest F.means first c.check_names.new.store c.check_names.ensures.unchanged F.faults G c.args.writes_lines c.args.edits.now fatal c.in_err-branch.ensures.fails)

pub returns-in_err-edit-clause-fails : goal.returns-in_err-edit-clause-fails
returns-in_err-edit-clause-fails g c =
    let F = g.F.Files in
    let G = g.F.Reader.ReadAt in
    let first = c.args.store.now in
    let fatal = c.in_err-edit.field-0.0 in
    told c.from_residual-in_err-edit.result fatal (IsLookFailure F.honest F.means F.faults G first c.args.writes_lines c.args.edits.now) c.from_residual-in_err-edit.ensures.1
    (own_look_before F.honest F.means first c.loop-edit.store c.loop-edit.invariant.0 F.faults G c.args.writes_lines c.args.edits.now c.loop-edit.edit-index c.edit-item.result fatal c.loop-edit-test.true c.edit-item.is c.in_err-edit.ensures.fails)

pub returns-in_err-check_names-clause-fails : goal.returns-in_err-check_names-clause-fails
returns-in_err-check_names-clause-fails g c =
    let F = g.F.Files in
    let G = g.F.Reader.ReadAt in
    let first = c.args.store.now in
    let fatal = c.in_err-check_names.field-0.0 in
    told c.from_residual.result fatal (IsLookFailure F.honest F.means F.faults G first c.args.writes_lines c.args.edits.now) c.from_residual.ensures.1
    (clash_look G F.honest F.means F.faults first c.args.writes_lines c.args.edits.now fatal c.in_err-check_names.ensures.fails)
