use Rattle.std.proofs.Common.{◌≡◌, ◌<◌, ◌||◌, length, arith, ap, sym, ◌∙◌}
use Rattle.std.proofs.lemmas.List.{drop_more, drop_all}
use Rattle.std.proofs.lemmas.Result.{err_from_is_err_and}
use Rattle.gix_ref_packed_text.proofs.PassLemmas.{stuck_behind}
use Rattle.gix_ref_packed_text.proofs.StepLemmas.{none_applied, one_applied, all_applied}
use Rattle.gix_ref_packed_text.proofs.step.apply_all.Goals as goal
use Rattle.gix_ref_packed_text.proofs.step.apply_all.Goals.{then-alters, else-alters}

pub loop-edit-init : goal.loop-edit-init
loop-edit-init c = none_applied c.args.kind c.args.edits.now c.args.records c.args.text.now.items

pub loop-edit-preserved : goal.loop-edit-preserved
loop-edit-preserved c =
    let i = c.loop-edit.edit-index in
    let edits = c.args.edits.now in
    let lt : i < length edits = omega arith in
    let both : c.if-alters.alters ≡ (c.loop-edit.alters || c.in_ok-applied.applied.alters) =
    elim c.if-alters.branch [ then-alters w ↦ w.alters-is ∙ (w.if-alters.true ∙ ap (λ x. x || c.in_ok-applied.applied.alters) (sym w.if-alters.true)) | else-alters w ↦ w.alters-is ∙ ap (λ x. x || c.in_ok-applied.applied.alters) (sym w.if-alters.false) ] in
    one_applied c.args.kind edits c.args.records c.args.text.now.items i c.loop-edit.ahead c.loop-edit.text.items c.loop-edit.alters _ c.apply.new.text.items c.in_ok-applied.applied c.if-alters.alters
    (drop_more edits i _ lt) c.loop-edit.invariant c.in_ok-applied.ensures.applies both

pub returns-in_err-applied-clause-refused : goal.returns-in_err-applied-clause-refused
returns-in_err-applied-clause-refused c =
    let found = err_from_is_err_and c.from_residual.result c.from_residual.ensures.1 in
    rw (found.1, found.2) (stuck_behind c.args.kind c.args.records c.loop-edit.ahead c.loop-edit.invariant.passed _ c.loop-edit.invariant.passes c.in_err-applied.ensures.refused)

pub returns-in_err-copy_until-clause-refused : goal.returns-in_err-copy_until-clause-refused
returns-in_err-copy_until-clause-refused c =
    let found = err_from_is_err_and c.from_residual-in_err-copy_until.result c.from_residual-in_err-copy_until.ensures.1 in
    rw (found.1, found.2) (stuck_behind c.args.kind c.args.records c.loop-edit.ahead c.loop-edit.invariant.passed _ c.loop-edit.invariant.passes c.in_err-copy_until.ensures.refused)

pub returns-clause-merges : goal.returns-clause-merges
returns-clause-merges c =
    let i = c.loop-edit.edit-index in
    let edits = c.args.edits.now in
    all_applied c.args.kind edits c.args.records c.args.text.now.items i c.loop-edit.ahead c.loop-edit.text.items c.loop-edit.alters c.in_ok-copy_until.field-0 c.copy_until.new.text.items (drop_all i edits (omega arith)) c.loop-edit.invariant c.in_ok-copy_until.ensures.copies
