use Rattle.std.proofs.Common.{◌<◌, [], ◌∷◌, ◌++◌, length, sym, ap, ◌∙◌, arith}
use Rattle.std.specs.List.{cons_option}
use Rattle.std.specs.Option.{option_map}
use Rattle.std.proofs.lemmas.List.{append-nil, map-append}
use Rattle.gix_ref_transaction.specs.PrepareSteps.{setting_of}
use Rattle.gix_ref_packed_transaction.specs.Changes.{change_value, change_values}
use Rattle.gix_ref_packed_transaction.proofs.EditChanges.{changes_more}
use Rattle.gix_ref_packed_transaction.proofs.changes.changes_of.Goals as goal
use Rattle.gix_ref_packed_transaction.proofs.changes.changes_of.Goals.{in-Some+in_ok-push, in_default}

pub loop-edit-preserved : goal.loop-edit-preserved
loop-edit-preserved c =
    let s = setting_of c.args.settings.now in
    let edits = c.args.edits.now in
    let i = c.loop-edit.edit-index in
    let e = c.edit-item.result in
    let changes = change_values c.loop-edit.changes.items in
    let lt : i < length edits = omega arith in
    elim c.match-branch-2.branch [
      | in-Some+in_ok-push w ↦
          let here = ap (λ o. cons_option o []) (ap (option_map change_value) (sym w.in-Some.is) ∙ c.in_ok-change.ensures) in
          let more = ap (λ v. change_values v.items) w.changes-is ∙ (ap change_values w.in_ok-push.ensures.items ∙ map-append change_value c.loop-edit.changes.items (w.in-Some.change ∷ [])) in
          changes_more s edits i e lt c.edit-item.is changes _ c.loop-edit.invariant (more ∙ ap (λ l. changes ++ l) here)
      | in_default w ↦
          let here = ap (λ o. cons_option o []) (ap (option_map change_value) (sym w.in_default.is) ∙ c.in_ok-change.ensures) in
          changes_more s edits i e lt c.edit-item.is changes _ c.loop-edit.invariant (ap (λ v. change_values v.items) w.changes-is ∙ (sym (append-nil changes) ∙ ap (λ l. changes ++ l) here))
    ]
