use Rattle.std.proofs.Common.{◌<◌, [], ◌∷◌, length, sym, ap, ◌∙◌, arith, List, None, Some, subst}
use Rattle.std.specs.Option.{option_map}
use Rattle.std.proofs.lemmas.List.{append-nil, map-append, take_all}
use Rattle.gix_ref_packed_transaction.specs.Changes.{change_value, change_values}
use Rattle.gix_ref_edits.specs.declared.transaction.RefEdit.{RefEdit}
use Rattle.gix_ref_transaction.proofs.Firsts.{fault_later}
use Rattle.gix_ref_packed_transaction.specs.RecordChanges.{AreChangesOf, CanBeTaken, IsChangeOf, IsNotTaken}
use Rattle.gix_ref_packed_transaction.proofs.RecordChanges.{can_be_taken, changes_more, changes_readable}
use Rattle.gix_ref_packed_transaction.proofs.transaction.changes.changes_of.Goals as goal
use Rattle.gix_ref_packed_transaction.proofs.transaction.changes.changes_of.Goals.{in-Some+in_ok-push, in_default}

pub loop-edit-preserved : goal.loop-edit-preserved
loop-edit-preserved g c =
    let claims = g.T.Find.claims c.args.objects.now in
    let meaning = g.T.Find.meaning c.args.objects.now in
    let kind = c.args.kind in
    let edits = c.args.edits.now in
    let i = c.loop-edit.edit-index in
    let e = c.edit-item.result in
    let x = c.loop-edit.invariant in
    let changes = change_values c.loop-edit.changes.items in
    let lt : i < length edits = omega arith in
    elim c.match-branch-2.branch [
      | in-Some+in_ok-push w ↦
          let here : IsChangeOf claims meaning kind e (option_map change_value (Some w.in-Some.change)) = subst (λ o. IsChangeOf claims meaning kind e (option_map change_value o)) w.in-Some.is c.in_ok-change.ensures.change in
          let more = ap (λ v. change_values v.items) w.changes-is ∙ (ap change_values w.in_ok-push.ensures.items ∙ map-append change_value c.loop-edit.changes.items (w.in-Some.change ∷ [])) in
          record { made = changes_more claims meaning kind edits i e lt c.edit-item.is changes _ _ x.made here more; fault = λ hold error later. x.fault hold error (fault_later (λ _ edit. CanBeTaken kind meaning edit) (λ _ edit error. IsNotTaken kind meaning edit error) edits i e error lt c.edit-item.is (can_be_taken meaning kind claims e _ c.in_ok-change.ensures.change hold) later) }
      | in_default w ↦
          let here : IsChangeOf claims meaning kind e (option_map change_value None) = subst (λ o. IsChangeOf claims meaning kind e (option_map change_value o)) w.in_default.is c.in_ok-change.ensures.change in
          let more = ap (λ v. change_values v.items) w.changes-is ∙ sym (append-nil changes) in
          record { made = changes_more claims meaning kind edits i e lt c.edit-item.is changes _ _ x.made here more; fault = λ hold error later. x.fault hold error (fault_later (λ _ edit. CanBeTaken kind meaning edit) (λ _ edit error. IsNotTaken kind meaning edit error) edits i e error lt c.edit-item.is (can_be_taken meaning kind claims e _ c.in_ok-change.ensures.change hold) later) }
    ]

pub returns-clause-readable : goal.returns-clause-readable
returns-clause-readable g c full =
    let claims = g.T.Find.claims c.args.objects.now in
    let meaning = g.T.Find.meaning c.args.objects.now in
    changes_readable claims meaning c.args.kind c.args.edits.now _ full
    (subst (λ (l : List RefEdit). AreChangesOf claims meaning c.args.kind l (change_values c.loop-edit.changes.items)) (take_all c.loop-edit.edit-index c.args.edits.now (omega arith)) c.loop-edit.invariant.made)
