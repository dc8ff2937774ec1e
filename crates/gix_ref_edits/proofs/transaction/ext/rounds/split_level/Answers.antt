use Rattle.std.proofs.Common.{◌≡◌, ◌<◌, ◌++◌, length, append-nil, option_to_list, get_or, arith, ap, ◌∙◌, refl, sym}
use Rattle.std.proofs.lemmas.Result.{err_from_is_err_and}
use Rattle.gix_ref_edits.proofs.Joining.{faults_later, looked_up_both}
use Rattle.gix_ref_edits.proofs.OneEntry.{level_of_none, level_more, rest_of}
use Rattle.gix_ref_edits.proofs.transaction.ext.rounds.split_level.Goals as goal
use Rattle.gix_ref_edits.proofs.transaction.ext.rounds.split_level.Goals.{in-Some+in_ok-push-in-Some, in-None}

pub loop-place-init : goal.loop-place-init
loop-place-init g c = record {
  may_find = c.requires.find;
  may_make = c.requires.make;
  so_far = level_of_none _ _ _ _ _ _ _ c.new-children.ensures.items;
  rest = refl;
}

pub returns-in_err-made-clause-fault : goal.returns-in_err-made-clause-fault
returns-in_err-made-clause-fault g c =
    let error = err_from_is_err_and c.from_residual.result c.from_residual.ensures.1 in
    rw (error.1, error.2) (faults_later _ _ _ _ _ _ c.loop-place.invariant.so_far.round.called c.in_err-made.ensures.fault)

pub loop-place-preserved : goal.loop-place-preserved
loop-place-preserved g c =
    let before = c.loop-place.invariant in
    let here = c.loop-place.place in
    let kids = c.loop-place.children.items in
    let entry : _ → _ = λ d. get_or c.loop-place.level here d in
    let first : here < length c.args.level.now = omega (arith, c.loop-place.auto.level, c.loop-place-test.true) in
    let now : here < length c.loop-place.level = omega (arith, c.loop-place-test.true) in
    let pushed : c.match-branch-2.children.items ≡ kids ++ option_to_list c.in_ok-made.field-0 =
    elim c.match-branch-2.branch [
      | in-Some+in_ok-push-in-Some w ↦ ap (λ v. v.items) w.children-is ∙ w.in_ok-push-in-Some.ensures.items ∙ ap (λ o. kids ++ option_to_list o) (sym w.in-Some.is)
      | in-None w ↦ ap (λ v. v.items) w.children-is ∙ sym (append-nil kids) ∙ ap (λ o. kids ++ option_to_list o) (sym w.in-None.is)
    ] in
    record {
      may_find = c.split_entry.ensures.find;
      may_make = c.split_entry.ensures.make;
      so_far = rw pushed (level_more _ _ _ _ c.args.at _ _ (c.split_entry.new.find, c.split_entry.new.make_entry) c.args.level.now c.loop-place.level here (entry c.index-level-place.result)
          c.split_entry.new.entry kids (option_to_list c.in_ok-made.field-0) first now before.rest (ap entry c.index-level-place.is) before.so_far c.in_ok-made.ensures.round);
      rest = rest_of c.loop-place.level c.args.level.now here c.split_entry.new.entry now first before.rest;
    }

pub returns-in_err-push-in-Some-clause-fault : goal.returns-in_err-push-in-Some-clause-fault
returns-in_err-push-in-Some-clause-fault g c =
    let error = err_from_is_err_and c.from_residual-in_err-push-in-Some.result c.from_residual-in_err-push-in-Some.ensures.1 in
    rw (error.1, error.2) (looked_up_both _ _ _ _ _ _ c.loop-place.invariant.so_far.round.called c.in_ok-made.ensures.round.round.called)
