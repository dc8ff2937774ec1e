use Rattle.std.proofs.Common.{◌≡◌, [], length, arith, rules, add-one, length-append, ap, refl}
use Rattle.std.proofs.lemmas.Grind.{common_steps}
use Rattle.std.proofs.lemmas.List.{nil_from_length}
use Rattle.std.proofs.lemmas.Result.{err_from_is_err_and}
use Rattle.gix_ref_edits.proofs.Joining.{split_faults_later, looked_up_both}
use Rattle.gix_ref_edits.proofs.ManyRounds.{rounds_of_none, rounds_step, five_rounds, too_many_rounds}
use Rattle.gix_ref_edits.proofs.transaction.ext.rounds.extend_with_splits.Goals as goal

pub loop-round-init : goal.loop-round-init
loop-round-init g c = record {
  may_find = c.requires.find;
  may_make = c.requires.make;
  within = omega arith;
  rounds = rounds_of_none _ _ _ _ (c.args.find.now, c.args.make_entry.now) c.args.edits.now.items;
}

pub returns-in_err-children-clause-fault : goal.returns-in_err-children-clause-fault
returns-in_err-children-clause-fault g c =
    let error = err_from_is_err_and c.from_residual.result c.from_residual.ensures.1 in
    rw (error.1, error.2) (split_faults_later _ _ _ _ _ _ _ _ c.loop-round.invariant.rounds.called c.in_err-children.ensures.fault)

pub loop-round-preserved : goal.loop-round-preserved
loop-round-preserved g c =
    let before = c.loop-round.invariant in
    let split = c.in_ok-children.ensures in
    let now = c.split_from.new.edits.items in
    let kids = c.in_ok-children.children.items in
    let len : c.len-first.result ≡ length now = search rules in
    let step = rounds_step _ _ _ _ c.loop-round._round _ (c.loop-round.find, c.loop-round.make_entry) (c.split_from.new.find, c.split_from.new.make_entry)
    c.args.edits.now.items c.loop-round.edits.items now kids c.loop-round.first before.rounds c.split_from.ensures.front split.round in
    record {
      may_find = c.split_from.ensures.find;
      may_make = c.split_from.ensures.make;
      within = omega (arith, len, ap length c.in_ok-append.ensures.items, length-append now kids);
      rounds = rw (c.in_ok-append.ensures.items, len, add-one c.loop-round._round) step;
    }

pub returns-in_err-children-2-clause-fault : goal.returns-in_err-children-2-clause-fault
returns-in_err-children-2-clause-fault g c =
    let error = err_from_is_err_and c.from_residual-in_err-children-2.result c.from_residual-in_err-children-2.ensures.1 in
    rw (error.1, error.2) (split_faults_later _ _ _ _ _ _ _ _ c.loop-round.invariant.rounds.called c.in_err-children-2.ensures.fault)

pub returns-then-is_empty-clause-split : goal.returns-then-is_empty-clause-split
returns-then-is_empty-clause-split g c =
    let kids = c.in_ok-children-2.children.items in
    let now = c.split_from-2.new.edits.items in
    let four : c.loop-round._round ≡ 4 = omega (arith, c.loop-round-test.false, c.loop-round.auto._round-end) in
    let none : kids ≡ [] = nil_from_length kids (first_of (search rules, grind (arith, common_steps))) in
    let step = rounds_step _ _ _ _ 4 _ (c.loop-round.find, c.loop-round.make_entry) (c.split_from-2.new.find, c.split_from-2.new.make_entry)
    c.args.edits.now.items c.loop-round.edits.items now kids c.loop-round.first (rw four at c.loop-round.invariant.rounds) c.split_from-2.ensures.front c.in_ok-children-2.ensures.round in
    five_rounds _ _ _ _ _ _ c.args.edits.now.items now kids none step

pub returns-clause-fault : goal.returns-clause-fault
returns-clause-fault g c =
    let kids = c.in_ok-children-2.children.items in
    let now = c.split_from-2.new.edits.items in
    let four : c.loop-round._round ≡ 4 = omega (arith, c.loop-round-test.false, c.loop-round.auto._round-end) in
    let some : kids ≡ [] → ⊥ = λ none. let empty : length kids ≡ 0 = ap length none in first_of (search rules, grind (arith, common_steps)) in
    let step = rounds_step _ _ _ _ 4 _ (c.loop-round.find, c.loop-round.make_entry) (c.split_from-2.new.find, c.split_from-2.new.make_entry)
    c.args.edits.now.items c.loop-round.edits.items now kids c.loop-round.first (rw four at c.loop-round.invariant.rounds) c.split_from-2.ensures.front c.in_ok-children-2.ensures.round in
    (refl, too_many_rounds _ _ _ _ _ _ c.args.edits.now.items now kids some step)

pub returns-in_err-append-clause-fault : goal.returns-in_err-append-clause-fault
returns-in_err-append-clause-fault g c =
    let error = err_from_is_err_and c.from_residual-in_err-append.result c.from_residual-in_err-append.ensures.1 in
    rw (error.1, error.2) (looked_up_both _ _ _ _ _ _ c.loop-round.invariant.rounds.called c.in_ok-children.ensures.round.round.called)
