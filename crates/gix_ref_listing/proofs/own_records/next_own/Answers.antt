use Rattle.std.proofs.Common.{sym, ◌∙◌, ap, Some, None, rules}
use Rattle.gix_ref_packed_text.specs.Views.{record_of}
use Rattle.gix_ref_packed.proofs.OneItem.{next_gives_first}
use Rattle.gix_ref_listing.specs.OwnRecords.{own_records, with_own}
use Rattle.gix_ref_listing.proofs.OwedLemmas.{ended, met, passed, taken}
use Rattle.gix_ref_listing.proofs.own_records.next_own.Goals as goal

pub returns-in-Err-clause-gives : goal.returns-in-Err-clause-gives
returns-in-Err-clause-gives c rs yet =
    let before = c.loop-item.invariant.yet rs yet in
    rw c.in-Err.is at (next_gives_first c.loop-item.records c.next.new.self (Some c.in-Some.item) before.0 c.in-Some.ensures.steps before.2)

pub returns-in-Some-name_of_key-clause-gives : goal.returns-in-Some-name_of_key-clause-gives
returns-in-Some-name_of_key-clause-gives c rs yet =
    let before = c.loop-item.invariant.yet rs yet in
    let took = rw c.in-Ok.is at (next_gives_first c.loop-item.records c.next.new.self (Some c.in-Some.item) before.0 c.in-Some.ensures.steps before.2) in
    (took.0, before.1 ∙ (ap (own_records c.args.settings) took.1 ∙ ap (λ n. with_own n (record_of c.in-Ok.record) (own_records c.args.settings took.0)) (sym c.in-Some-name_of_key.ensures)), took.2)

pub loop-item-preserved : goal.loop-item-preserved
loop-item-preserved c = record {
  yet = λ rs yet.
      let before = c.loop-item.invariant.yet rs yet in
      let took = rw c.in-Ok.is at (next_gives_first c.loop-item.records c.next.new.self (Some c.in-Some.item) before.0 c.in-Some.ensures.steps before.2) in
      (took.0, before.1 ∙ (ap (own_records c.args.settings) took.1 ∙ ap (λ n. with_own n (record_of c.in-Ok.record) (own_records c.args.settings took.0)) (sym c.in_default-name_of_key.ensures)), took.2);
  owes = λ text given owes.
      passed c.args.settings text given c.loop-item.records c.next.new.self c.in-Ok.record (rw c.in-Ok.is at c.in-Some.ensures.steps) (sym c.in_default-name_of_key.ensures) (c.loop-item.invariant.owes text given owes);
  less = search rules;
}

pub returns-in-Err-clause-owes : goal.returns-in-Err-clause-owes
returns-in-Err-clause-owes c text given owes =
    met c.args.settings text given c.loop-item.records c.next.new.self _ (rw c.in-Err.is at c.in-Some.ensures.steps) (c.loop-item.invariant.owes text given owes)

pub returns-in-Some-name_of_key-clause-owes : goal.returns-in-Some-name_of_key-clause-owes
returns-in-Some-name_of_key-clause-owes c text given owes =
    taken c.args.settings text given c.loop-item.records c.next.new.self c.in-Ok.record _ (rw c.in-Ok.is at c.in-Some.ensures.steps) (sym c.in-Some-name_of_key.ensures) (c.loop-item.invariant.owes text given owes)

pub returns-clause-owes : goal.returns-clause-owes
returns-clause-owes c text given owes =
    ended c.args.settings text given c.loop-item.records c.next.new.self c.in_default.ensures.steps (c.loop-item.invariant.owes text given owes)

pub returns-clause-gives : goal.returns-clause-gives
returns-clause-gives c rs yet =
    let before = c.loop-item.invariant.yet rs yet in
    let took = next_gives_first c.loop-item.records c.next.new.self None before.0 c.in_default.ensures.steps before.2 in
    (before.1 ∙ ap (own_records c.args.settings) took.0, took.1)
