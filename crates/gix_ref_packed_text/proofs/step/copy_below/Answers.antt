use Rattle.std.proofs.Common.{◌-◌, ◌++◌, length, refl}
use Rattle.gix_ref_packed_text.proofs.PassLemmas.{split_below, records_behind, rises}
use Rattle.gix_ref_packed_text.proofs.step.copy_below.Goals as goal

pub returns-clause-copies : goal.returns-clause-copies
returns-clause-copies c =
    let copies = c.in_ok-next.ensures.copies in
    let until = copies.0 in
    let a = c.args.ahead in
    let next = c.in_ok-next.next in
    let place = c.lower_bound_in_memory-place.result.place in (
      record {
        passed = until.passed;
        passes = until.passes;
        splits = λ more h up.
            split_below c.args.kind c.args.key.now a next place (length a.rest.now - place) refl until more
            (c.lower_bound_in_memory-place.ensures.splits (until.passed ++ more) (records_behind c.args.kind a.rest.now until.passed more next.rest.now until.passes.fronts h) (rises (until.passed ++ more) up)).1;
      },
      copies.1,
    )
