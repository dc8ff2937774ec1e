use Rattle.std.proofs.Common.{◌∙◌, ap, sym, length}
use Rattle.std.proofs.lemmas.Bool.{eqb-true}
use Rattle.std.proofs.lemmas.List.{nil_from_length}
use Rattle.gix_ref_transaction.specs.OwnLocks.{paths_of}
use Rattle.gix_ref_commit.proofs.Clearing.{clears_before, clears_at_end}
use Rattle.gix_ref_commit.proofs.folders.none_in_way.Goals as goal

pub loop-way-init : goal.loop-way-init
loop-way-init c = λ h. h

pub loop-way-preserved : goal.loop-way-preserved
loop-way-preserved c = λ rest. c.loop-way.invariant
    (clears_before c.args.ways.now c.loop-way.way-index c.way-item.result c.loop-way-test.true c.way-item.is
    (ap paths_of (sym c.as_slice.ensures.value ∙ nil_from_length c.as_slice.result.now (eqb-true (length c.as_slice.result.now) 0 (sym c.if-not-is_empty.ensures)))) rest)

pub returns : goal.returns
returns c = λ is. c.loop-way.invariant (clears_at_end c.args.ways.now c.loop-way.way-index c.loop-way-test.false)
