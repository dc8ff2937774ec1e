use Rattle.gix_ref_packed_text.proofs.QuickOrders.{plain_by}
use Rattle.gix_ref_packed_text.proofs.packed.decode.record_line.has_no_control.Goals as goal

pub returns : goal.returns
returns c =
    let was = c.loop-byte.invariant in
    plain_by c.loop-byte.least c.loop-byte.byte-index c.args.name.now c.loop-byte-test.false was.least_of was.met c.loop-byte.auto.byte-index-end
