use Rattle.std.proofs.Common.{length, sym, arith}
use Rattle.std.proofs.lemmas.List.{take_all}
use Rattle.gix_ref_packed_text.proofs.QuickOrders.{orders_named, orders_quick}
use Rattle.gix_ref_packed_text.proofs.packed.decode.record_line.order_at.Goals as goal

pub returns-in-Some : goal.returns-in-Some
returns-in-Some c =
    let text = c.args.text.now in
    orders_quick c.args.kind text c.args.wanted.now c.args.sure c.in-Some.order (λ sure. absurd (cc))
    (λ same. c.in-Some.ensures.named same text (sym (take_all (length text) text (omega arith))))
    (λ name at. c.in-Some.ensures.compares text name (sym (take_all (length text) text (omega arith))) at)

pub returns : goal.returns
returns c = orders_named c.args.kind c.args.text.now c.args.wanted.now c.args.sure c.name_order.result c.name_order.ensures
