use Rattle.std.proofs.Common.{◌∙◌}
use Rattle.gix_ref_edits.proofs.DerivedOrders.{edit_order, edit_order_is}
use Rattle.gix_ref_edits.proofs.laws.order_edits.Goals as goal

pub returns : goal.returns
unfolding edit_order
returns c = c.cmp.ensures ∙ edit_order_is c.args.a.now c.args.b.now
