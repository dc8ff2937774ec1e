use Rattle.std.proofs.Common.{◌∙◌}
use Rattle.gix_ref_edits.proofs.DerivedOrders.{change_order, change_order_is}
use Rattle.gix_ref_edits.proofs.laws.order_changes.Goals as goal

pub returns : goal.returns
unfolding change_order
returns c = c.cmp.ensures ∙ change_order_is c.args.a.now c.args.b.now
