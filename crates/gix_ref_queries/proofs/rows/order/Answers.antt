use Rattle.std.proofs.Common.{◌∙◌, ap, sym, Bool}
use Rattle.gix_ref_queries.specs.Rows.{ordered, row_texts}
use Rattle.gix_ref_queries.proofs.RowLemmas.{map_reverse}
use Rattle.gix_ref_queries.proofs.rows.order.Goals as goal

pub returns-then-descending : goal.returns-then-descending
returns-then-descending c = ap row_texts c.reverse.ensures.items ∙ (map_reverse _ c.args.rows.now.items ∙ sym (ap (λ (b : Bool). ordered b (row_texts c.args.rows.now.items)) c.if-descending.true))
