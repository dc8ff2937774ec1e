use Rattle.std.proofs.Common.{◌∙◌, ap, sym, Option, ℕ}
use Rattle.std.proofs.lemmas.List.{take-map}
use Rattle.gix_ref_queries.specs.Rows.{counted, row_texts}
use Rattle.gix_ref_queries.proofs.rows.limit.Goals as goal

pub returns-in-Some : goal.returns-in-Some
returns-in-Some c = ap row_texts c.truncate.ensures.items ∙ (sym (take-map _ c.in-Some.count c.args.rows.now.items) ∙ sym (ap (λ (o : Option ℕ). counted o (row_texts c.args.rows.now.items)) c.in-Some.is))
