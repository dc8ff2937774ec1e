use Rattle.std.proofs.Common.{◌∙◌, ap, sym, Option, ℕ, take}
use Rattle.std.proofs.lemmas.List.{take-map}
use Rattle.gix_ref_log.specs.LogLines.{line_ref_parts}
use Rattle.gix_ref_queries.specs.LogRows.{entry_parts, newest}
use Rattle.gix_ref_queries.proofs.RowLemmas.{map_reverse}
use Rattle.gix_ref_queries.proofs.log_rows.put_newest_first.Goals as goal

pub returns-in-Some : goal.returns-in-Some
returns-in-Some c =
    let entries = c.args.entries.now.items in
    ap entry_parts c.truncate.ensures.items
    ∙ (sym (take-map line_ref_parts c.in-Some.count c.reverse.new.self.items)
    ∙ (ap (take c.in-Some.count) (ap entry_parts c.reverse.ensures.items ∙ map_reverse line_ref_parts entries)
    ∙ sym (ap (λ (o : Option ℕ). newest o (entry_parts entries)) c.in-Some.is)))

pub returns-in_default : goal.returns-in_default
returns-in_default c =
    let entries = c.args.entries.now.items in
    ap entry_parts c.reverse.ensures.items ∙ (map_reverse line_ref_parts entries ∙ sym (ap (λ (o : Option ℕ). newest o (entry_parts entries)) c.in_default.is))
