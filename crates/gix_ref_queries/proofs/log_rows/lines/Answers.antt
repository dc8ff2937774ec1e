use Rattle.std.proofs.Common.{◌++◌, ◌∙◌, List, ℕ, ap, sym}
use Rattle.gix_ref_log.specs.LogLines.{line_ref_parts}
use Rattle.gix_ref_queries.specs.LogRows.{entry_line}
use Rattle.gix_ref_queries.proofs.LogEntries.{one_entry_more}
use Rattle.gix_ref_queries.proofs.log_rows.lines.Goals as goal

pub loop-place-preserved : goal.loop-place-preserved
loop-place-preserved c =
    let name = c.args.name.now in
    let entry = c.index-entries-place.result in
    c.in_ok-push_entry.ensures ∙ (ap (λ (t : List ℕ). t ++ entry_line name c.loop-place.place (line_ref_parts entry)) c.loop-place.invariant ∙ sym (one_entry_more name c.args.entries.now c.loop-place.place entry c.loop-place-test.true c.index-entries-place.is))
