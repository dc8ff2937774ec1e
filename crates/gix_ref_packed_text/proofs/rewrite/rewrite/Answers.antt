use Rattle.std.proofs.Common.{◌++◌, ◌∙◌, ap, arith}
use Rattle.gix_ref_target.specs.PackedRecords.{header_text}
use Rattle.std.proofs.lemmas.Result.{err_from_is_err_and}
use Rattle.gix_ref_packed_text.proofs.OutcomeLemmas.{rewritten, only_memory}
use Rattle.gix_ref_packed_text.proofs.rewrite.rewrite.Goals as goal

pub returns-clause-rewritten : goal.returns-clause-rewritten
returns-clause-rewritten c =
    let head = c.in_ok-push_header.ensures.ok ∙ ap (λ t. t ++ header_text) c.in_ok-text.ensures.items in
    rewritten c.args.kind c.args.edits.now c.args.records.now c.push_header.new.text.items c.apply_all.new.text.items c.len-header.result c.in_ok-alters.alters c.outcome.result head (omega arith) c.in_ok-alters.ensures.merges c.outcome.ensures

pub returns-in_err-alters-clause-rewritten : goal.returns-in_err-alters-clause-rewritten
returns-in_err-alters-clause-rewritten c = λ rs h up keys.
    let found = err_from_is_err_and c.from_residual-in_err-alters.result c.from_residual-in_err-alters.ensures.1 in
    rw (found.1, found.2) (only_memory c.args.kind c.args.first_line c.args.records.now _ rs c.in_err-alters.ensures.refused h)
