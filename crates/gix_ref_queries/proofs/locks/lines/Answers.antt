use Rattle.std.proofs.Common.{◌++◌, take, codes, sym, ◌∙◌, ap}
use Rattle.gix_ref_queries.specs.Answers.{path_lines}
use Rattle.gix_ref_queries.proofs.Lines.{one_more}
use Rattle.gix_ref_queries.proofs.locks.lines.Goals as goal

pub loop-path-preserved : goal.loop-path-preserved
loop-path-preserved c =
    let paths = c.args.paths.now in
    let i = c.loop-path.path-index in
    let path = c.path-item.result in
    c.in_ok-extend_from_slice-2.ensures.items
    ∙ (ap (λ t. t ++ codes "\n") (c.in_ok-extend_from_slice.ensures.items ∙ (ap (λ t. t ++ c.deref.result.now) c.loop-path.invariant ∙ ap (λ p. path_lines (take i paths) ++ p) c.deref.ensures.value))
    ∙ sym (one_more paths i path c.loop-path-test.true c.path-item.is))
