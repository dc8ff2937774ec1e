use Rattle.std.proofs.Common.{arith, length-drop, length, ap}
use Rattle.std.proofs.lemmas.List.{take_rest}
use Rattle.gix_ref_packed_text.proofs.LineLemmas.{none_behind}
use Rattle.gix_ref_packed_text.proofs.packed.lines.line_end.Goals as goal

pub returns-in-Some-clause-line : goal.returns-in-Some-clause-line
returns-in-Some-clause-line c = λ i low high.
    none_behind c.args.text.now _ c.args.offset c.in-Some.after i (take_rest c.args.text.now c.args.offset) c.in-Some.ensures.0.before low (omega arith)

pub returns-in-None-clause-line : goal.returns-in-None-clause-line
returns-in-None-clause-line c = λ i low high.
    let hay = take_rest c.args.text.now c.args.offset in
    let len = length-drop c.args.offset c.args.text.now in
    none_behind c.args.text.now _ c.args.offset _ i hay c.in-None.ensures low (omega (arith, ap length hay, len))
