use Rattle.std.proofs.Common.{length-take-le}
use Rattle.gix_ref_packed_text.proofs.WindowLemmas.{line_behind_lf, line_at_first}
use Rattle.gix_ref_packed_text.proofs.packed.window.line_start_in.Goals as goal

pub returns-in-Some-clause-shows : goal.returns-in-Some-clause-shows
returns-in-Some-clause-shows c = λ t from is at_start.
    let w = c.args.window.now in
    let found = c.in-Some.ensures in
    line_behind_lf t w from c.args.at c.in-Some.last _ is c.requires (length-take-le c.args.at w c.requires) found.0.high found.1 found.0.after

pub returns-then-at_start-clause-shows : goal.returns-then-at_start-clause-shows
returns-then-at_start-clause-shows c = λ t from is at_start.
    let w = c.args.window.now in
    line_at_first t w from c.args.at _ is (at_start c.if-at_start.true) c.requires (length-take-le c.args.at w c.requires) c.in-None.ensures
