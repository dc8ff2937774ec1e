use Rattle.std.proofs.lemmas.List.{take_rest}
use Rattle.std.proofs.Common.{drop}
use Rattle.gix_ref_packed_text.proofs.OneReading.{no_line}
use Rattle.gix_ref_packed_text.proofs.LineLemmas.{cut_at, unended}
use Rattle.gix_ref_packed_text.proofs.packed.lines.take_line.Goals as goal

pub returns-in_default : goal.returns-in_default
returns-in_default c = unended c.args.text.now c.in_default.ensures

pub returns-in_default-after_newline : goal.returns-in_default-after_newline
returns-in_default-after_newline c =
    let found = c.in-Some.ensures in
    no_line c.args.text.now _ _ (cut_at c.args.text.now c.in-Some.end found.0.high found.0.before found.1) (rw take_rest at c.in_default-after_newline.ensures)

pub returns : goal.returns
returns c =
    let found = c.in-Some.ensures in
    record {
      after = drop c.in-Some.end c.args.text.now;
      cut = cut_at c.args.text.now c.in-Some.end found.0.high found.0.before found.1;
      newline = rw take_rest at c.in-Some-after_newline.ensures;
    }
