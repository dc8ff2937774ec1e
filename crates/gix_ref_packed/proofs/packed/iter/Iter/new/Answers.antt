use Rattle.std.proofs.Common.{drop, ◌∙◌, None}
use Rattle.std.proofs.lemmas.List.{take_rest}
use Rattle.gix_ref_packed.proofs.ItemRuns.{each_run}
use Rattle.gix_ref_packed.proofs.packed.iter.Iter.new.Goals as goal

pub returns-clause-items : goal.returns-clause-items
returns-clause-items c =
    let text = c.args.text.now in
    let start = c.in-Some.heading.start in (
      c.in-Some.heading.header,
      drop start text,
      c.in-Some.ensures.0,
      each_run c.from.result (record { kind = c.args.kind; prefix = None; number = _; text = drop start text }) (c.from.ensures ∙ λ i. record { kind = c.args.kind; prefix = None; number = c.first_line_behind-line.ensures.line i; text = take_rest text start i }),
    )
