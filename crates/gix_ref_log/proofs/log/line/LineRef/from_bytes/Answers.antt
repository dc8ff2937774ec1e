use Rattle.gix_ref_log.proofs.TextLines.{first_is_line, line_is_first}
use Rattle.gix_ref_log.proofs.log.line.LineRef.from_bytes.Goals as goal

pub returns-in-Some : goal.returns-in-Some
returns-in-Some c =
    let first = c.before_newline-input.ensures.line in
    first_is_line c.args.text.now c.before_newline-input.result.now first.0 _ first.1 c.in-Some.ensures

pub returns-in-None : goal.returns-in-None
returns-in-None c =
    let first = c.before_newline-input.ensures.line in
    (λ l is. c.in-None.ensures l (line_is_first c.args.text.now c.before_newline-input.result.now first.0 l first.1 is), first)
