use Rattle.std.proofs.Common.{◌<◌, length, drop, sym, ◌∙◌, ap, arith, not}
use Rattle.gix_ref_hash.specs.Bytes.{in_line}
use Rattle.gix_ref_hash.proofs.ByteLemmas.{spans_at, passes_more}
use Rattle.gix_ref_hash.proofs.bytes.up_to_line_end.Goals as goal

pub returns-then-is_line_end : goal.returns-then-is_line_end
returns-then-is_line_end c =
    let within : c.loop-i.i < length c.args.text.now = omega arith in
    (drop c.loop-i.i c.args.text.now, spans_at in_line c.args.text.now c.loop-i.i within c.loop-i.invariant (ap not (sym c.is_line_end.ensures ∙ c.if-is_line_end.true)))

pub loop-i-preserved : goal.loop-i-preserved
loop-i-preserved c =
    let within : c.loop-i.i < length c.args.text.now = omega arith in
    passes_more in_line c.args.text.now c.loop-i.i within c.loop-i.invariant (ap not (sym c.is_line_end.ensures ∙ c.if-is_line_end.false))
