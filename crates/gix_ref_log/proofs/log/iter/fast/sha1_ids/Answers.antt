use Rattle.std.proofs.Common.{sym, ◌∙◌, arith}
use Rattle.std.proofs.lemmas.List.{take_rest, length-take-le}
use Rattle.gix_ref_log.proofs.FastLines.{two_ids, both_hold}
use Rattle.gix_ref_log.proofs.log.iter.fast.sha1_ids.Goals as goal

pub slice_bounds-previous-end : goal.slice_bounds-previous-end
slice_bounds-previous-end c = omega (arith, length-take-le 40 c.args.text.now (omega (arith, c.if-text-lt82.false)))

pub returns : goal.returns
returns c =
    let both = both_hold c.are_hex.result c.are_hex-2.result c.if-not-are_hex.false in
    rw take_rest (two_ids c.args.text.now c.if-text-lt82.false c.if-text-ne32.false c.if-text-ne32-2.false (sym c.are_hex.ensures ∙ both.0) (sym c.are_hex-2.ensures ∙ both.1))
