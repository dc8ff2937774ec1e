use Rattle.std.proofs.Common.{inl, inr, sym}
use Rattle.gix_ref_log.proofs.LineIds.{no_space, no_digits, front_is}
use Rattle.gix_ref_log.proofs.log.line.decode.id_front.Goals.{then-text-len-via-then-text-len, then-text-len-via-else-text-len+then-text-len-ne32}
use Rattle.gix_ref_log.proofs.log.line.decode.id_front.Goals as goal

pub returns-then-text-len : goal.returns-then-text-len
returns-then-text-len c =
    elim c.then-text-len.branch [
      | then-text-len-via-then-text-len w ↦ no_space c.args.text.now c.id_len-len.result c.id_len-len.ensures (inl w.if-text-len.true)
      | then-text-len-via-else-text-len+then-text-len-ne32 w ↦ no_space c.args.text.now c.id_len-len.result c.id_len-len.ensures (inr w.if-text-len-ne32.true)
    ]

pub returns-then-not-are_hex : goal.returns-then-not-are_hex
returns-then-not-are_hex c = no_digits c.args.text.now c.id_len-len.result c.id_len-len.ensures (sym c.if-not-are_hex.ensures)

pub returns : goal.returns
returns c = front_is c.args.text.now c.id_len-len.result c.id_len-len.ensures c.if-text-len.false c.if-text-len-ne32.false (sym c.if-not-are_hex.ensures)
