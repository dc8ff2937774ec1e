use Rattle.std.proofs.Common.{◌<◌, length, take, arith, ne_eqb}
use Rattle.std.proofs.lemmas.List.{take_rest}
use Rattle.gix_ref_hash.specs.Bytes.{is_space}
use Rattle.gix_ref_hash.proofs.ByteLemmas.{spans_at, spans_all}
use Rattle.gix_ref_hash.proofs.bytes.after_spaces.Goals as goal

pub returns-then-byte-ne32 : goal.returns-then-byte-ne32
returns-then-byte-ne32 c =
    let within : c.loop-i.i < length c.args.text.now = omega arith in
    rw take_rest (take c.loop-i.i c.args.text.now, spans_at is_space c.args.text.now c.loop-i.i within c.loop-i.invariant (ne_eqb _ _ c.if-byte-ne32.true))

pub returns : goal.returns
returns c = rw take_rest (c.args.text.now, spans_all is_space c.args.text.now c.loop-i.i (length c.args.text.now) c.loop-i-test.false (omega arith) c.loop-i.invariant)
