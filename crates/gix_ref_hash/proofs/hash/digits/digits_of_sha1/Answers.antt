use Rattle.std.proofs.Common.{arith}
use Rattle.gix_ref_hash.proofs.WrittenDigits.{written_is}
use Rattle.gix_ref_hash.proofs.hash.digits.digits_of_sha1.Goals as goal

pub returns : goal.returns
returns c =
    let inv = c.loop-i-2.invariant in
    written_is c.args.bytes.now c.loop-i-2.digits (omega (arith, inv.0, c.told-bytes)) (λ k less. inv.2 k (omega (arith, less, c.loop-i-2-test.false, c.told-bytes)))
