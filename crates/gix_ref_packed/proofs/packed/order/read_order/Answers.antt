use Rattle.std.proofs.Common.{[], refl, arith}
use Rattle.gix_ref_packed.proofs.packed.order.read_order.Goals as goal

pub returns-clause-order : goal.returns-clause-order
returns-clause-order c =
    let read = c.in_ok-read.ensures.reads c.args.first [] (record { number = omega arith; last_is = refl; rise = λ so. tt }) in
    (read.0, read.1, read.2.rise)
