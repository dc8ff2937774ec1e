use Rattle.std.proofs.Common.{ℤ, sym, subst, arith}
use Rattle.std.specs.Int.{w64}
use Rattle.std.proofs.lemmas.Int.{to_z_pos}
use Rattle.gix_ref_log.specs.Signatures.{IsSeconds}
use Rattle.gix_ref_log.proofs.NumberLemmas.{number_seconds}
use Rattle.gix_ref_log.proofs.actor.seconds.Goals as goal

pub returns-in-Some : goal.returns-in-Some
returns-in-Some c =
    let number = c.in-Some.ensures in
    let small = number.small in
    subst (λ (z : ℤ). IsSeconds c.args.text.now z) (sym (to_z_pos w64 c.in-Some.number (omega arith))) (number_seconds c.args.text.now c.in-Some.number number)
