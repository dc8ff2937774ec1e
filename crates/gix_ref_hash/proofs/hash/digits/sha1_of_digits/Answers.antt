use Rattle.std.proofs.Common.{ℕ, ◌+◌, ◌-◌, ◌*◌, ◌%◌, ◌==◌, slice_index, sym, ◌∙◌, ap, subst, arith}
use Rattle.std.proofs.lemmas.Bool.{cond-false}
use Rattle.gix_ref_hash.proofs.HexPairs.{pairs_decode}
use Rattle.gix_ref_hash.specs.Digits.{IsPair}
use Rattle.gix_ref_hash.proofs.HexLanes.{pair_in_front, pair_in_back, pairs_more}
use Rattle.gix_ref_hash.proofs.hash.digits.sha1_of_digits.Goals as goal
use Rattle.gix_ref_hash.proofs.hash.digits.sha1_of_digits.Goals.{then-i-lt16, else-i-lt16}

pub loop-i-preserved : goal.loop-i-preserved
loop-i-preserved c =
    let text = c.args.digits.now in
    let i = c.loop-i.i in
    let pair : IsPair (slice_index text (2 * i)) (slice_index text (2 * i + 1)) c.if-i-lt16.bytes = elim c.if-i-lt16.branch [
      | then-i-lt16 w ↦ subst (IsPair (slice_index text (2 * i)) (slice_index text (2 * i + 1))) (sym w.bytes-is) (pair_in_front text i _ w.if-i-lt16.true (c.sixteen_bytes-front.ensures i w.if-i-lt16.true))
      | else-i-lt16 w ↦ subst (IsPair (slice_index text (2 * i)) (slice_index text (2 * i + 1))) (sym w.bytes-is) (pair_in_back text i _ (omega (arith, w.if-i-lt16.false)) c.loop-i-test.true (c.sixteen_bytes-back.ensures (i - 4) (omega (arith, c.loop-i-test.true))))
    ] in
    pairs_more text c.loop-i.bytes i c.if-i-lt16.bytes c.loop-i-test.true c.loop-i.invariant pair

pub returns : goal.returns
returns c = λ digits.
    let inv = c.loop-i.invariant in
    let len = inv.0 in
    let end = c.loop-i-test.false in
    cond-false _ _ _ (ap (λ (n : ℕ). n % 2 == 1) c.told-digits)
    ∙ pairs_decode c.args.digits.now c.loop-i.bytes 0 (omega (arith, c.told-digits)) digits (λ k l. inv.1 k (omega arith))
