use Rattle.std.proofs.Common.{◌≤◌, length, take, refl, sym, ◌∙◌, subst, arith}
use Rattle.std.specs.List.{All}
use Rattle.std.proofs.lemmas.List.{take_all}
use Rattle.std.proofs.lemmas.List.Elements.{All-more}
use Rattle.gix_ref_log.proofs.PlainTexts.{IsUnmarked, marked_not_plain, plain_unmarked}
use Rattle.gix_ref_log.proofs.actor.is_plain.Goals as goal

pub returns-then-is_mark : goal.returns-then-is_mark
returns-then-is_mark c =
    (λ never. absurd (cc), λ plain. absurd (marked_not_plain c.args.text.now c.loop-byte.byte-index c.loop-byte-test.true (sym c.is_mark.ensures ∙ c.if-is_mark.true) plain))

pub loop-byte-preserved : goal.loop-byte-preserved
loop-byte-preserved c =
    All-more IsUnmarked c.args.text.now c.loop-byte.byte-index 0 c.loop-byte-test.true c.loop-byte.invariant (sym c.is_mark.ensures ∙ c.if-is_mark.false)

pub returns : goal.returns
returns c =
    let text = c.args.text.now in
    let past : length text ≤ c.loop-byte.byte-index = omega (arith, c.loop-byte-test.false) in
    (λ _. plain_unmarked text (subst (All IsUnmarked) (take_all c.loop-byte.byte-index text past) c.loop-byte.invariant), λ _. refl)
