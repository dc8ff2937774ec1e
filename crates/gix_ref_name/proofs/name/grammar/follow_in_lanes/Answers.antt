use Rattle.std.proofs.Common.{◌≡◌, ℕ, ◌+◌, ◌<◌, true, false, Bool, get_or, refl, arith}
use Rattle.std.specs.Bool.{OnTrue}
use Rattle.gix_ref_name.specs.NameGrammar.{AllFollow, may_follow}
use Rattle.gix_ref_name.proofs.PlainPaths.{one_more, run_follows}
use Rattle.gix_ref_name.proofs.name.grammar.follow_in_lanes.Goals as goal

pub loop-i-preserved : goal.loop-i-preserved
loop-i-preserved c = one_more c.in-Ok.before.now c.in-Ok-try_from.bytes.now c.loop-i.i c.loop-i.follow c.may_follow-follow.result c.may_follow-follow.ensures c.loop-i.invariant

pub returns : goal.returns
returns c = go c.loop-i.follow c.loop-i.invariant
  where
    go : (b : Bool) → (b ≡ true → (k : ℕ) → k < c.loop-i.i → may_follow (get_or c.in-Ok.before.now k 0) (get_or c.in-Ok-try_from.bytes.now k 0) ≡ true) → OnTrue b (AllFollow c.args.name.now c.args.start (c.args.start + 16))
    go true follow = run_follows c.args.name.now c.args.start _ _ c.in-Ok.before.now c.in-Ok-try_from.bytes.now c.requires.first (omega (arith, c.requires.first)) (omega arith) c.in-Ok.ensures.1.same c.in-Ok-try_from.ensures.1.same (λ k lt. follow refl k (omega (arith, c.loop-i-test.false)))
    go false follow = tt
