use Rattle.std.proofs.Common.{◌≡◌, ◌+◌, ◌-◌, get_or, sym, subst, ap, ◌∙◌, arith}
use Rattle.std.proofs.Math.ListN.{set}
use Rattle.std.proofs.lemmas.List.{get_or_default}
use Rattle.gix_ref_reflog.specs.internal.Leaves.{handed, AreLeaves}
use Rattle.gix_ref_reflog.specs.declared.leaves.Leaf.{Leaf}
use Rattle.gix_ref_reflog.specs.declared.leaves.Leaf.TheVariants.{Itself}
use Rattle.gix_ref_reflog.proofs.LeafSteps.{leaves_handed}
use Rattle.gix_ref_reflog.proofs.leaves.leaves_of.Goals as goal

pub loop-i-preserved-then-parent-i : goal.loop-i-preserved-then-parent-i
loop-i-preserved-then-parent-i c =
    let edits = c.args.edits.now in
    let leaves = c.loop-i.leaves.items in
    let i = c.loop-i.i in
    let e = c.index-edits-i.result in
    let one : i ≡ (i - 1) + 1 = omega (arith, c.loop-i-test.true) in
    let is : c.for_parent.result ≡ handed e (get_or leaves (i - 1) Itself) = c.for_parent.ensures ∙ ap (handed e) (c.index.ensures ∙ get_or_default leaves (i - 1) _ Itself (omega (arith, c.loop-i-test.true, c.loop-i.invariant.len, c.loop-i.invariant.within))) in
    subst (λ (l : Leaf). AreLeaves edits (i - 1) (set leaves c.in-Some.parent l)) (sym is)
    (leaves_handed edits leaves i (i - 1) e one c.index-edits-i.is c.loop-i.invariant c.in-Some.parent c.if-parent-i.true c.in-Some.is)
