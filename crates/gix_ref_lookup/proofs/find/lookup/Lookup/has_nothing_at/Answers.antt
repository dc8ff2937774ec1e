use Rattle.std.proofs.Common.{◌≡◌, ◌≢◌, ◌∙◌, ℕ, [], None, Vec, ap, arith, false, length, not, subst, sym, true}
use Rattle.std.specs.declared.alloc.Global.{Global}
use Rattle.std.specs.Prelude.{◌==◌}
use Rattle.std.proofs.lemmas.Bool.{OnTrue_from}
use Rattle.gix_ref_target.specs.Layout.{below}
use Rattle.gix_ref_lookup.proofs.NothingBelow.{nothing_below}
use Rattle.gix_ref_lookup.proofs.find.lookup.Lookup.has_nothing_at.Goals as goal

-- a path that is not empty has a byte
is_kept : (path : Vec ℕ Global) → false ≡ (path.len == 0) → path.items ≢ []
is_kept path filled none =
    let length_is = ap length none in
    let zero : path.len ≡ 0 = omega (arith, path.ok, length_is) in
    let bad : false ≡ true = filled ∙ ap (λ n. n == 0) zero in
    absurd (cc)

pub returns-in-Some-clause-nothing : goal.returns-in-Some-clause-nothing
returns-in-Some-clause-nothing g c = OnTrue_from (not c.is_prohibited.result) _ (λ allowed T shaped kept.
    let path = c.args.self.now.nothing_at.now in
    let rest = c.in-Some.field-0.now in
    let some = is_kept path c.if-is_empty.ensures in
    subst (λ p. T p ≡ None) (sym (c.in-Some.ensures ∙ ap (λ f. below f rest) c.deref.ensures.value)) (nothing_below T path.items rest shaped some (kept some)))
