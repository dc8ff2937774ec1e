use Rattle.std.proofs.Common.{ℕ, List, ◌++◌, Bor, map, ap, sym, ◌∙◌}
use Rattle.std.proofs.lemmas.List.{take_all}
use Rattle.std.proofs.lemmas.Simd.{map-map}
use Rattle.gix_ref_name.specs.Names.{partial_ref_bytes}
use Rattle.gix_ref_values_tests.proofs.uses.candidates_of.Goals as goal

pub returns : goal.returns
returns c =
    let p = partial_ref_bytes c.args.name in
    let behind = λ (front : List ℕ). front ++ p in
    let bytes = λ (front : Bor (List ℕ)). front.now in
    let items = c.lookup_prefixes-front-items.result.now in
    c.loop-front.invariant
    ∙ ap (map (λ (front : Bor (List ℕ)). front.now ++ p)) (take_all c.loop-front.front-index items c.loop-front-test.false)
    ∙ sym (map-map behind bytes items)
    ∙ ap (map behind) c.lookup_prefixes-front-items.ensures
