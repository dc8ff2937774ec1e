use Rattle.std.proofs.Common.{◌≡◌, ℕ, List, Some, Bool, true, false, [], ◌∷◌, ◌++◌, ◌==◌, length, refl, sym, ◌∙◌, ap, subst, arith}
use Rattle.std.proofs.lemmas.Bool.Decides.{Decides-eqb}
use Rattle.std.specs.Bool.{OnTrue}
use Rattle.gix_ref_target.specs.Layout.{RefPaths}
use Rattle.gix_ref_target.specs.Locations.{paths_at}
use Rattle.gix_ref_target.specs.RefLayout.{layout_of}
use Rattle.gix_ref_target.proofs.layout.RefLayout.key_is_name.Goals as goal

wider : {P Q : Type 0} (b : Bool) → (P → Q) → OnTrue b P → OnTrue b Q
wider true leads holds = leads holds
wider false leads holds = tt

no_bytes : (text : List ℕ) → (length text == 0) ≡ true → text ≡ []
no_bytes [] h = refl
no_bytes (x ∷ text) h = absurd (omega (arith, (Decides-eqb (length (x ∷ text)) 0).0 h))

pub returns : goal.returns
returns c =
    let f = layout_of c.args.self in
    let n = c.to_path.result.now in
    subst (λ (name : List ℕ). OnTrue c.is_shared.result ((paths_at f name).key ≡ Some name)) c.to_path.ensures.bytes
    (wider c.is_shared.result (λ rows.
    ap (λ (r : RefPaths). r.key) (rows f)
    ∙ ap (λ (front : List ℕ). Some (front ++ n)) (no_bytes f.namespace (sym c.if-not-is_empty.ensures))) c.is_shared.ensures)
