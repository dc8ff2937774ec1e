use Rattle.std.proofs.Common.{[], ◌∷◌, ◌++◌, codes, lit<, refl}
use Rattle.gix_ref_packed.specs.Searches.{FindsPartial}
use Rattle.gix_ref_packed.proofs.NamesInTurn.{asks_four, missed, found_for, fails_for, last_answer, is_err}
use Rattle.gix_ref_packed.proofs.packed.find.find_partial.Goals as goal

pub returns-in_err-reference : goal.returns-in_err-reference
returns-in_err-reference c =
    is_err (FindsPartial c.args.kind c.args.text.now c.args.name.now) _ c.in_err-reference.field-0.0 c.from_residual-in_err-reference.ensures.1
    (fails_for c.args.kind c.args.text.now c.args.name.now [] ((codes "refs/tags/" ++ c.args.name.now) ∷ (codes "refs/heads/" ++ c.args.name.now) ∷ (codes "refs/remotes/" ++ c.args.name.now) ∷ []) (codes "refs/" ++ c.args.name.now) (asks_four c.args.name.now c.requires) tt (0, lit< tt, refl) c.in_err-reference.field-0.0 c.requires c.in_err-reference.ensures)

pub returns-in-Some : goal.returns-in-Some
returns-in-Some c =
    found_for c.args.kind c.args.text.now c.args.name.now [] ((codes "refs/tags/" ++ c.args.name.now) ∷ (codes "refs/heads/" ++ c.args.name.now) ∷ (codes "refs/remotes/" ++ c.args.name.now) ∷ []) (codes "refs/" ++ c.args.name.now) (asks_four c.args.name.now c.requires) tt (0, lit< tt, refl) _ c.in-Some.reference c.in-Some.is c.in_ok-reference.ensures

pub returns-in_err-reference-2 : goal.returns-in_err-reference-2
returns-in_err-reference-2 c =
    is_err (FindsPartial c.args.kind c.args.text.now c.args.name.now) _ c.in_err-reference-2.field-0.0 c.from_residual-in_err-reference-2.ensures.1
    (fails_for c.args.kind c.args.text.now c.args.name.now ((codes "refs/" ++ c.args.name.now) ∷ []) ((codes "refs/heads/" ++ c.args.name.now) ∷ (codes "refs/remotes/" ++ c.args.name.now) ∷ []) (codes "refs/tags/" ++ c.args.name.now) (asks_four c.args.name.now c.requires) (missed c.args.kind c.args.text.now (codes "refs/" ++ c.args.name.now) _ c.in_default.is c.in_ok-reference.ensures, tt) (1, lit< tt, refl) c.in_err-reference-2.field-0.0 c.requires c.in_err-reference-2.ensures)

pub returns-in-Some-2 : goal.returns-in-Some-2
returns-in-Some-2 c =
    found_for c.args.kind c.args.text.now c.args.name.now ((codes "refs/" ++ c.args.name.now) ∷ []) ((codes "refs/heads/" ++ c.args.name.now) ∷ (codes "refs/remotes/" ++ c.args.name.now) ∷ []) (codes "refs/tags/" ++ c.args.name.now) (asks_four c.args.name.now c.requires) (missed c.args.kind c.args.text.now (codes "refs/" ++ c.args.name.now) _ c.in_default.is c.in_ok-reference.ensures, tt) (1, lit< tt, refl) _ c.in-Some-2.reference c.in-Some-2.is c.in_ok-reference-2.ensures

pub returns-in_err-reference-3 : goal.returns-in_err-reference-3
returns-in_err-reference-3 c =
    is_err (FindsPartial c.args.kind c.args.text.now c.args.name.now) _ c.in_err-reference-3.field-0.0 c.from_residual-in_err-reference-3.ensures.1
    (fails_for c.args.kind c.args.text.now c.args.name.now ((codes "refs/" ++ c.args.name.now) ∷ (codes "refs/tags/" ++ c.args.name.now) ∷ []) ((codes "refs/remotes/" ++ c.args.name.now) ∷ []) (codes "refs/heads/" ++ c.args.name.now) (asks_four c.args.name.now c.requires) (missed c.args.kind c.args.text.now (codes "refs/" ++ c.args.name.now) _ c.in_default.is c.in_ok-reference.ensures, (missed c.args.kind c.args.text.now (codes "refs/tags/" ++ c.args.name.now) _ c.in_default-2.is c.in_ok-reference-2.ensures, tt)) (2, lit< tt, refl) c.in_err-reference-3.field-0.0 c.requires c.in_err-reference-3.ensures)

pub returns-in-Some-3 : goal.returns-in-Some-3
returns-in-Some-3 c =
    found_for c.args.kind c.args.text.now c.args.name.now ((codes "refs/" ++ c.args.name.now) ∷ (codes "refs/tags/" ++ c.args.name.now) ∷ []) ((codes "refs/remotes/" ++ c.args.name.now) ∷ []) (codes "refs/heads/" ++ c.args.name.now) (asks_four c.args.name.now c.requires) (missed c.args.kind c.args.text.now (codes "refs/" ++ c.args.name.now) _ c.in_default.is c.in_ok-reference.ensures, (missed c.args.kind c.args.text.now (codes "refs/tags/" ++ c.args.name.now) _ c.in_default-2.is c.in_ok-reference-2.ensures, tt)) (2, lit< tt, refl) _ c.in-Some-3.reference c.in-Some-3.is c.in_ok-reference-3.ensures

pub returns : goal.returns
returns c =
    last_answer c.args.kind c.args.text.now c.args.name.now ((codes "refs/" ++ c.args.name.now) ∷ (codes "refs/tags/" ++ c.args.name.now) ∷ (codes "refs/heads/" ++ c.args.name.now) ∷ []) (codes "refs/remotes/" ++ c.args.name.now) (asks_four c.args.name.now c.requires) (missed c.args.kind c.args.text.now (codes "refs/" ++ c.args.name.now) _ c.in_default.is c.in_ok-reference.ensures, (missed c.args.kind c.args.text.now (codes "refs/tags/" ++ c.args.name.now) _ c.in_default-2.is c.in_ok-reference-2.ensures, (missed c.args.kind c.args.text.now (codes "refs/heads/" ++ c.args.name.now) _ c.in_default-3.is c.in_ok-reference-3.ensures, tt))) (3, lit< tt, refl) c.requires c.find_behind-4.result c.find_behind-4.ensures
