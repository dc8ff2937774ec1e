use Rattle.std.proofs.Common.{◌≡◌, None, Some, [], ap, lit<, refl, sym, ◌∙◌}
use Rattle.gix_ref_target.specs.Locations.{key_outside}
use Rattle.gix_ref_packed.specs.declared.packed.find.Error.TheVariants.{Parse}
use Rattle.gix_ref_packed.specs.Searches.{FindsPartial}
use Rattle.gix_ref_packed.proofs.NamesInTurn.{rooted_is_full, asks_key, failed_for, last_for, is_err}
use Rattle.gix_ref_packed.proofs.packed.find.find_rooted.Goals as goal

pub unreachable-requires : goal.unreachable-requires
unreachable-requires c =
    let full = rooted_is_full c.args.name.now c.requires.valid c.requires.rooted in
    let bad : None ≡ Some c.in_default.field-0 = sym full ∙ c.in_default.ensures in absurd (cc)

pub returns-in_err-find_uncounted-in-Some : goal.returns-in_err-find_uncounted-in-Some
returns-in_err-find_uncounted-in-Some c =
    let p = c.args.name.now in
    let key : Some c.in-Some.key.now ≡ key_outside p = c.in-Some.ensures ∙ ap key_outside c.in-Ok.ensures.0 in
    is_err (FindsPartial c.args.kind c.args.text.now p) _ Parse c.from_residual.ensures.1
    (failed_for c.args.kind c.args.text.now p [] [] c.in-Some.key.now (asks_key p (Some c.in-Some.key.now) c.requires.rooted key) tt (0, lit< tt, refl) c.in_err-find_uncounted-in-Some.field-0.0 c.in_err-find_uncounted-in-Some.ensures)

pub returns-in_ok-find_uncounted-in-Some : goal.returns-in_ok-find_uncounted-in-Some
returns-in_ok-find_uncounted-in-Some c =
    let p = c.args.name.now in
    let key : Some c.in-Some.key.now ≡ key_outside p = c.in-Some.ensures ∙ ap key_outside c.in-Ok.ensures.0 in
    last_for c.args.kind c.args.text.now p [] c.in-Some.key.now (asks_key p (Some c.in-Some.key.now) c.requires.rooted key) tt (0, lit< tt, refl) c.in_ok-find_uncounted-in-Some.field-0 c.in_ok-find_uncounted-in-Some.ensures
