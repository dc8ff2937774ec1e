use Rattle.std.proofs.Common.{◌≤◌, ℕ, length, drop, arith, sym, subst}
use Rattle.gix_ref_packed_text.specs.Shown.{IfHere}
use Rattle.std.proofs.lemmas.List.{take_rest}
use Rattle.gix_ref_packed_text.specs.Windows.{FrontIs}
use Rattle.gix_ref_packed_text.proofs.WindowLemmas.{part_is, whole_part}
use Rattle.gix_ref_packed_text.proofs.packed.window.record_in.Goals as goal

pub returns-clause-front : goal.returns-clause-front
returns-clause-front c = λ text start is last begins.
    let w = c.args.window.now in
    let from = c.args.from in
    let inside = c.requires.inside in
    let low : c.args.at ≤ length w = omega arith in
    let found = rw take_rest at c.found_in.ensures.front in
    subst (λ (i : ℕ). IfHere c.found_in.result (FrontIs c.args.kind (drop i text))) (sym begins)
    (found _ (part_is text w from c.args.at is low) (λ e. whole_part text w from c.args.at is low (last e)))
