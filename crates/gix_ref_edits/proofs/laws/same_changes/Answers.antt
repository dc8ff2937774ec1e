use Rattle.std.proofs.Common.{sym, ◌∙◌}
use Rattle.gix_ref_edits.proofs.DerivedEquality.{change_eq, change_eq-decides}
use Rattle.gix_ref_edits.proofs.laws.same_changes.Goals as goal

pub returns : goal.returns
unfolding change_eq
returns c =
    let it = change_eq-decides c.args.a.now c.args.b.now in (λ h. it.0 (sym c.eq.ensures ∙ h), λ same. c.eq.ensures ∙ it.1 same)
