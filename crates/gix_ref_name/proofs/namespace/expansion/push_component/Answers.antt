use Rattle.std.proofs.Common.{◌++◌, codes, append_assoc, ap, ◌∙◌}
use Rattle.gix_ref_name.proofs.namespace.expansion.push_component.Goals as goal

pub returns : goal.returns
returns c =
    c.in_ok-extend_from_slice-3.ensures.items
    ∙ ap (λ v. v ++ codes "/") (c.in_ok-extend_from_slice-2.ensures.items ∙ ap (λ v. v ++ c.args.component.now) c.in_ok-extend_from_slice.ensures.items)
    ∙ simp append_assoc
