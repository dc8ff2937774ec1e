use Rattle.gix_ref_name.proofs.CategoryLemmas.{no_linked_slash, no_linked_short}
use Rattle.gix_ref_name.proofs.name.category.in_linked_worktree.Goals as goal

pub returns-in_default-split_component-clause-none : goal.returns-in_default-split_component-clause-none
returns-in_default-split_component-clause-none c =
    no_linked_slash _ c.in-Some.rest.now c.in-Some.ensures c.in_default-split_component.ensures

pub returns-else-is_pseudo_name-clause-none : goal.returns-else-is_pseudo_name-clause-none
returns-else-is_pseudo_name-clause-none c =
    let cut = c.in-Some-split_component.ensures in
    no_linked_short _ c.in-Some.rest.now c.in-Some-split_component.worktree.now c.in-Some-split_component.short.now c.in-Some.ensures cut.none cut.whole
    (λ b. let yes = c.begins_with.ensures.1 b in absurd (cc (c.if-begins_with.false)))
    (λ b. absurd (cc (c.if-is_pseudo_name.false, c.is_pseudo_name.ensures)))
