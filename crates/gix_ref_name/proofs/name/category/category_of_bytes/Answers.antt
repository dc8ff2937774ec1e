use Rattle.gix_ref_name.proofs.CategoryLemmas.{no_category}
use Rattle.gix_ref_name.proofs.name.category.category_of_bytes.Goals as goal

pub returns-clause-none : goal.returns-clause-none
returns-clause-none c =
    no_category c.args.name.now c.in_default.ensures c.in_default-strip_front.ensures c.in_default-strip_front-2.ensures c.in_default-in_group.ensures.none
    (λ b. absurd (cc (c.if-is_pseudo_name.false, c.is_pseudo_name.ensures)))
    c.in_default-in_main_worktree.ensures.none c.in_default-in_linked_worktree.ensures.none
