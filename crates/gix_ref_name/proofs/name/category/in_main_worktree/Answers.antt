use Rattle.gix_ref_name.proofs.CategoryLemmas.{no_main_front}
use Rattle.gix_ref_name.proofs.name.category.in_main_worktree.Goals as goal

pub returns-in_default-clause-none : goal.returns-in_default-clause-none
returns-in_default-clause-none c = no_main_front _ c.in_default.ensures
