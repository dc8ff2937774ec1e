use Rattle.gix_ref_edits.proofs.SplitChains.{chain_of_four_splits, chain_of_five_is_too_long, edit_that_stays_is_kept}
use Rattle.gix_ref_edits.proofs.laws.splits_of_chains.Goals as goal

pub returns-clause-four : goal.returns-clause-four
returns-clause-four c = chain_of_four_splits

pub returns-clause-five : goal.returns-clause-five
returns-clause-five c = chain_of_five_is_too_long

pub returns-clause-none : goal.returns-clause-none
returns-clause-none c = edit_that_stays_is_kept
