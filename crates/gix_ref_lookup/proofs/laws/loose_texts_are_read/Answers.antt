use Rattle.gix_ref_lookup.proofs.LooseLemmas.{held_is, is_held}
use Rattle.gix_ref_lookup.proofs.laws.loose_texts_are_read.Goals as goal

pub returns-clause-held : goal.returns-clause-held
returns-clause-held c = held_is

pub returns-clause-computed : goal.returns-clause-computed
returns-clause-computed c = is_held
