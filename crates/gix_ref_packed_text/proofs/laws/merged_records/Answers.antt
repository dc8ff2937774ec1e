use Rattle.gix_ref_packed_text.proofs.OutcomeLemmas.{new_readable, ascending_pairs}
use Rattle.gix_ref_packed_text.proofs.laws.merged_records.Goals as goal

pub returns-clause-readable : goal.returns-clause-readable
returns-clause-readable c = new_readable

pub returns-clause-ascending : goal.returns-clause-ascending
returns-clause-ascending c = ascending_pairs
