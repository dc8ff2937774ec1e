use Rattle.gix_ref_hash.proofs.IdLemmas.{one_id, written_reads, reads_whole}
use Rattle.gix_ref_hash.proofs.LowerDigits.{lower_is_written}
use Rattle.gix_ref_hash.proofs.laws.digits_of_ids.Goals as goal

pub returns-clause-one_id : goal.returns-clause-one_id
returns-clause-one_id c = one_id

pub returns-clause-written : goal.returns-clause-written
returns-clause-written c = written_reads

pub returns-clause-read : goal.returns-clause-read
returns-clause-read c = reads_whole

pub returns-clause-lower : goal.returns-clause-lower
returns-clause-lower c = lower_is_written
