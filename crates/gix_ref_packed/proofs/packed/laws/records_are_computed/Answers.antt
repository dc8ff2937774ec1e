use Rattle.gix_ref_packed.proofs.RecordsOfText.{records_computed}
use Rattle.gix_ref_packed.proofs.RecordsRead.{texts_are_read}
use Rattle.gix_ref_packed.proofs.packed.laws.records_are_computed.Goals as goal

pub returns-clause-computed : goal.returns-clause-computed
returns-clause-computed c = records_computed

pub returns-clause-read : goal.returns-clause-read
returns-clause-read c = texts_are_read
