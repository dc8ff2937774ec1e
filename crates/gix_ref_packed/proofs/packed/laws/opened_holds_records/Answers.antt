use Rattle.gix_ref_packed.proofs.WellFormedLemmas.{opened_holds, opened_file_holds}
use Rattle.gix_ref_packed.proofs.packed.laws.opened_holds_records.Goals as goal

pub returns-clause-buffer : goal.returns-clause-buffer
returns-clause-buffer g c = opened_holds

pub returns-clause-file : goal.returns-clause-file
returns-clause-file g c = opened_file_holds c.args._file.now
