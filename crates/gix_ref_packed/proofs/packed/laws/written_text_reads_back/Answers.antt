use Rattle.gix_ref_packed_text.proofs.ReadBack.{reads_back, text_is_one}
use Rattle.gix_ref_packed.proofs.packed.laws.written_text_reads_back.Goals as goal

pub returns-clause-back : goal.returns-clause-back
returns-clause-back c = reads_back

pub returns-clause-one : goal.returns-clause-one
returns-clause-one c = text_is_one
