use Rattle.gix_ref_log.proofs.SignatureLemmas.{one_who}
use Rattle.gix_ref_log.proofs.SignaturesAgain.{signature_again}
use Rattle.gix_ref_log.proofs.laws.signatures_read_back.Goals as goal

pub returns-clause-one : goal.returns-clause-one
returns-clause-one c = λ text who other is also. one_who text other who also is

pub returns-clause-again : goal.returns-clause-again
returns-clause-again c = λ who can fits. signature_again who can fits
