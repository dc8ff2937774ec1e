use Rattle.bstr.proofs.lemmas.EncodeLemmas.{lossy_chars-utf8}
use Rattle.bstr.proofs.lemmas.LossyLemmas.{lossy_chars-utf8_lossy}
use Rattle.gix_ref_name.proofs.laws.shown_names.Goals as goal

pub returns-clause-text : goal.returns-clause-text
returns-clause-text c = lossy_chars-utf8

pub returns-clause-lossy : goal.returns-clause-lossy
returns-clause-lossy c = lossy_chars-utf8_lossy
