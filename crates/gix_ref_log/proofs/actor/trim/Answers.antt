use Rattle.std.proofs.Common.{refl}
use Rattle.std.proofs.lemmas.Str.Ascii.{trim_ascii_is}
use Rattle.gix_ref_log.specs.Signatures.{trimmed, without_first_blanks}
use Rattle.gix_ref_log.proofs.actor.trim.Goals as goal

pub returns : goal.returns
unfolding trimmed
returns c = trim_ascii_is c.args.text.now c.trim_ascii.result.now (without_first_blanks c.args.text.now) refl c.trim_ascii.ensures.value
