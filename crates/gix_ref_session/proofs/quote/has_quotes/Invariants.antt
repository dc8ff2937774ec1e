use Rattle.std.proofs.Common.{take}
use Rattle.gix_ref_session.specs.Commands.{texts}
use Rattle.gix_ref_session.specs.Quotes.{ArePlain}
use Rattle.gix_ref_session.proofs.quote.has_quotes.Given as goal

abbrev pub invariant-loop-word : goal.invariant-loop-word
invariant-loop-word l = ArePlain (texts (take l.word-index l.words)) (texts (take l.word-index l.words))
