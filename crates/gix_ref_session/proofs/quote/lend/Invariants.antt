use Rattle.std.proofs.Common.{◌≡◌, take}
use Rattle.gix_ref_session.specs.Commands.{texts}
use Rattle.gix_ref_session.specs.Quotes.{plain_texts}
use Rattle.gix_ref_session.proofs.quote.lend.Given as goal

abbrev pub invariant-loop-word : goal.invariant-loop-word
invariant-loop-word l = texts l.lent.items ≡ plain_texts (take l.word-index l.plain)
