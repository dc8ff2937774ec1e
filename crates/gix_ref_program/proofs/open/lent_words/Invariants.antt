use Rattle.std.proofs.Common.{◌≡◌, take}
use Rattle.gix_ref_program.specs.Words.{string_texts, texts}
use Rattle.gix_ref_program.proofs.open.lent_words.Given as goal

abbrev pub invariant-loop-word : goal.invariant-loop-word
invariant-loop-word l = texts l.lent.items ≡ string_texts (take l.word-index l.words)
