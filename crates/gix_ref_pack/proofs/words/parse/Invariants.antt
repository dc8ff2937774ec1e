use Rattle.std.proofs.Common.{drop}
use Rattle.gix_ref_pack.specs.PackWords.{AsksToPack, PackAsked, pack_alone, pack_asked, texts}
use Rattle.gix_ref_pack.proofs.PackWordLemmas.{left}
use Rattle.gix_ref_pack.proofs.words.parse.Given as goal

-- what is left asks for more just as all the words do
abbrev pub invariant-loop-word : goal.invariant-loop-word
invariant-loop-word l = record {
  sound : (asked : PackAsked) → AsksToPack (left l.wants_path (texts (drop l.word-index l.words))) (pack_asked l.asked) asked → AsksToPack (texts l.words) pack_alone asked;
  complete : (asked : PackAsked) → AsksToPack (texts l.words) pack_alone asked → AsksToPack (left l.wants_path (texts (drop l.word-index l.words))) (pack_asked l.asked) asked;
}
