use Rattle.std.proofs.Common.{drop}
use Rattle.gix_ref_queries.specs.Asks.{AsksEach, EachAsked, each_alone, each_asked}
use Rattle.gix_ref_queries.specs.Patterns.{texts}
use Rattle.gix_ref_queries.proofs.ask.each_of.Given as goal

-- what is left asks for more just as all the words do
abbrev pub invariant-loop-word : goal.invariant-loop-word
invariant-loop-word l = record {
  sound : (asked : EachAsked) → AsksEach (texts (drop l.word-index l.words)) (each_asked l.each) asked → AsksEach (texts l.words) each_alone asked;
  complete : (asked : EachAsked) → AsksEach (texts l.words) each_alone asked → AsksEach (texts (drop l.word-index l.words)) (each_asked l.each) asked;
}
