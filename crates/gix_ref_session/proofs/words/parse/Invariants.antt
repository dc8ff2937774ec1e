use Rattle.std.proofs.Common.{List, ℕ, length}
use Rattle.gix_ref_session.specs.Commands.{texts}
use Rattle.gix_ref_session.specs.Words.{AreOptions, Options, options_in}
use Rattle.gix_ref_session.proofs.WordLemmas.{AfterFirst, IsFirst}
use Rattle.gix_ref_session.proofs.words.parse.Given as goal

-- what is left is read on just as the words after the first are
abbrev pub invariant-loop-word : goal.invariant-loop-word
invariant-loop-word l = record {
  first : IsFirst (texts l.words) l.line.dir.now;
  sound : (new : Options) (rest : List (List ℕ)) → AreOptions (texts l.rest) (options_in l.line) new rest → AfterFirst (texts l.words) new rest;
  complete : (new : Options) (rest : List (List ℕ)) → AfterFirst (texts l.words) new rest → AreOptions (texts l.rest) (options_in l.line) new rest;
}

abbrev pub decreases-loop-word : goal.decreases-loop-word
decreases-loop-word l = length l.rest
