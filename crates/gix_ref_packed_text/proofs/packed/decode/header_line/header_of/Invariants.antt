use Rattle.std.proofs.Common.{◌≡◌, length}
use Rattle.gix_ref_packed_text.specs.HeaderGrammar.{said, silent, words}
use Rattle.gix_ref_packed_text.proofs.packed.decode.header_line.header_of.Given as goal

abbrev pub invariant-loop-word : goal.invariant-loop-word
invariant-loop-word l = said l.header (words l.rest) ≡ said silent (words l.fn.line)

abbrev pub decreases-loop-word : goal.decreases-loop-word
decreases-loop-word l = length l.rest
