use Rattle.std.proofs.Common.{◌≡◌, drop}
use Rattle.gix_ref_queries.specs.Formats.{shows_short}
use Rattle.gix_ref_queries.proofs.format.shows_short.Given as goal

-- no part so far shows it
abbrev pub invariant-loop-part : goal.invariant-loop-part
invariant-loop-part l = shows_short l.parts ≡ shows_short (drop l.part-index l.parts)
