use Rattle.std.proofs.Common.{◌≡◌, drop, false}
use Rattle.std.specs.List.{find}
use Rattle.gix_ref_queries.specs.Patterns.{has_other_sign, texts}
use Rattle.gix_ref_queries.proofs.for_each_ref.other_pattern.Given as goal

-- what is left tells which is the first
abbrev pub invariant-loop-pattern : goal.invariant-loop-pattern
invariant-loop-pattern l = find (has_other_sign false) (texts (drop l.pattern-index l.patterns)) ≡ find (has_other_sign false) (texts l.patterns)
