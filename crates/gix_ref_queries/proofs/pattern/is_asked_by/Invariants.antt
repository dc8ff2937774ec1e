use Rattle.std.proofs.Common.{◌≡◌, drop}
use Rattle.std.specs.List.{list_any}
use Rattle.gix_ref_queries.specs.Patterns.{matches, texts}
use Rattle.gix_ref_queries.proofs.pattern.is_asked_by.Given as goal

-- what is left tells whether one matches
abbrev pub invariant-loop-pattern : goal.invariant-loop-pattern
invariant-loop-pattern l = list_any (λ p. matches p l.name) (texts (drop l.pattern-index l.patterns)) ≡ list_any (λ p. matches p l.name) (texts l.patterns)
