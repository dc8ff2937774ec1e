use Rattle.std.proofs.Common.{◌≡◌, drop, false}
use Rattle.gix_ref_queries.specs.Patterns.{has_other_sign}
use Rattle.gix_ref_queries.proofs.pattern.has_other_sign.Given as goal

-- what is left tells whether the pattern has such a sign
abbrev pub invariant-loop-sign : goal.invariant-loop-sign
invariant-loop-sign l = has_other_sign l.after_star (drop l.sign-index l.pattern) ≡ has_other_sign false l.pattern
