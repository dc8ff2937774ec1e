use Rattle.std.proofs.Common.{◌≡◌, ℕ, ◌<◌, true, get_or}
use Rattle.gix_ref_name.specs.NameGrammar.{may_follow}
use Rattle.gix_ref_name.proofs.name.grammar.follow_in_lanes.Given as goal

abbrev pub invariant-loop-i : goal.invariant-loop-i
invariant-loop-i l = l.follow ≡ true → (k : ℕ) → k < l.i → may_follow (get_or l.before k 0) (get_or l.bytes k 0) ≡ true
