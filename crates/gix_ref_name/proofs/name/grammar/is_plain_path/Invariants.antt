use Rattle.std.proofs.Common.{◌≡◌, ◌+◌, ◌-◌, ◌<◌, ◌≤◌, length}
use Rattle.gix_ref_name.specs.NameGrammar.{AllFollow}
use Rattle.gix_ref_name.proofs.name.grammar.is_plain_path.Given as goal

abbrev pub invariant-loop-start : goal.invariant-loop-start
invariant-loop-start l = (1 ≤ l.start) × (l.start < l.last + 16) × (1 ≤ l.last) × (l.last + 16 ≡ length l.name) × AllFollow l.name 1 l.start

abbrev pub decreases-loop-start : goal.decreases-loop-start
decreases-loop-start l = l.last - l.start
