use Rattle.std.proofs.Common.{◌≡◌, ◌++◌, length}
use Rattle.gix_ref_packed_text.specs.internal.Runs.{without_cr}
use Rattle.gix_ref_packed_text.proofs.written.push_lines.Given as goal

abbrev pub invariant-loop-front : goal.invariant-loop-front
invariant-loop-front l = l.text.items ++ without_cr l.rest ≡ l.fn.text.items ++ without_cr l.run

abbrev pub decreases-loop-front : goal.decreases-loop-front
decreases-loop-front l = length l.rest
