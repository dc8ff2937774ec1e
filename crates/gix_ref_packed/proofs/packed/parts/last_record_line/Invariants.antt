use Rattle.std.proofs.Common.{◌≤◌, length}
use Rattle.gix_ref_packed.proofs.packed.parts.last_record_line.Given as goal

abbrev pub invariant-loop-newline : goal.invariant-loop-newline
invariant-loop-newline l = l.end ≤ length l.text

abbrev pub decreases-loop-newline : goal.decreases-loop-newline
decreases-loop-newline l = l.end
