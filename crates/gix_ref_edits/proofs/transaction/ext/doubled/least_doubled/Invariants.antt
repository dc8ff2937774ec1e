use Rattle.std.proofs.Common.{ℕ, ◌≢◌, ◌+◌, ◌<◌, get_or}
use Rattle.gix_ref_name.specs.declared.name.FullNameRef.{FullNameRef}
use Rattle.gix_ref_name.specs.Names.{full_ref_bytes}
use Rattle.gix_ref_edits.proofs.transaction.ext.doubled.least_doubled.Given as goal

abbrev pub invariant-loop-at : goal.invariant-loop-at
invariant-loop-at l = (k : ℕ) (e : FullNameRef) → k + 1 < l.at → full_ref_bytes (get_or l.names k e) ≢ full_ref_bytes (get_or l.names (k + 1) e)
