use Rattle.std.proofs.Common.{◌⊎◌, ◌<◌, ◌≤◌, ℕ, get_or}
use Rattle.gix_ref_packed_text.proofs.packed.decode.record_line.has_no_control.Given as goal

abbrev pub invariant-loop-byte : goal.invariant-loop-byte
invariant-loop-byte l = record {
  least_of : (k : ℕ) → k < l.byte-index → l.least ≤ get_or l.name k 0;
  met : (13 < l.least) ⊎ ((k : ℕ) × (k < l.byte-index) × (get_or l.name k 0 ≤ l.least));
}
