use Rattle.std.proofs.Common.{◌≡◌, ◌⊎◌, ◌-◌, ◌≤◌, true, false}
use Rattle.gix_ref_packed_text.specs.Positions.{IsMalformed, HasRecordLine}
use Rattle.gix_ref_packed_text.proofs.Halves.{Halving}
use Rattle.gix_ref_packed_text.proofs.packed.search.search.Given as goal

abbrev pub invariant-loop-low : goal.invariant-loop-low
invariant-loop-low g l = record {
  counts : l.fn.probes ≤ l.probes;
  no_fault : g.T.SearchableRecords.faults l.text ≡ g.T.SearchableRecords.faults l.fn.text;
  bytes : g.T.SearchableRecords.bytes l.text ≡ g.T.SearchableRecords.bytes l.fn.text;
  frame : g.T.SearchableRecords.frame l.text ≡ g.T.SearchableRecords.frame l.fn.text;
  halves : g.T.SearchableRecords.honest → Halving l.kind (g.T.SearchableRecords.bytes l.fn.text) l.wanted l.fn.probes l.probes l.low l.high;
  line : g.T.SearchableRecords.honest → l.saw_malformed_line ≡ false → ((l.first ≡ true) × (l.probes ≤ l.fn.probes)) ⊎ HasRecordLine l.kind (g.T.SearchableRecords.bytes l.fn.text);
  malformed : g.T.SearchableRecords.honest → l.saw_malformed_line ≡ true → IsMalformed l.kind (g.T.SearchableRecords.bytes l.fn.text);
}

abbrev pub decreases-loop-low : goal.decreases-loop-low
decreases-loop-low g l = l.high - l.low
