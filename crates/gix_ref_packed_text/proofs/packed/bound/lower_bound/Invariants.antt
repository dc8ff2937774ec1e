use Rattle.std.proofs.Common.{◌≡◌, ◌-◌, drop}
use Rattle.gix_ref_hash.specs.Bytes.{StopsAt}
use Rattle.gix_ref_packed_text.specs.RecordGrammar.{is_caret}
use Rattle.gix_ref_packed_text.specs.Prefixes.{IsListStart}
use Rattle.gix_ref_packed_text.proofs.LowerBounds.{Bound}
use Rattle.gix_ref_packed_text.proofs.LineBounds.{LinesBound}
use Rattle.gix_ref_packed_text.proofs.packed.bound.lower_bound.Given as goal

abbrev pub invariant-loop-low : goal.invariant-loop-low
invariant-loop-low g l = record {
  no_fault : g.T.SearchableRecords.faults l.text ≡ g.T.SearchableRecords.faults l.fn.text;
  bytes : g.T.SearchableRecords.bytes l.text ≡ g.T.SearchableRecords.bytes l.fn.text;
  frame : g.T.SearchableRecords.frame l.text ≡ g.T.SearchableRecords.frame l.fn.text;
  starts : g.T.SearchableRecords.honest → IsListStart (g.T.SearchableRecords.bytes l.fn.text) l.high;
  stops : g.T.SearchableRecords.honest → StopsAt is_caret (drop l.high (g.T.SearchableRecords.bytes l.fn.text));
  bound : g.T.SearchableRecords.honest → Bound l.kind (g.T.SearchableRecords.bytes l.fn.text) l.wanted l.low l.high;
  lines : g.T.SearchableRecords.honest → LinesBound l.kind (g.T.SearchableRecords.bytes l.fn.text) l.wanted l.low l.high;
}

abbrev pub decreases-loop-low : goal.decreases-loop-low
decreases-loop-low g l = l.high - l.low
