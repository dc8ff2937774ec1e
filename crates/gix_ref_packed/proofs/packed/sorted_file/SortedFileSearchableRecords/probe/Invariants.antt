use Rattle.std.proofs.Common.{◌≡◌, length, drop}
use Rattle.gix_ref_packed.specs.declared.packed.sorted_file.TheConstants.{MAX_WINDOW_DOUBLINGS}
use Rattle.gix_ref_packed.proofs.packed.sorted_file.SortedFileSearchableRecords.probe.Given as goal

abbrev pub invariant-loop-turn : goal.invariant-loop-turn
invariant-loop-turn g l = record {
  same : g.R.ReadAt.bytes l.self.reader ≡ g.R.ReadAt.bytes l.fn.self.reader;
  base : l.self.base ≡ l.fn.self.base;
  size : g.R.ReadAt.size l.self.reader ≡ g.R.ReadAt.size l.fn.self.reader;
  no_fault : g.R.ReadAt.faults l.self.reader ≡ g.R.ReadAt.faults l.fn.self.reader;
  whole : g.R.ReadAt.honest → l.turn ≡ MAX_WINDOW_DOUBLINGS → (l.self.from ≡ 0) × (length l.self.window.items ≡ length (drop l.fn.self.base (g.R.ReadAt.bytes l.fn.self.reader)));
}
