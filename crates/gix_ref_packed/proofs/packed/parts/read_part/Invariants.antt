use Rattle.std.proofs.Common.{◌≡◌, ◌<◌}
use Rattle.gix_ref_packed.specs.declared.packed.sorted_file.TheConstants.{MAX_WINDOW_DOUBLINGS}
use Rattle.gix_ref_packed.proofs.packed.parts.read_part.Given as goal

abbrev pub invariant-loop-turn : goal.invariant-loop-turn
invariant-loop-turn g l = record {
  same : g.R.ReadAt.bytes l.reader ≡ g.R.ReadAt.bytes l.fn.reader;
  size : g.R.ReadAt.size l.reader ≡ g.R.ReadAt.size l.fn.reader;
  no_fault : g.R.ReadAt.faults l.reader ≡ g.R.ReadAt.faults l.fn.reader;
  before : l.turn < MAX_WINDOW_DOUBLINGS;
}
