use Rattle.std.proofs.Common.{List, length}
use Rattle.gix_ref_target.specs.PackedRecords.{Record}
use Rattle.gix_ref_packed_text.specs.OpenedText.{Fronts}
use Rattle.gix_ref_packed.proofs.packed.prefixed.is_records.Given as goal

abbrev pub invariant-loop-rest : goal.invariant-loop-rest
invariant-loop-rest l = record {
  before : List Record;
  fronts : Fronts l.kind l.text before l.rest;
}

abbrev pub decreases-loop-rest : goal.decreases-loop-rest
decreases-loop-rest l = length l.rest
