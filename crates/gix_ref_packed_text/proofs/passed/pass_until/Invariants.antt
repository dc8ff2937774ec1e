use Rattle.std.proofs.Common.{◌≡◌, ◌+◌, ◌<◌, ◌≤◌, ◌^◌, ℕ, List, length}
use Rattle.gix_ref_target.specs.PackedRecords.{Record}
use Rattle.gix_ref_packed_text.specs.OpenedText.{Fronts, line_count}
use Rattle.gix_ref_packed_text.proofs.PassLemmas.{IsStill}
use Rattle.gix_ref_packed_text.proofs.passed.pass_until.Given as goal

abbrev pub invariant-loop-rest : goal.invariant-loop-rest
invariant-loop-rest l = record {
  passed : List Record;
  fronts : Fronts l.kind l.ahead.rest.now passed l.rest;
  number : l.line ≡ l.ahead.line + line_count passed;
  fits : l.line + length l.rest < 2 ^ 64;
  shorter : length l.rest ≤ length l.ahead.rest.now;
  exact : (rs : List Record) (mid : List ℕ) → Fronts l.kind l.ahead.rest.now rs mid → length mid ≡ l.left → IsStill l.kind passed l.rest rs mid;
}

abbrev pub decreases-loop-rest : goal.decreases-loop-rest
decreases-loop-rest l = length l.rest
