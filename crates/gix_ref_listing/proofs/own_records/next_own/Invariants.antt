use Rattle.std.proofs.Common.{List, Some, ◌≡◌, ◌≤◌}
use Rattle.gix_ref_target.specs.PackedRecords.{Record}
use Rattle.gix_ref_packed.specs.YetToGive.{IsYet}
use Rattle.gix_ref_listing.specs.OwedNames.{Given, OwesOthers}
use Rattle.gix_ref_listing.specs.PackedTexts.{Text}
use Rattle.gix_ref_listing.specs.OwnRecords.{own_records, records_left}
use Rattle.gix_ref_listing.proofs.own_records.next_own.Given as goal

abbrev pub decreases-loop-item : goal.decreases-loop-item
decreases-loop-item l = records_left l.records

-- the records that were passed over are none that a listing gives
abbrev pub invariant-loop-item : goal.invariant-loop-item
invariant-loop-item l = record {
  yet : (rs : List Record) → IsYet l.fn.records rs → (more : List Record) × (own_records l.settings rs ≡ own_records l.settings more) × IsYet l.records more;
  owes : (text : Text) (given : Given) → OwesOthers l.settings text given (Some l.fn.records) → OwesOthers l.settings text given (Some l.records);
  less : records_left l.records ≤ records_left l.fn.records;
}
