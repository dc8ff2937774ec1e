-- The records after edits.
use Rattle.std.specs.Prelude.{◌≡◌, ℕ, List}
use Rattle.gix_ref_target.specs.PackedRecords.{Record, record_named}
use Rattle.gix_ref_packed_text.specs.RecordGrammar.{Ascending}
use Rattle.gix_ref_packed_text.specs.declared.edit.RecordEdit.{RecordEdit}
use Rattle.gix_ref_packed_text.specs.RecordEdits.{record_after}

-- The merged records: each key has what the edits make of its record, and names ascend. A record that no edit is of is
-- the old one, with its ids as they were written.
pub record IsMerged (edits : List RecordEdit) (old new : List Record) : Type 0 where
  pub each : (key : List ℕ) → record_named key new ≡ record_after edits key (record_named key old)
  pub ascending : Ascending new
