-- What is copied and written for an edit.
use Rattle.std.specs.Prelude.{◌≡◌, ◌≢◌, ℕ, Bool, true, false, ◌||◌, List, ◌++◌, length}
use Rattle.std.specs.List.{flat_map}
use Rattle.gix_ref_hash.specs.declared.hash.Kind.{Kind}
use Rattle.gix_ref_target.specs.PackedRecords.{Record, record_text}
use Rattle.gix_ref_packed_text.specs.RecordGrammar.{Records, Ascending}
use Rattle.gix_ref_packed_text.specs.declared.ahead.Ahead.{Ahead}
use Rattle.gix_ref_packed_text.specs.declared.applied.Applied.{Applied}
use Rattle.gix_ref_packed_text.specs.declared.edit.RecordEdit.{RecordEdit}
use Rattle.gix_ref_packed_text.specs.declared.outcome.Rewrite.{Rewrite}
use Rattle.gix_ref_packed_text.specs.declared.outcome.Rewrite.TheVariants.{Unchanged, Removed, Text}
use Rattle.gix_ref_packed_text.specs.internal.Merging.{merged_one, merged, alters_one, alters_some}
use Rattle.gix_ref_packed_text.specs.internal.Passing.{PassesRecords, PassesUntil, PassesBelow}

-- the text of these records is added
abbrev pub AddsRecords : List Record → List ℕ → List ℕ → Type 0
AddsRecords rs old new = new ≡ old ++ flat_map record_text rs

-- records are passed until so many bytes are left, and added
abbrev pub CopiesUntil : Kind → ℕ → Ahead → List ℕ → List ℕ → Ahead → Type 0
CopiesUntil kind left ahead old new next = (p : PassesUntil kind left ahead next)
    × AddsRecords p.passed old new

-- the records below the key are passed and added
abbrev pub Copies : Kind → List ℕ → Ahead → List ℕ → List ℕ → Ahead → Type 0
Copies kind key ahead old new next = (p : PassesBelow kind key ahead next)
    × AddsRecords p.passed old new

-- Some records are passed, and some are added. Where the whole is records in the order of their names, those are the
-- ones of the merge, before what it has of the records that are left.
pub record Applies (kind : Kind) (e : RecordEdit) (ahead : Ahead) (old new : List ℕ)
    (applied : Applied) : Type 0 where
  pub passed : List Record
  pub passes : PassesRecords kind ahead passed applied.ahead
  pub written : List Record
  pub adds : AddsRecords written old new
  pub merges : (more : List Record → List Record) (rs : List Record) →
      Records kind applied.ahead.rest.now rs → Ascending (passed ++ rs) →
      merged_one e more (passed ++ rs) ≡ written ++ more rs
  pub alters : (more : List Record → Bool) (rs : List Record) →
      Records kind applied.ahead.rest.now rs → Ascending (passed ++ rs) →
      alters_one e more (passed ++ rs) ≡ (applied.alters || more rs)

-- the text is records; where they are in the order of their names, the merged ones are added
pub record Merges (kind : Kind) (edits : List RecordEdit) (text old new : List ℕ)
    (alters : Bool) : Type 0 where
  pub read : List Record
  pub records : Records kind text read
  pub adds : Ascending read → AddsRecords (merged edits read) old new
  pub alters_is : Ascending read → alters ≡ alters_some edits read

-- the outcome by the text with its header, of so many bytes
abbrev pub IsOutcome : List ℕ → ℕ → Bool → Rewrite → Type 0
IsOutcome text header alters Unchanged = alters ≡ false
IsOutcome text header alters Removed = (alters ≡ true) × (length text ≡ header)
IsOutcome text header alters (Text new) = (alters ≡ true) × (length text ≢ header)
    × (new.items ≡ text)
