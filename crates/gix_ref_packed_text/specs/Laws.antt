-- Laws of merged records.
use Rattle.std.specs.Prelude.{◌≡◌, List, ℕ, Option, Some, None, AllPairs}
use Rattle.gix_ref_hash.specs.declared.hash.Kind.{Kind}
use Rattle.gix_ref_hash.specs.declared.hash.ObjectId.{ObjectId}
use Rattle.gix_ref_hash.specs.Ids.{id_kind, IsWhole}
use Rattle.gix_ref_name.specs.NameGrammar.{IsFullName}
use Rattle.gix_ref_target.specs.PackedRecords.{Record}
use Rattle.gix_ref_packed_text.specs.RecordGrammar.{Below, Ascending}
use Rattle.gix_ref_packed_text.specs.Positions.{IsReadable}
use Rattle.gix_ref_packed_text.specs.declared.edit.NewRecord.{NewRecord}
use Rattle.gix_ref_packed_text.specs.RecordEdits.{new_record}

-- an id of the kind
abbrev pub IsIdOf : Kind → ObjectId → Type 0
IsIdOf kind id = (id_kind id ≡ kind) × IsWhole id

abbrev pub IsIdIfAny : Kind → Option ObjectId → Type 0
IsIdIfAny kind None = Unit {0}
IsIdIfAny kind (Some id) = IsIdOf kind id

-- a new record with a valid full name and ids of the kind can be read
abbrev pub NewRecordsAreReadable : Type 0
NewRecordsAreReadable =
    (kind : Kind) (key : List ℕ) (new : NewRecord) → IsFullName key → IsIdOf kind new.target →
    IsIdIfAny kind new.peeled → IsReadable kind (new_record key new)

-- each name is below each that follows
abbrev pub AscendingInPairs : Type 0
AscendingInPairs = (rs : List Record) → Ascending rs →
    AllPairs (λ r later. Below r.name later.name) rs
