-- What a rewrite of records is, and why there is none.
use Rattle.std.specs.Prelude.{◌≡◌, ◌≢◌, ◌||◌, ℕ, Bool, true, false, List, [], Option, Some, None, is_some}
use Rattle.std.specs.List.{All, list_any}
use Rattle.gix_ref_hash.specs.declared.hash.Kind.{Kind}
use Rattle.gix_ref_target.specs.PackedRecords.{Record, record_named, written_text}
use Rattle.gix_ref_packed_text.specs.OpenedText.{StuckAt, IsWellFormed}
use Rattle.gix_ref_packed_text.specs.Positions.{IsReadable}
use Rattle.gix_ref_packed_text.specs.WrittenText.{written_header}
use Rattle.gix_ref_packed_text.specs.declared.edit.RecordEdit.{RecordEdit}
use Rattle.gix_ref_packed_text.specs.declared.error.Error.{Error}
use Rattle.gix_ref_packed_text.specs.declared.error.Error.TheVariants.{Iteration, Memory}
use Rattle.gix_ref_packed_text.specs.declared.outcome.Rewrite.{Rewrite}
use Rattle.gix_ref_packed_text.specs.declared.outcome.Rewrite.TheVariants.{Unchanged, Removed, Text}
use Rattle.gix_ref_packed_text.specs.MergedRecords.{IsMerged}
use Rattle.gix_ref_packed_text.specs.RecordEdits.{record_put}

-- why a text of records, whose first line has that number, cannot be rewritten
abbrev pub IsStuckAt : Kind → ℕ → List ℕ → Error → Type 0
IsStuckAt kind first text (Iteration line) = StuckAt kind first text line
IsStuckAt kind first text Memory = Unit {0}

-- the edit puts a record, or finds one to remove
abbrev pub alters : List Record → RecordEdit → Bool
alters old e = is_some e.put || is_some (record_named e.key.now old)

-- some edit does
abbrev pub are_altered : List RecordEdit → List Record → Bool
are_altered edits old = list_any (alters old) edits

-- where an edit puts a record, that can be read
abbrev pub IsReadableIfAny : Kind → Option Record → Type 0
IsReadableIfAny kind None = Unit {0}
IsReadableIfAny kind (Some r) = IsReadable kind r

-- The new text is that of the merged records, and it is read as these records, in their order.
pub record IsNewText (kind : Kind) (edits : List RecordEdit) (old : List Record)
    (text : List ℕ) : Type 0 where
  pub new : List Record
  pub merged : IsMerged edits old new
  pub some : new ≢ []
  pub is_text : text ≡ written_text new
  pub reads_back : All (λ e. IsReadableIfAny kind (record_put e)) edits →
      IsWellFormed kind text (Some written_header) new

-- what becomes of these records by the edits
abbrev pub IsRewrite : Kind → List RecordEdit → List Record → Rewrite → Type 0
IsRewrite kind edits old Unchanged = are_altered edits old ≡ false
IsRewrite kind edits old Removed = (are_altered edits old ≡ true) × IsMerged edits old []
IsRewrite kind edits old (Text text) = (are_altered edits old ≡ true)
    × IsNewText kind edits old text.items
