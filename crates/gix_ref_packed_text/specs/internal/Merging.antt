-- The merged records, edit by edit.
use Rattle.std.specs.Prelude.{Bool, true, false, ◌||◌, List, [], ◌∷◌, ◌++◌, option_to_list, is_some}
use Rattle.std.specs.Ordering.{match_ordering, nat_cmp}
use Rattle.std.specs.Cmp.Lexicographic.{slice_cmp}
use Rattle.gix_ref_target.specs.PackedRecords.{Record}
use Rattle.gix_ref_packed_text.specs.declared.edit.RecordEdit.{RecordEdit}
use Rattle.gix_ref_packed_text.specs.RecordEdits.{record_put}

-- what an edit puts, as a list of one record or none
abbrev pub put_by : RecordEdit → List Record
put_by e = option_to_list (record_put e)

-- the records below the key, what the edit puts, and `more` of the others except for the record of the key
abbrev pub merged_one : RecordEdit → (more : List Record → List Record) → List Record → List Record
merged_one e more [] = put_by e ++ more []
merged_one e more (r ∷ rs) = match_ordering (slice_cmp nat_cmp r.name e.key.now)
    (r ∷ merged_one e more rs) (put_by e ++ more rs) (put_by e ++ more (r ∷ rs))

abbrev pub merged : List RecordEdit → List Record → List Record
merged [] rs = rs
merged (e ∷ edits) rs = merged_one e (merged edits) rs

-- the edit puts a record or finds the one of its key, or `more` of the others holds
abbrev pub alters_one : RecordEdit → (more : List Record → Bool) → List Record → Bool
alters_one e more [] = is_some e.put || more []
alters_one e more (r ∷ rs) = match_ordering (slice_cmp nat_cmp r.name e.key.now)
    (alters_one e more rs) true (is_some e.put || more (r ∷ rs))

abbrev pub alters_some : List RecordEdit → List Record → Bool
alters_some [] rs = false
alters_some (e ∷ edits) rs = alters_one e (alters_some edits) rs
