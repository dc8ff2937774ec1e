-- Edits of records by their keys, and what the record of a key is after them.
use Rattle.std.specs.Prelude.{ℕ, List, [], ◌∷◌, Option, bytes_eq, if◌then◌else◌}
use Rattle.std.specs.List.{All}
use Rattle.std.specs.Option.{option_map}
use Rattle.gix_ref_target.specs.PackedRecords.{Record, written_id}
use Rattle.gix_ref_packed_text.specs.RecordGrammar.{Below}
use Rattle.gix_ref_packed_text.specs.declared.edit.NewRecord.{NewRecord}
use Rattle.gix_ref_packed_text.specs.declared.edit.RecordEdit.{RecordEdit}

-- the record of a key with new ids
abbrev pub new_record : List ℕ → NewRecord → Record
new_record key new =
    record { name = key; target = written_id new.target; object = option_map written_id new.peeled }

-- the record that an edit puts, if it is no removal
abbrev pub record_put : RecordEdit → Option Record
record_put e = option_map (new_record e.key.now) e.put

-- the record of a key after the edits, of which at most one is of the key, where `old` was there
abbrev pub record_after : List RecordEdit → List ℕ → Option Record → Option Record
record_after [] key old = old
record_after (e ∷ edits) key old = if bytes_eq e.key.now key then record_put e
    else record_after edits key old

-- each key is below all that follow, so no two are of one key
abbrev pub KeysAscend : List RecordEdit → Type 0
KeysAscend [] = Unit {0}
KeysAscend (e ∷ edits) = All (λ d. Below e.key.now d.key.now) edits × KeysAscend edits
