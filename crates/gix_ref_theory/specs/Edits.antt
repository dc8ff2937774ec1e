-- The edits of a transaction, as `prepare` leaves them, and what each does to its reference, its log and its record.
use Rattle.std.specs.Prelude.{ℕ, List, [], ◌∷◌, Option, Some, None, Bool, true, false, ◌&&◌, if◌then◌else◌, bytes_eq, is_some}
use Rattle.std.specs.List.{list_any, flat_map}
use Rattle.std.specs.Option.{option_map}
use Rattle.gix_ref_files.specs.Tree.{Path}
use Rattle.gix_ref_hash.specs.declared.hash.ObjectId.{ObjectId}
use Rattle.gix_ref_hash.specs.declared.hash.ObjectId.TheVariants.{Sha1, Sha256}
use Rattle.gix_ref_target.specs.Targets.{TargetValue}
use Rattle.gix_ref_target.specs.Targets.TargetValue.{object_id, symbolic_name}
use Rattle.gix_ref_theory.specs.Views.{View, file_bytes}
use Rattle.gix_ref_target.specs.PackedRecords.{Record, record_named, written_id}
use Rattle.gix_ref_theory.specs.Readings.{Store, Reading, reading, as_read}
use Rattle.gix_ref_theory.specs.Readings.Reading.{Is, Absent}

-- What an edit asks for.
pub data Change : Type 0 where
  Update : (target : TargetValue) → Change
  Delete : Change

-- An edit of a name.
pub record Edit : Type 0 where
  pub name : List ℕ
  pub change : Change
  -- it is of the reference, and not of its log alone
  pub and_reference : Bool
  -- the log line that is due for an update
  pub line : Option (List ℕ)
  -- the object at the end of an update's tags, where that is another
  pub peeled : Option ObjectId

-- How a commit uses `packed-refs`: for deletions of its records alone; for object updates too; and for these without
-- keeping their loose files.
pub data Mode : Type 0 where
  DeletionsOnly : Mode
  Packing : Mode
  PackingAndRemoving : Mode

-- object updates go into `packed-refs`
abbrev pub packs_updates : Mode → Bool
packs_updates DeletionsOnly = false
packs_updates other = true

-- loose files of packed updates are removed
abbrev pub removes_packed : Mode → Bool
removes_packed PackingAndRemoving = true
removes_packed other = false

-- the target is an object
abbrev pub is_object : TargetValue → Bool
is_object (object_id id) = true
is_object (symbolic_name name) = false

-- this update does: it is of an object, and its reference has a key
abbrev pub packs : Mode → Option (List ℕ) → TargetValue → Bool
packs mode key target = packs_updates mode && is_some key && is_object target

-- the same kind and the same bytes
abbrev pub is_same_id : ObjectId → ObjectId → Bool
is_same_id (Sha1 old) (Sha1 new) = bytes_eq old new
is_same_id (Sha256 old) (Sha256 new) = bytes_eq old new
is_same_id old new = false

-- the reference has this object already
abbrev pub has_already : Reading → TargetValue → Bool
has_already (Is (object_id old)) (object_id new) = is_same_id old new
has_already old new = false

-- What becomes of the loose file at an edit's place.
pub data Effect : Type 0 where
  Writes : (bytes : List ℕ) → Effect
  Removes : Effect
  Keeps : Effect

-- A deletion removes its loose file. An update writes its target, unless it is packed without a loose file or the
-- reference has its object already.
abbrev pub effect_of_change : Store → Mode → Option (List ℕ) → Reading → Change → Effect
effect_of_change s mode key old Delete = Removes
effect_of_change s mode key old (Update target) =
    if removes_packed mode && packs mode key target then Removes
    else if has_already old target then Keeps
    else Writes (s.text_of target)

-- an edit of a log alone leaves the loose file
abbrev pub effect : Store → Mode → View → Edit → Effect
effect s mode view e =
    if e.and_reference then effect_of_change s mode (s.key e.name)
    (reading s view e.name) e.change else Keeps

-- the record of an edit's key after the edit, where `old` was there
abbrev pub edited_record : Mode → List ℕ → Edit → Change → Option Record → Option Record
edited_record mode key e Delete old = None
edited_record mode key e (Update (symbolic_name name)) old = old
edited_record mode key e (Update (object_id id)) old =
    if packs_updates mode then Some
    (record { name = key; target = written_id id; object = option_map written_id e.peeled })
    else old

-- the key is there, and it is this one
abbrev pub is_key : Option (List ℕ) → List ℕ → Bool
is_key None name = false
is_key (Some key) name = bytes_eq key name

-- the record of a key after the edits, of which at most one has the key
abbrev pub merged_record : Store → Mode → List Edit → List ℕ → Option Record → Option Record
merged_record s mode [] key old = old
merged_record s mode (e ∷ edits) key old =
    if e.and_reference && is_key (s.key e.name) key then edited_record mode key e e.change old
    else merged_record s mode edits key old

-- `packed-refs` changes for a deletion that finds a record, and for an update that is packed
abbrev pub alters_change : Mode → Option (List ℕ) → Change → List Record → Bool
alters_change mode None change records = false
alters_change mode (Some key) Delete records = is_some (record_named key records)
alters_change mode (Some key) (Update target) records = packs mode (Some key) target

-- and so for some edit of a reference
abbrev pub alters_packed : Store → Mode → List Record → List Edit → Bool
alters_packed s mode records edits = list_any
    (λ (e : Edit). e.and_reference && alters_change mode (s.key e.name) e.change records) edits

-- the file of these records: none where there is no record
abbrev pub file_of_records : Store → List Record → Option (List ℕ)
file_of_records s [] = None
file_of_records s (r ∷ rs) = Some (s.text_of_records (r ∷ rs))

-- the change is a deletion
abbrev pub is_deletion : Change → Bool
is_deletion Delete = true
is_deletion (Update target) = false

-- the log line that is due: a deletion has none
abbrev pub line_due : Change → Option (List ℕ) → Option (List ℕ)
line_due Delete line = None
line_due (Update target) line = line

-- the lines that are due for a log, in the order of the edits: several names may share a log
abbrev pub due : Store → List Edit → Path → List ℕ
due s edits log = flat_map (λ (e : Edit). if bytes_eq (s.log e.name) log
    then file_bytes (line_due e.change e.line) else []) edits

-- a line is due for this log
abbrev pub is_due : Store → List Edit → Path → Bool
is_due s edits log =
    list_any (λ (e : Edit). is_some (line_due e.change e.line) && bytes_eq (s.log e.name) log) edits

-- the log goes with a deletion, whether that is of the reference or of the log alone
abbrev pub removes_log : Store → List Edit → Path → Bool
removes_log s edits log =
    list_any (λ (e : Edit). is_deletion e.change && bytes_eq (s.log e.name) log) edits

-- the reading that an edit asks for
abbrev pub new_reading : Store → Change → Reading
new_reading s Delete = Absent
new_reading s (Update target) = Is (as_read s target)

-- the edited reading of a reference that read `old` before: the one asked for at its place, else the old one
abbrev pub edited_reading : Store → List Edit → List ℕ → Reading → Reading
edited_reading s [] name old = old
edited_reading s (e ∷ edits) name old =
    if e.and_reference && bytes_eq (s.place e.name) (s.place name) then new_reading s e.change
    else edited_reading s edits name old
