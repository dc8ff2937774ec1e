-- What a reference reads: by the file at its place, else by its record in `packed-refs`.
use Rattle.std.specs.Prelude.{◌≡◌, ◌≢◌, ℕ, List, [], Option, Some, None, Bool, true, if◌then◌else◌}
use Rattle.gix_ref_hash.specs.declared.hash.ObjectId.{ObjectId}
use Rattle.gix_ref_target.specs.PackedRecords.{Record, record_named, id_read}
use Rattle.gix_ref_target.specs.Targets.{TargetValue}
use Rattle.gix_ref_target.specs.Targets.TargetValue.{object_id, symbolic_name}
use Rattle.gix_ref_files.specs.Tree.{Path}
use Rattle.gix_ref_theory.specs.Views.{View}
use Rattle.gix_ref_files.specs.Lock.{lock_of}

-- Where a store keeps its names, and what the texts in its files say.
pub record Store : Type 0 where
  -- the name may be that of a reference
  pub is_reference : List ℕ → Bool
  pub place : List ℕ → Path
  pub log : List ℕ → Path
  -- the name that `packed-refs` is asked for
  pub key : List ℕ → Option (List ℕ)
  pub packed_path : Path
  -- a reference at this place is a fault, as one with a device name is where these are prohibited
  pub is_prohibited : Path → Bool
  pub without_namespace : List ℕ → List ℕ
  pub target_of : List ℕ → Option TargetValue
  pub text_of : TargetValue → List ℕ
  pub records_of : List ℕ → List Record
  pub text_of_records : List Record → List ℕ

-- The laws of places: all that is used of the table of places.
pub record HasLaws (s : Store) : Type 0 where
  pub one_key : (m n : List ℕ) → s.is_reference m ≡ true → s.is_reference n ≡ true →
      s.place m ≡ s.place n → s.key m ≡ s.key n
  pub one_place : (m n k : List ℕ) → s.is_reference m ≡ true → s.is_reference n ≡ true →
      s.key m ≡ Some k → s.key n ≡ Some k → s.place m ≡ s.place n
  pub place_is_no_log : (m n : List ℕ) → s.is_reference m ≡ true → s.is_reference n ≡ true →
      s.place m ≢ s.log n
  pub place_is_not_packed : (n : List ℕ) → s.is_reference n ≡ true → s.place n ≢ s.packed_path
  pub log_is_not_packed : (n : List ℕ) → s.is_reference n ≡ true → s.log n ≢ s.packed_path
  pub place_is_no_lock : (n : List ℕ) (path : Path) → s.is_reference n ≡ true →
      s.place n ≢ lock_of path
  pub log_is_no_lock : (n : List ℕ) (path : Path) → s.is_reference n ≡ true → s.log n ≢ lock_of path
  pub packed_is_no_lock : (path : Path) → s.packed_path ≢ lock_of path

-- What a reference reads: a target, a fault, or nothing.
pub data Reading : Type 0 where
  Is : TargetValue → Reading
  Fault : Reading
  Absent : Reading

-- a target as it is read: a symbolic one loses the namespace
abbrev pub as_read : Store → TargetValue → TargetValue
as_read s (object_id id) = object_id id
as_read s (symbolic_name name) = symbolic_name (s.without_namespace name)

-- a loose file that cannot be decoded is a fault
abbrev pub reading_of_loose : Store → Option TargetValue → Reading
reading_of_loose s None = Fault
reading_of_loose s (Some target) = Is (as_read s target)

-- a record names an object; one whose id cannot be read is a fault
abbrev pub reading_of_id : Option ObjectId → Reading
reading_of_id None = Fault
reading_of_id (Some id) = Is (object_id id)

abbrev pub reading_of_record : Option Record → Reading
reading_of_record None = Absent
reading_of_record (Some r) = reading_of_id (id_read r.target)

-- the records of a file that may be missing
abbrev pub records_of_file : Store → Option (List ℕ) → List Record
records_of_file s None = []
records_of_file s (Some bytes) = s.records_of bytes

-- the reading by the file at the place, else by the record of the key, where there is a key
abbrev pub reading_by : Store → Option (List ℕ) → Option (List ℕ) → List Record → Reading
reading_by s key (Some bytes) records = reading_of_loose s (s.target_of bytes)
reading_by s None None records = Absent
reading_by s (Some key) None records = reading_of_record (record_named key records)

-- what a reference reads among these files and records
abbrev pub reading_among : Store → View → List Record → List ℕ → Reading
reading_among s view records name =
    if s.is_prohibited (s.place name) then Fault
    else reading_by s (s.key name) (view (s.place name)) records

-- and among these files, with the records of their `packed-refs`
abbrev pub reading : Store → View → List ℕ → Reading
reading s view name = reading_among s view (records_of_file s (view s.packed_path)) name
