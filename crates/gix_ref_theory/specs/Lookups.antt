-- What a lookup of a partial name finds (`gitrevisions`): the first of its candidates that is there.
use Rattle.std.specs.Prelude.{ℕ, List, [], ◌∷◌, Option, Some, None, Bool, true, false, if◌then◌else◌}
use Rattle.gix_ref_hash.specs.declared.hash.ObjectId.{ObjectId}
use Rattle.gix_ref_target.specs.PackedRecords.{Record, record_named, id_read}
use Rattle.gix_ref_theory.specs.Views.{View}
use Rattle.gix_ref_theory.specs.Readings.{Store, Reading, reading_among}
use Rattle.gix_ref_theory.specs.Readings.Reading.{Is, Fault, Absent}

-- What a candidate is found as: its name, its reading, and the peeled id of the record that gave the reading.
pub record Hit : Type 0 where
  pub name : List ℕ
  pub reading : Reading
  pub peeled : Option ObjectId

-- a loose hit has the candidate's name, a packed hit the record's name less the namespace
abbrev pub hit_name : Store → (name : List ℕ) → (key file : Option (List ℕ)) → List ℕ
hit_name s name key (Some bytes) = name
hit_name s name (Some key) None = s.without_namespace key
hit_name s name None None = name

-- the id at which a record's tag ends, as it is read
abbrev pub peeled_in : Option (List ℕ) → Option ObjectId
peeled_in None = None
peeled_in (Some digits) = id_read digits

abbrev pub peeled_of : Option Record → Option ObjectId
peeled_of None = None
peeled_of (Some r) = peeled_in r.object

-- a loose hit has no peeled id
abbrev pub hit_peeled : (key file : Option (List ℕ)) → List Record → Option ObjectId
hit_peeled key (Some bytes) records = None
hit_peeled (Some key) None records = peeled_of (record_named key records)
hit_peeled None None records = None

-- a candidate among these files and records
abbrev pub hit : Store → View → List Record → List ℕ → Hit
hit s view records name = record {
  name = hit_name s name (s.key name) (view (s.place name));
  reading = reading_among s view records name;
  peeled = hit_peeled (s.key name) (view (s.place name)) records;
}

-- the candidate is there: it reads a target or a fault
abbrev pub is_there : Reading → Bool
is_there Absent = false
is_there (Is target) = true
is_there Fault = true

-- the first candidate that is there
abbrev pub first_hit : Store → View → List Record → List (List ℕ) → Option Hit
first_hit s view records [] = None
first_hit s view records (name ∷ names) =
    if is_there (reading_among s view records name) then Some (hit s view records name)
    else first_hit s view records names

-- the first hit, or else the head of a remote, which is asked for as a loose file alone
abbrev pub hit_or_head : Store → View → Option Hit → Option (List ℕ) → Option Hit
hit_or_head s view (Some found) head = Some found
hit_or_head s view None None = None
hit_or_head s view None (Some head) = first_hit s view [] (head ∷ [])

-- Lookup: the first of these candidates that is there, or else the head of a remote.
abbrev pub lookup : Store → View → List Record → (candidates : List (List ℕ)) →
    (head : Option (List ℕ)) → Option Hit
lookup s view records candidates head = hit_or_head s view
    (first_hit s view records candidates) head
