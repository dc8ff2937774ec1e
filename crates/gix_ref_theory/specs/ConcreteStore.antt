-- The store of real files: the places of the table, the texts that are written, and the options of its reading.
use Rattle.std.specs.Prelude.{ℕ, List, [], ◌∷◌, ◌++◌, Option, Bool, ◌&&◌, is_none, codes, nat_eq, if◌then◌else◌}
use Rattle.std.specs.List.{list_any, starts_with}
use Rattle.gix_ref_hash.specs.Bytes.{components, without_front}
use Rattle.gix_ref_name.specs.NameGrammar.{partial_error}
use Rattle.gix_ref_name.specs.Namespaces.{stripped}
use Rattle.gix_ref_target.specs.PackedRecords.{Record, written_id, written_text}
use Rattle.gix_ref_target.specs.Targets.{TargetValue}
use Rattle.gix_ref_target.specs.Targets.TargetValue.{object_id, symbolic_name}
use Rattle.gix_ref_files.specs.Tree.{Path}
use Rattle.gix_ref_target.specs.Layout.{Layout, below, packed_refs}
use Rattle.gix_ref_target.specs.Locations.{is_safe, paths_at}
use Rattle.gix_ref_theory.specs.Readings.{Store}

-- the text of a loose file: the digits of the id, or `ref: ` and the name, and LF
abbrev pub loose_text : TargetValue → List ℕ
loose_text (object_id id) = written_id id ++ 10 ∷ []
loose_text (symbolic_name name) = codes "ref: " ++ (name ++ 10 ∷ [])

-- What a store reads and asks for beside its places.
pub record Options : Type 0 where
  -- the target of a loose text, if it can be decoded
  pub target_of : List ℕ → Option TargetValue
  pub records_of : List ℕ → List Record
  -- a component that is prohibited: none, or a device name
  pub is_device : List ℕ → Bool

-- the path below C where it lies below C, else below G
abbrev pub below_folders : Layout → Path → List ℕ
below_folders f path =
    if starts_with nat_eq path (below f.common []) then without_front (below f.common []) path
    else without_front (below f.git []) path

-- A reference is a valid, safe name. A log has the components of its place, and `logs`: where
-- one of them is prohibited, the place says so.
abbrev pub store_of : Layout → Options → Store
store_of f o = record {
  is_reference = λ name. is_none (partial_error name) && is_safe name;
  place = λ name. (paths_at f name).place;
  log = λ name. (paths_at f name).log;
  key = λ name. (paths_at f name).key;
  packed_path = packed_refs f;
  is_prohibited = λ path. list_any o.is_device (components (below_folders f path));
  without_namespace = stripped f.namespace;
  target_of = o.target_of;
  text_of = loose_text;
  records_of = o.records_of;
  text_of_records = written_text;
}
