-- Targets of references: an object's id, or the name of another reference.
use Rattle.std.specs.Prelude.{◌≡◌, ℕ, List, ◌++◌, codes, Option, Some, None}
use Rattle.hex.specs.Hex.{encode_lower}
use Rattle.gix_ref_hash.specs.Ids.{id_bytes, id_kind, null_id}
use Rattle.gix_ref_hash.specs.Bytes.{shown}
use Rattle.gix_ref_name.specs.Names.{full_bytes, full_ref_bytes}
use Rattle.gix_ref_name.specs.Namespaces.{stripped}
use Rattle.gix_ref_hash.specs.declared.hash.ObjectId.{ObjectId}
use Rattle.gix_ref_target.specs.declared.target.Target.{Target}
use Rattle.gix_ref_target.specs.declared.target.Target.TheVariants as targets
use Rattle.gix_ref_target.specs.declared.target.TargetRef.{TargetRef}
use Rattle.gix_ref_target.specs.declared.target.TargetRef.TheVariants as lent
use Rattle.gix_ref_target.specs.declared.target.Kind.{Kind}
use Rattle.gix_ref_target.specs.declared.target.Kind.TheVariants as kinds

-- what a target is, lent or owned: an id, or the bytes of a name
pub data TargetValue : Type 0 where
  object_id : ObjectId → TargetValue
  symbolic_name : List ℕ → TargetValue

abbrev pub target_value : Target → TargetValue
target_value (targets.Object id) = object_id id
target_value (targets.Symbolic name) = symbolic_name (full_bytes name)

abbrev pub target_ref_value : TargetRef → TargetValue
target_ref_value (lent.Object id) = object_id id
target_ref_value (lent.Symbolic name) = symbolic_name (full_ref_bytes name)

abbrev pub target_kind : TargetValue → Kind
target_kind (object_id id) = kinds.Object
target_kind (symbolic_name name) = kinds.Symbolic

-- the target inside of a namespace: a symbolic one loses the namespace
abbrev pub stripped_target : List ℕ → TargetValue → TargetValue
stripped_target namespace (object_id id) = object_id id
stripped_target namespace (symbolic_name name) = symbolic_name (stripped namespace name)

-- the id, of an object
abbrev pub target_id : TargetValue → Option ObjectId
target_id (object_id id) = Some id
target_id (symbolic_name name) = None

-- the bytes of the name, of a symbolic target
abbrev pub target_name : TargetValue → Option (List ℕ)
target_name (object_id id) = None
target_name (symbolic_name name) = Some name

-- an object whose id is all zeros
abbrev pub IsNullTarget : TargetValue → Type 0
IsNullTarget (object_id id) = id ≡ null_id (id_kind id)
IsNullTarget (symbolic_name name) = ⊥

-- the hex digits of the id, or `ref: ` and the name as it is shown
abbrev pub target_text : TargetValue → List ℕ
target_text (object_id id) = encode_lower (id_bytes id)
target_text (symbolic_name name) = codes "ref: " ++ shown name
