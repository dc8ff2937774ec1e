-- The text of a loose file, and the target that it holds: an id, or `ref: ` and the name of another reference.
use Rattle.std.specs.Prelude.{◌≡◌, ℕ, ◌*◌, Bool, true, not, ◌&&◌, nat_eq, List, [], ◌∷◌, ◌++◌, codes, length, take, drop, Option, Some, None, Result, Ok, Err, is_none, if◌then◌else◌}
use Rattle.std.specs.List.{starts_with}
use Rattle.hex.specs.Hex.{is_hex_digit, decode_of}
use Rattle.hex.specs.declared.error.FromHexError.{FromHexError}
use Rattle.gix_ref_hash.specs.Bytes.{SkipsSpaces, CutsLine, StopsAt, is_space, in_line}
use Rattle.gix_ref_hash.specs.Ids.{ReadsId, kind_len, id_kind}
use Rattle.gix_ref_name.specs.NameGrammar.{IsFullName, full_error}
use Rattle.gix_ref_target.specs.Targets.{TargetValue}
use Rattle.gix_ref_target.specs.Targets.TargetValue.{object_id, symbolic_name}
use Rattle.gix_ref_hash.specs.declared.hash.Kind.{Kind}
use Rattle.gix_ref_hash.specs.declared.hash.Kind.TheVariants as kinds
use Rattle.gix_ref_hash.specs.declared.hash.ObjectId.{ObjectId}
use Rattle.gix_ref_hash.specs.declared.hash.ObjectId.TheVariants as ids
use Rattle.gix_ref_lookup.specs.declared.loose.error.Error.{Error}
use Rattle.gix_ref_lookup.specs.declared.loose.error.Error.TheVariants.{Parse, RefnameValidation, Memory}

-- `ref: `, any further spaces, and a path up to the first NUL, CR or LF, or to the end
pub record HoldsPath (text path : List ℕ) : Type 0 where
  pub after_word : List ℕ
  pub after_spaces : List ℕ
  pub word : text ≡ codes "ref: " ++ after_word
  pub spaces : SkipsSpaces after_word after_spaces
  pub line : CutsLine after_spaces path

-- the hex digits of an id of the kind at the front, and no hex digit after them
pub record HoldsId (kind : Kind) (text : List ℕ) (id : ObjectId) : Type 0 where
  pub digits : List ℕ
  pub rest : List ℕ
  pub whole : text ≡ digits ++ rest
  pub of_kind : id_kind id ≡ kind
  pub reads : ReadsId digits id
  pub ends : StopsAt is_hex_digit rest

-- the target that a text holds; the path of a symbolic one is a full name
abbrev pub HoldsTarget : Kind → List ℕ → TargetValue → Type 0
HoldsTarget kind text (object_id id) = HoldsId kind text id
HoldsTarget kind text (symbolic_name name) = HoldsPath text name × IsFullName name

-- when each error comes
abbrev pub CannotDecode : Kind → List ℕ → Error → Type 0
CannotDecode kind text (Parse content) = (content.items ≡ text)
    × ((path : List ℕ) → HoldsPath text path → ⊥) × ((id : ObjectId) → HoldsId kind text id → ⊥)
CannotDecode kind text (RefnameValidation source path) = HoldsPath text path.items
    × (full_error path.items ≡ Some source)
CannotDecode kind text Memory = Unit {0}

-- a target that a store of this kind can write and read again: an id of the kind, or a full name
abbrev pub IsWritable : Kind → TargetValue → Type 0
IsWritable kind (object_id id) = id_kind id ≡ kind
IsWritable kind (symbolic_name name) = IsFullName name

-- The same as it is computed; `loose_texts_are_read` shows that the two agree.

-- the longest front whose bytes pass
abbrev pub front_while : (ℕ → Bool) → List ℕ → List ℕ
front_while passes [] = []
front_while passes (b ∷ rest) = if passes b then b ∷ front_while passes rest else []

-- what follows that front
abbrev pub behind : (ℕ → Bool) → List ℕ → List ℕ
behind passes [] = []
behind passes (b ∷ rest) = if passes b then behind passes rest else b ∷ rest

-- the text does not begin with a hex digit
abbrev pub stops : List ℕ → Bool
stops [] = true
stops (b ∷ rest) = not (is_hex_digit b)

-- the id of a kind with these bytes
abbrev pub id_of : Kind → List ℕ → ObjectId
id_of kinds.Sha1 bytes = ids.Sha1 bytes
id_of kinds.Sha256 bytes = ids.Sha256 bytes

abbrev pub object_of : Kind → Result (List ℕ) FromHexError → Option TargetValue
object_of kind (Ok bytes) = Some (object_id (id_of kind bytes))
object_of kind (Err error) = None

-- the target that begins with `digits`, where there are enough of them and no further one follows
abbrev pub object_in : Kind → (digits rest : List ℕ) → Option TargetValue
object_in kind digits rest =
    if nat_eq (length digits) (2 * kind_len kind) && stops rest
    then object_of kind (decode_of digits) else None

-- a path that is a full name
abbrev pub symbolic_in : List ℕ → Option TargetValue
symbolic_in path = if is_none (full_error path) then Some (symbolic_name path) else None

-- the target of a text, if it holds one
unfoldable pub target_in : Kind → List ℕ → Option TargetValue
target_in kind text =
    if starts_with nat_eq text (codes "ref: ")
    then symbolic_in (front_while in_line (behind is_space (drop 5 text)))
    else object_in kind (take (2 * kind_len kind) text) (drop (2 * kind_len kind) text)
