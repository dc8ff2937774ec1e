-- A record of `packed-refs`, its text, and what it is read as (`git pack-refs`).
use Rattle.std.specs.Prelude.{ℕ, ◌==◌, List, [], ◌∷◌, ◌++◌, length, find, codes, bytes_eq, if◌then◌else◌, Option, Some, None, Result, Ok, Err}
use Rattle.std.specs.List.{flat_map}
use Rattle.hex.specs.Hex.{decode_of, encode_lower}
use Rattle.hex.specs.declared.error.FromHexError.{FromHexError}
use Rattle.gix_ref_hash.specs.declared.hash.ObjectId.{ObjectId}
use Rattle.gix_ref_hash.specs.declared.hash.ObjectId.TheVariants as ids
use Rattle.gix_ref_hash.specs.Ids.{id_bytes}

-- the hex digits with which an id is written
abbrev pub written_id : ObjectId → List ℕ
written_id id = encode_lower (id_bytes id)

-- A record: a name, the hex digits of its target as they are written, and those of the object at which a tag ends.
pub record Record : Type 0 where
  pub name : List ℕ
  pub target : List ℕ
  pub object : Option (List ℕ)

-- the record of that name: the first one
abbrev pub record_named : List ℕ → List Record → Option Record
record_named n rs = find (λ (r : Record). bytes_eq r.name n) rs

-- `^`, the digits of a peeled id and LF
abbrev pub object_line : Option (List ℕ) → List ℕ
object_line None = []
object_line (Some object) = 94 ∷ (object ++ 10 ∷ [])

-- the digits of the id, a space, the name and LF; and the line of the peeled id
abbrev pub record_text : Record → List ℕ
record_text r = r.target ++ 32 ∷ (r.name ++ 10 ∷ object_line r.object)

abbrev pub header_text : List ℕ
header_text = codes "# pack-refs with: peeled fully-peeled sorted " ++ 10 ∷ []

-- the text of `packed-refs` as it is written: the header and the records
abbrev pub written_text : List Record → List ℕ
written_text rs = header_text ++ flat_map record_text rs

-- the id with these bytes, by their number
abbrev pub id_with : List ℕ → Option ObjectId
id_with bytes =
    if length bytes == 20 then Some (ids.Sha1 bytes)
    else if length bytes == 32 then Some (ids.Sha256 bytes)
    else None

abbrev pub id_in : Result (List ℕ) FromHexError → Option ObjectId
id_in (Ok bytes) = id_with bytes
id_in (Err error) = None

-- the id that these hex digits are read as
abbrev pub id_read : List ℕ → Option ObjectId
id_read digits = id_in (decode_of digits)
