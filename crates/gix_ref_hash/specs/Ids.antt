-- What an object id is: a kind and that many bytes, and its text: twice as many hex digits.
use Rattle.std.specs.Prelude.{◌≡◌, ◌⊎◌, ℕ, ◌*◌, ◌==◌, Bool, true, ◌&&◌, ◌||◌, List, ◌++◌, take, take_while, replicate, length, Ok}
use Rattle.std.specs.List.{AllPass, list_all}
use Rattle.hex.specs.Hex.{decode_of, is_hex_digit, IsBytes}
use Rattle.gix_ref_hash.specs.declared.hash.Kind.{Kind}
use Rattle.gix_ref_hash.specs.declared.hash.Kind.TheVariants as kinds
use Rattle.gix_ref_hash.specs.declared.hash.ObjectId.{ObjectId}
use Rattle.gix_ref_hash.specs.declared.hash.ObjectId.TheVariants as ids

-- the number of bytes of an id
abbrev pub kind_len : Kind → ℕ
kind_len kinds.Sha1 = 20
kind_len kinds.Sha256 = 32

abbrev pub id_kind : ObjectId → Kind
id_kind (ids.Sha1 bytes) = kinds.Sha1
id_kind (ids.Sha256 bytes) = kinds.Sha256

abbrev pub id_bytes : ObjectId → List ℕ
id_bytes (ids.Sha1 bytes) = bytes
id_bytes (ids.Sha256 bytes) = bytes

-- as many bytes as the kind has, and each a byte: what every id of the program is
pub record IsWhole (id : ObjectId) : Type 0 where
  pub len : length (id_bytes id) ≡ kind_len (id_kind id)
  pub bytes : IsBytes (id_bytes id)

-- all bytes zero
abbrev pub null_id : Kind → ObjectId
null_id kinds.Sha1 = ids.Sha1 (replicate 20 0)
null_id kinds.Sha256 = ids.Sha256 (replicate 32 0)

-- the text is hex digits, of either case, as many as an id of the kind has
pub record IsHexOf (kind : Kind) (text : List ℕ) : Type 0 where
  pub len : length text ≡ 2 * kind_len kind
  pub digits : AllPass is_hex_digit text

-- the text is the hex digits of some id
abbrev pub IsHex : List ℕ → Type 0
IsHex text = IsHexOf kinds.Sha1 text ⊎ IsHexOf kinds.Sha256 text

-- the same, as a test: 40 or 64 hex digits
abbrev pub is_id_text : List ℕ → Bool
is_id_text text = ((length text == 40) || (length text == 64)) && list_all is_hex_digit text

abbrev pub IsIdText : List ℕ → Type 0
IsIdText text = is_id_text text ≡ true

-- the text is the hex digits of this id
pub record ReadsId (text : List ℕ) (id : ObjectId) : Type 0 where
  pub len : length text ≡ 2 * kind_len (id_kind id)
  pub digits : decode_of text ≡ Ok (id_bytes id)

-- the digits are the run of hex digits at the front, cut at 64
pub record HexRun (text digits rest : List ℕ) : Type 0 where
  pub whole : text ≡ digits ++ rest
  pub run : digits ≡ take_while is_hex_digit (take 64 text)
