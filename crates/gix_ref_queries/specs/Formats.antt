-- The format of a row of `git for-each-ref`.
use Rattle.std.specs.Prelude.{◌≡◌, ℕ, ◌+◌, ◌*◌, ◌==◌, List, [], ◌∷◌, take, Option, Some, None, Result, Ok, Err, Bool, true, false, bytes_eq, codes, if◌then◌else◌, suc, zero}
use Rattle.std.specs.List.{flat_map, position}
use Rattle.hex.specs.Hex.{encode_lower, hex_digit_value}
use Rattle.gix_ref_hash.specs.Ids.{id_bytes}
use Rattle.gix_ref_hash.specs.declared.hash.ObjectId.{ObjectId}
use Rattle.gix_ref_queries.specs.declared.format.Part.{Part}
use Rattle.gix_ref_queries.specs.declared.format.FormatError.{FormatError}
use Rattle.gix_ref_queries.specs.declared.format.FormatError.TheVariants as unread
use Rattle.gix_ref_queries.specs.declared.format.Part.TheVariants.{Byte, Refname, Short, Objectname, Symref}

-- The first part of a format, and how many bytes it takes beside its first; or the field that is not supported, without its `%`.
abbrev pub FirstPart : Type 0
FirstPart = Result (Part × ℕ) (List ℕ)

-- the byte of two hex digits
abbrev pub of_digits : Option ℕ → Option ℕ → Option ℕ
of_digits (Some high) (Some low) = Some (high * 16 + low)
of_digits high low = None

abbrev pub hex_byte : (high low : ℕ) → Option ℕ
hex_byte high low = of_digits (hex_digit_value high) (hex_digit_value low)

-- the field of a name
abbrev pub field_named : (name : List ℕ) → Option Part
field_named name = if bytes_eq name (codes "refname") then Some Refname
    else (if bytes_eq name (codes "refname:short") then Some Short
    else (if bytes_eq name (codes "objectname") then Some Objectname
    else (if bytes_eq name (codes "symref") then Some Symref else None)))

abbrev pub part_or : Option Part → (len : ℕ) → (other : List ℕ) → FirstPart
part_or None len other = Err other
part_or (Some part) len other = Ok (part, len)

-- `(NAME)`, where the name ends there, and after its parenthesis comes this
abbrev pub field_to : (end : Option ℕ) → (text after : List ℕ) → FirstPart
field_to None text after = Err text
field_to (Some end) text after =
    part_or (field_named (take end after)) (end + 2) (take (end + 2) text)

-- two digits, or a `%` that stands for itself
abbrev pub byte_or_percent : Option ℕ → FirstPart
byte_or_percent None = Ok (Byte 37, 0)
byte_or_percent (Some byte) = Ok (Byte byte, 2)

abbrev pub digits_at : (high : ℕ) → (after : List ℕ) → FirstPart
digits_at high [] = Ok (Byte 37, 0)
digits_at high (low ∷ after) = byte_or_percent (hex_byte high low)

-- what a `%` begins that is followed by this: `%(NAME)`, `%%`, `%xx`, or nothing
abbrev pub after_percent : (text : List ℕ) → FirstPart
after_percent [] = Ok (Byte 37, 0)
after_percent (sign ∷ after) =
    if sign == 40 then field_to (position (λ byte. byte == 41) after) (sign ∷ after) after
    else (if sign == 37 then Ok (Byte 37, 1) else digits_at sign after)

abbrev pub first_part : (first : ℕ) → (rest : List ℕ) → FirstPart
first_part first rest = if first == 37 then after_percent rest else Ok (Byte first, 0)

-- the parts of a format; or the first field that is not supported
abbrev pub Parts : Type 0
Parts = Result (List Part) (List ℕ)

abbrev pub with_part : Part → Parts → Parts
with_part part (Ok parts) = Ok (part ∷ parts)
with_part part (Err field) = Err field

-- a first part, and the parts after so many bytes
abbrev pub first_then : (go : ℕ → Parts) → FirstPart → Parts
first_then go (Err field) = Err field
first_then go (Ok first) = with_part first.0 (go first.1)

-- the parts of what comes after so many bytes
abbrev pub parts_after : (passed : ℕ) → (text : List ℕ) → Parts
parts_after passed [] = Ok []
parts_after (suc passed) (first ∷ rest) = parts_after passed rest
parts_after zero (first ∷ rest) = first_then (λ n. parts_after n rest) (first_part first rest)

abbrev pub format_parts : (format : List ℕ) → Parts
format_parts format = parts_after 0 format

-- a format shows the short name
abbrev pub shows_short : List Part → Bool
shows_short [] = false
shows_short (Short ∷ parts) = true
shows_short (part ∷ parts) = shows_short parts

-- What a row shows of a reference: its name, its short name where that is shown, the id to which it leads, and, where it is symbolic,
-- the last name on the way.
pub record Shown : Type 0 where
  pub name : List ℕ
  pub short : List ℕ
  pub id : ObjectId
  pub symref : List ℕ

abbrev pub part_text : Shown → Part → List ℕ
part_text shown (Byte byte) = byte ∷ []
part_text shown Refname = shown.name
part_text shown Short = shown.short
part_text shown Objectname = encode_lower (id_bytes shown.id)
part_text shown Symref = shown.symref

-- a row, without its line feed
abbrev pub row_text : List Part → Shown → List ℕ
row_text parts shown = flat_map (part_text shown) parts

-- why a format is not read, of which these are the parts
abbrev pub IsUnread : Parts → FormatError → Type 0
IsUnread parts (unread.Field field) = parts ≡ Err field.now
IsUnread parts unread.Memory = Unit {0}
