-- The records of a text of packed references, computed (`git pack-refs`).
use Rattle.std.specs.Prelude.{ℕ, ◌+◌, ◌*◌, ◌==◌, nat_eq, Bool, false, ◌&&◌, if◌then◌else◌, List, [], ◌∷◌, ◌++◌, length, take, drop, codes, Option, Some, None, is_none, unwrap_or, ◌≡◌, ◌↔◌}
use Rattle.std.specs.List.{list_all, starts_with}
use Rattle.std.specs.Option.{option_map, option_and_then}
use Rattle.std.specs.Cmp.Lexicographic.{pointwise}
use Rattle.hex.specs.Hex.{is_hex_digit}
use Rattle.gix_ref_hash.specs.declared.hash.Kind.{Kind}
use Rattle.gix_ref_hash.specs.Ids.{kind_len}
use Rattle.gix_ref_name.specs.NameGrammar.{full_error}
use Rattle.gix_ref_target.specs.PackedRecords.{Record}
use Rattle.gix_ref_packed_text.specs.declared.packed.decode.options.Header.{Header}
use Rattle.gix_ref_packed_text.specs.RecordGrammar.{is_caret}
use Rattle.gix_ref_packed_text.specs.OpenedText.{PackedText, is_hash}

-- the text begins with LF
abbrev pub begins_lf : List ℕ → Bool
begins_lf [] = false
begins_lf (b ∷ rest) = b == 10

-- the text begins with `#`
abbrev pub begins_hash : List ℕ → Bool
begins_hash [] = false
begins_hash (b ∷ rest) = is_hash b

-- one byte more in the first line
abbrev pub longer : ℕ → List (List ℕ) → Option (List (List ℕ))
longer b [] = None
longer b (line ∷ more) = Some ((b ∷ line) ∷ more)

-- the lines of a text, each ended by LF or CRLF; a CR elsewhere and a last line without an end are invalid
abbrev pub text_lines : List ℕ → Option (List (List ℕ))
text_lines [] = Some []
text_lines (b ∷ rest) =
    if b == 10 then option_map (λ more. [] ∷ more) (text_lines rest)
    else if b == 13 then (if begins_lf rest then text_lines rest else None)
    else option_and_then (longer b) (text_lines rest)

-- the lines after the header, which a text that begins with `#` has
abbrev pub behind_header : List (List ℕ) → Option (List (List ℕ))
behind_header [] = Some []
behind_header (line ∷ more) =
    if starts_with nat_eq line (codes "# pack-refs with: ") then Some more
    else if begins_hash line then None
    else Some (line ∷ more)

abbrev pub is_hex_of : Kind → List ℕ → Bool
is_hex_of kind text = (length text == 2 * kind_len kind) && list_all is_hex_digit text

-- the digits of a line, a space and a valid full name
abbrev pub is_line_of : Kind → List ℕ → List ℕ → List ℕ → Bool
is_line_of kind line digits name =
    pointwise nat_eq line (digits ++ 32 ∷ name) && is_hex_of kind digits
    && is_none (full_error name)

abbrev pub digits_in : Kind → List ℕ → List ℕ
digits_in kind line = take (2 * kind_len kind) line

abbrev pub line_name : Kind → List ℕ → List ℕ
line_name kind line = drop (2 * kind_len kind + 1) line

-- what follows the `^` at the front of a line
abbrev pub behind_caret : List ℕ → Option (List ℕ)
behind_caret [] = None
behind_caret (b ∷ digits) = if is_caret b then Some digits else None

-- the object that the first of these lines gives the record before it
abbrev pub first_object : List (List ℕ) → Option (List ℕ)
first_object [] = None
first_object (line ∷ more) = behind_caret line

-- a line with `^` adds no record, and no such line follows it; another is a record, with that object
abbrev pub add_line : Kind → List ℕ → Option (List ℕ) → Option (List ℕ) → List Record →
    Option (List Record)
add_line kind line object (Some digits) rs = if is_hex_of kind digits && is_none object
    then Some rs else None
add_line kind line object None rs =
    if is_line_of kind line (digits_in kind line) (line_name kind line)
    then Some
    (record { name = line_name kind line; target = digits_in kind line; object = object } ∷ rs)
    else None

abbrev pub add_lines : Kind → List (List ℕ) → Option (List Record)
add_lines kind [] = Some []
add_lines kind (line ∷ more) = option_and_then
    (add_line kind line (first_object more) (behind_caret line)) (add_lines kind more)

-- the records of the lines, the first of which is a record's
abbrev pub line_records : Kind → List (List ℕ) → Option (List Record)
line_records kind lines = if is_none (first_object lines) then add_lines kind lines else None

-- the records of the text, or nothing where it is invalid
abbrev pub read_records : Kind → List ℕ → Option (List Record)
read_records kind text = option_and_then (line_records kind)
    (option_and_then behind_header (text_lines text))

-- the records of the text; an invalid text has none
abbrev pub records_of_text : Kind → List ℕ → List Record
records_of_text kind text = unwrap_or (read_records kind text) []

-- the records of a text are those that are computed
abbrev pub RecordsAreComputed : Type 0
RecordsAreComputed =
    (kind : Kind) (text : List ℕ) (h : Option Header) (rs : List Record) →
    PackedText kind text h rs → records_of_text kind text ≡ rs

-- records are read of a text exactly where it is a header, or none, and these records
abbrev pub TextsAreRead : Type 0
TextsAreRead = (kind : Kind) (text : List ℕ) (rs : List Record) →
    (read_records kind text ≡ Some rs) ↔ ((h : Option Header) × PackedText kind text h rs)
