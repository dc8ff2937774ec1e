-- The text of packed references (`git pack-refs`): an optional header, then records of one or two lines.
use Rattle.std.specs.Prelude.{◌≡◌, ◌≢◌, ◌==◌, ◌*◌, ◌⊎◌, ℕ, Bool, not, ◌||◌, List, [], ◌∷◌, ◌++◌, length, Option, Some, None}
use Rattle.std.specs.List.{All}
use Rattle.std.specs.Cmp.Lexicographic.{slice_cmp}
use Rattle.std.specs.Ordering.{nat_cmp}
use Rattle.std.specs.declared.cmp.Ordering.TheVariants.{Less}
use Rattle.gix_ref_hash.specs.declared.hash.Kind.{Kind}
use Rattle.gix_ref_hash.specs.Ids.{kind_len, IsHexOf}
use Rattle.gix_ref_hash.specs.Bytes.{StopsAt, Spans}
use Rattle.gix_ref_name.specs.NameGrammar.{IsFullName}
use Rattle.gix_ref_target.specs.PackedRecords.{Record}

-- LF or CRLF, and a rest
abbrev pub Newline : List ℕ → List ℕ → Type 0
Newline text rest = (text ≡ 10 ∷ rest) ⊎ (text ≡ 13 ∷ 10 ∷ rest)

-- neither LF nor CR
abbrev pub in_record_line : ℕ → Bool
in_record_line b = not ((b == 10) || (b == 13))

-- a line without its newline, and the rest; a CR alone is in no line
pub record Line (text line rest : List ℕ) : Type 0 where
  pub after : List ℕ
  pub cut : Spans in_record_line text line after
  pub newline : Newline after rest

-- as many bytes as an id has digits, a space and a name, none of them checked
pub record RecordLine (kind : Kind) (text digits name rest : List ℕ) : Type 0 where
  pub after : List ℕ
  pub whole : text ≡ digits ++ 32 ∷ after
  pub len : length digits ≡ 2 * kind_len kind
  pub line : Line after name rest

abbrev pub is_caret : ℕ → Bool
is_caret b = b == 94

-- `^`, an id and a newline
pub record PeeledLine (kind : Kind) (text object rest : List ℕ) : Type 0 where
  pub after : List ℕ
  pub whole : text ≡ 94 ∷ (object ++ after)
  pub id : IsHexOf kind object
  pub newline : Newline after rest

-- a line that begins with `^` belongs to the record before it
abbrev pub OptionalPeeledLine : Kind → List ℕ → Option (List ℕ) → List ℕ → Type 0
OptionalPeeledLine kind text None rest = (text ≡ rest) × StopsAt is_caret rest
OptionalPeeledLine kind text (Some object) rest = PeeledLine kind text object rest

-- a record at the front of a text, and the rest
pub record Takes (kind : Kind) (text : List ℕ) (r : Record) (rest : List ℕ) : Type 0 where
  pub after : List ℕ
  pub line : RecordLine kind text r.target r.name after
  pub id : IsHexOf kind r.target
  pub valid : IsFullName r.name
  pub peeled : OptionalPeeledLine kind after r.object rest

-- a line that begins with `^` belongs to the record before it; what follows the `^` is not checked
abbrev pub PeeledForm : List ℕ → Option (List ℕ) → List ℕ → Type 0
PeeledForm text None rest = (text ≡ rest) × StopsAt is_caret rest
PeeledForm text (Some object) rest = (after : List ℕ) × (text ≡ 94 ∷ after) × Line after object rest

-- the lines of a record at the front of a text, by their form alone: neither the ids nor the name are checked
pub record TakesForm (kind : Kind) (text : List ℕ) (r : Record) (rest : List ℕ) : Type 0 where
  pub after : List ℕ
  pub line : RecordLine kind text r.target r.name after
  pub no_caret : StopsAt is_caret text
  pub one_line : All (λ b. b ≢ 10) r.target
  pub some_name : r.name ≢ []
  pub peeled : PeeledForm after r.object rest

-- the whole text is lines of this form
abbrev pub Forms : Kind → List ℕ → List Record → Type 0
Forms kind text [] = text ≡ []
Forms kind text (r ∷ rs) = (rest : List ℕ) × TakesForm kind text r rest × Forms kind rest rs

-- no record is at the front of a text
abbrev pub NoRecord : Kind → List ℕ → Type 0
NoRecord kind text = (r : Record) (rest : List ℕ) → Takes kind text r rest → ⊥

-- the whole text is these records
abbrev pub Records : Kind → List ℕ → List Record → Type 0
Records kind text [] = text ≡ []
Records kind text (r ∷ rs) = (rest : List ℕ) × Takes kind text r rest × Records kind rest rs

-- in the order of bytes
abbrev pub Below : List ℕ → List ℕ → Type 0
Below m n = slice_cmp nat_cmp m n ≡ Less

-- each name is below all that follow, so they are distinct too
abbrev pub Ascending : List Record → Type 0
Ascending [] = Unit {0}
Ascending (r ∷ rs) = All (λ s. Below r.name s.name) rs × Ascending rs

-- no name is below an earlier one, but names may be equal
abbrev pub Rising : List Record → Type 0
Rising [] = Unit {0}
Rising (r ∷ rs) = All (λ s. Below s.name r.name → ⊥) rs × Rising rs
