-- Opening a text of packed references: its header, the records in the order of their names, and what refuses it.
use Rattle.std.specs.Prelude.{◌≡◌, ◌≢◌, ◌==◌, ◌+◌, ℕ, Bool, true, false, List, [], ◌∷◌, ◌++◌, map, Option, Some, None, sum_by}
use Rattle.std.specs.List.{All, AllPairs, filter, flat_map, Contains}
use Rattle.std.specs.List.Sorted.{IsPermutation, ties}
use Rattle.std.specs.Cmp.Lexicographic.{slice_cmp}
use Rattle.std.specs.Ordering.{nat_cmp, is_lt}
use Rattle.gix_ref_hash.specs.declared.hash.Kind.{Kind}
use Rattle.gix_ref_hash.specs.Bytes.{StopsAt}
use Rattle.gix_ref_packed_text.specs.declared.packed.decode.options.Header.{Header}
use Rattle.gix_ref_target.specs.PackedRecords.{Record}
use Rattle.gix_ref_packed_text.specs.RecordGrammar.{Takes, NoRecord, Records, Ascending, Rising, is_caret}
use Rattle.gix_ref_packed_text.specs.HeaderGrammar.{TakesHeader}

abbrev pub is_hash : ℕ → Bool
is_hash b = b == 35

-- a text that begins with `#` has a header; the rest is its records
abbrev pub Heads : List ℕ → Option Header → List ℕ → Type 0
Heads text None rest = (text ≡ rest) × StopsAt is_hash text
Heads text (Some h) rest = TakesHeader text h rest

-- it begins with `#` and has none
abbrev pub NoHeader : List ℕ → Type 0
NoHeader text = (h : Option Header) (rest : List ℕ) → Heads text h rest → ⊥

-- the whole text is this header and these records
abbrev pub PackedText : Kind → List ℕ → Option Header → List Record → Type 0
PackedText kind text h rs = (rest : List ℕ) × Heads text h rest × Records kind rest rs

-- the header says that the records are sorted
abbrev pub says_sorted : Option Header → Bool
says_sorted None = false
says_sorted (Some h) = h.sorted

-- the number of the first line after the header, from 1
abbrev pub line_behind : Option Header → ℕ
line_behind None = 1
line_behind (Some h) = 2

-- a peeled line is one more
abbrev pub lines_with : Option (List ℕ) → ℕ
lines_with None = 1
lines_with (Some object) = 2

abbrev pub lines_of : Record → ℕ
lines_of r = lines_with r.object

-- how many lines the records have
abbrev pub line_count : List Record → ℕ
line_count = sum_by lines_of

-- these records are at the front of the text, and what follows them
abbrev pub Fronts : Kind → List ℕ → List Record → List ℕ → Type 0
Fronts kind text [] rest = text ≡ rest
Fronts kind text (r ∷ rs) rest = (after : List ℕ) × Takes kind text r after
    × Fronts kind after rs rest

-- after some records, in the line of that number, no record begins; the first line has the number `first`
pub record StuckAt (kind : Kind) (first : ℕ) (text : List ℕ) (line : ℕ) : Type 0 where
  pub before : List Record
  pub rest : List ℕ
  pub fronts : Fronts kind text before rest
  pub some : rest ≢ []
  pub bad : NoRecord kind rest
  pub number : line ≡ first + line_count before

-- A record with the bytes of its lines.
pub record Piece : Type 0 where
  pub said : Record
  pub bytes : List ℕ

-- the bytes are the lines of the record, whatever follows them but a line with `^`
abbrev pub IsPiece : Kind → Piece → Type 0
IsPiece kind p = (rest : List ℕ) → StopsAt is_caret rest → Takes kind (p.bytes ++ rest) p.said rest

abbrev pub records_in : List Piece → List Record
records_in pieces = map (λ p. p.said) pieces

abbrev pub bytes_in : List Piece → List ℕ
bytes_in pieces = flat_map (λ p. p.bytes) pieces

-- by name
abbrev pub is_lower : Piece → Piece → Bool
is_lower p q = is_lt (slice_cmp nat_cmp p.said.name q.said.name)

-- the same pieces in the order of their names, those of one name in their old order
pub record SortsByName (old new : List Piece) : Type 0 where
  pub moved : IsPermutation old new
  pub rises : Rising (records_in new)
  pub stable : (p : Piece) → Contains old p →
      filter (ties is_lower p) new ≡ filter (ties is_lower p) old

-- The records of a text with their bytes, in the order of their names. A text whose names do not descend stays.
pub record SortsText (kind : Kind) (rest kept : List ℕ) : Type 0 where
  pub old : List Piece
  pub new : List Piece
  pub pieces : All (IsPiece kind) old
  pub cut : rest ≡ bytes_in old
  pub sorts : SortsByName old new
  pub joined : kept ≡ bytes_in new
  pub stays : Rising (records_in old) → kept ≡ rest
  pub before : Records kind rest (records_in old)
  pub after : Records kind kept (records_in new)

-- What is kept of the records' text: all of it where the header says that it is sorted, else the records in the order
-- of their names.
abbrev pub Keeps : Kind → Bool → List ℕ → List ℕ → Type 0
Keeps kind true rest kept = kept ≡ rest
Keeps kind false rest kept = SortsText kind rest kept

-- what is kept of a text, and the number of its first line
pub record OpensTo (kind : Kind) (text kept : List ℕ) (line : ℕ) : Type 0 where
  pub header : Option Header
  pub rest : List ℕ
  pub heads : Heads text header rest
  pub keeps : Keeps kind (says_sorted header) rest kept
  pub number : line ≡ line_behind header

-- a text whose records must be read, and the line of the first that is no record
abbrev pub HasBadLine : Kind → List ℕ → ℕ → Type 0
HasBadLine kind text line =
    (header : Option Header) × (rest : List ℕ) × Heads text header rest
    × (says_sorted header ≡ false) × StuckAt kind (line_behind header) rest line

-- `packed-refs` is well formed: the whole text is a header and records, no two of one name, and they ascend where the
-- header says so
pub record IsWellFormed (kind : Kind) (text : List ℕ) (h : Option Header)
    (rs : List Record) : Type 0 where
  pub whole : PackedText kind text h rs
  pub distinct : AllPairs (λ r s. r.name ≢ s.name) rs
  pub ascends : says_sorted h ≡ true → Ascending rs
