-- Texts as lists of bytes: fronts, components, cuts at a byte, longest fronts and line ends.
use Rattle.std.specs.Prelude.{◌≡◌, ◌≢◌, ℕ, ◌<◌, ◌==◌, nat_eq, nat_lt, Bool, true, false, not, ◌||◌, ◌⊎◌, List, [], ◌∷◌, ◌++◌, length, drop, slice_index, if◌then◌else◌, encode_utf8_all}
use Rattle.bstr.specs.Utf8.{lossy_chars}
use Rattle.std.specs.List.{AllPass, starts_with, slice_split}

-- the text begins with `front`
abbrev pub BeginsWith : List ℕ → List ℕ → Type 0
BeginsWith text front = (rest : List ℕ) × (text ≡ front ++ rest)

-- what is shown of bytes: themselves where they are UTF-8, else with U+FFFD for each piece that is not
abbrev pub shown : List ℕ → List ℕ
shown bytes = encode_utf8_all (lossy_chars bytes)

-- the text without a front that it may have
unfoldable pub without_front : List ℕ → List ℕ → List ℕ
without_front front text = if starts_with nat_eq text front then drop (length front) text else text

-- the text with that front, which it may have already
unfoldable pub with_front : List ℕ → List ℕ → List ℕ
with_front front text = if starts_with nat_eq text front then text else front ++ text

abbrev pub is_empty : List ℕ → Bool
is_empty [] = true
is_empty (b ∷ text) = false

-- `part` is somewhere in the text
abbrev pub occurs : List ℕ → List ℕ → Bool
occurs part [] = starts_with nat_eq [] part
occurs part (b ∷ text) = starts_with nat_eq (b ∷ text) part || occurs part text

abbrev pub is_slash : ℕ → Bool
is_slash b = b == 47

-- what is between the slashes
abbrev pub components : List ℕ → List (List ℕ)
components = slice_split is_slash

-- the byte is not in the text
abbrev pub NoByte : ℕ → List ℕ → Type 0
NoByte b text = (k : ℕ) → k < length text → slice_index text k ≢ b

-- LF or less, as a tab is
abbrev pub is_break : ℕ → Bool
is_break b = nat_lt b 11

-- cut at the first such byte
pub record Cuts (b : ℕ) (text before after : List ℕ) : Type 0 where
  pub whole : text ≡ before ++ b ∷ after
  pub none : NoByte b before

-- cut at the last such byte
pub record CutsLast (b : ℕ) (text before after : List ℕ) : Type 0 where
  pub whole : text ≡ before ++ b ∷ after
  pub none : NoByte b after

-- the text does not begin with a byte that passes
abbrev pub StopsAt : (ℕ → Bool) → List ℕ → Type 0
StopsAt passes [] = Unit {0}
StopsAt passes (b ∷ rest) = passes b ≡ false

-- a front whose bytes all pass, and a rest that does not go on with one that passes
pub record Spans (passes : ℕ → Bool) (text front rest : List ℕ) : Type 0 where
  pub whole : text ≡ front ++ rest
  pub front_passes : AllPass passes front
  pub stops : StopsAt passes rest

abbrev pub is_space : ℕ → Bool
is_space b = b == 32

-- NUL, LF or CR
abbrev pub ends_line : ℕ → Bool
ends_line b = (b == 0) || (b == 10) || (b == 13)

abbrev pub in_line : ℕ → Bool
in_line b = not (ends_line b)

-- the rest follows all spaces at the front
abbrev pub SkipsSpaces : List ℕ → List ℕ → Type 0
SkipsSpaces text rest = (spaces : List ℕ) × Spans is_space text spaces rest

-- the line is all before the first NUL, LF or CR, or the whole text
abbrev pub CutsLine : List ℕ → List ℕ → Type 0
CutsLine text line = (rest : List ℕ) × Spans in_line text line rest

-- LF, or CR and LF
abbrev pub IsNewline : List ℕ → Type 0
IsNewline end = (end ≡ 10 ∷ []) ⊎ (end ≡ 13 ∷ 10 ∷ [])
