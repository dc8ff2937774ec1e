-- A text that is read in parts of whole records.
use Rattle.std.specs.Prelude.{◌≡◌, ◌≢◌, ◌+◌, ◌⊎◌, ℕ, true, List, [], ◌∷◌, ◌++◌, length}
use Rattle.gix_ref_files.specs.declared.files.FileError.TheVariants.{Memory as NoMemory}
use Rattle.gix_ref_hash.specs.declared.hash.Kind.{Kind}
use Rattle.gix_ref_hash.specs.Bytes.{StopsAt}
use Rattle.gix_ref_target.specs.PackedRecords.{Record}
use Rattle.gix_ref_packed_text.specs.OpenedText.{StuckAt, line_count}
use Rattle.gix_ref_packed_text.specs.Positions.{BeginsLine}
use Rattle.gix_ref_packed_text.specs.RecordGrammar.{Rising, is_caret}
use Rattle.gix_ref_packed.specs.declared.packed.buffer.open.Error.{Error}
use Rattle.gix_ref_packed.specs.declared.packed.buffer.open.Error.TheVariants.{Iter, HeaderParsing, Io, Memory}
use Rattle.gix_ref_packed.specs.declared.packed.order.ReadRecords.{ReadRecords}

-- the part is at the front of the text: all of it, or its lines up to one that begins with no `^`
pub record IsPart (text part : List ℕ) : Type 0 where
  pub rest : List ℕ
  pub whole : text ≡ part ++ rest
  pub ends : (rest ≡ []) ⊎ (BeginsLine part (length part) × StopsAt is_caret rest)

-- the name of the last of these records; none has an empty one
abbrev pub last_name : List Record → List ℕ
last_name [] = []
last_name (r ∷ []) = r.name
last_name (r ∷ s ∷ rs) = last_name (s ∷ rs)

-- These records were read, the first of them in the line `first`.
pub record HasRead (first : ℕ) (rs : List Record) (read : ReadRecords) : Type 0 where
  pub number : read.line ≡ first + line_count rs
  pub last_is : read.last.now ≡ last_name rs
  pub rise : read.rises ≡ true → Rising rs

-- why the records of a file that stays the same are not read
abbrev pub IsUnread : Kind → ℕ → List ℕ → Error → Type 0
IsUnread kind first text (Io error) = error ≢ NoMemory
IsUnread kind first text (Iter line) = StuckAt kind first text line
IsUnread kind first text Memory = Unit {0}
IsUnread kind first text HeaderParsing = ⊥
