-- Reading, of the records of a file, only those of a prefix.
use Rattle.std.specs.Prelude.{◌≡◌, ◌<◌, ◌≤◌, ◌-◌, ◌⊎◌, ℕ, List, [], ◌∷◌, ◌++◌, take, drop}
use Rattle.gix_ref_hash.specs.declared.hash.Kind.{Kind}
use Rattle.gix_ref_hash.specs.Bytes.{StopsAt}
use Rattle.gix_ref_target.specs.PackedRecords.{Record}
use Rattle.gix_ref_packed_text.specs.RecordGrammar.{Records, Below, Rising, is_caret}
use Rattle.gix_ref_packed_text.specs.Positions.{RecordBeginsLine}
use Rattle.gix_ref_packed_text.specs.Prefixes.{IsListStart, IsNameStart, NamesAscend, records_prefixed}
use Rattle.gix_ref_packed.specs.declared.packed.buffer.Buffer.{Buffer}
use Rattle.gix_ref_packed.specs.declared.packed.sorted_file.ReadError.{ReadError}
use Rattle.gix_ref_packed.specs.declared.packed.sorted_file.ReadError.TheVariants.{Io, Memory, Changed}
use Rattle.gix_ref_packed.specs.Buffers.{buffer_text, buffer_kind, buffer_line}
use Rattle.gix_ref_files.specs.Files.{FaultCounts}
use Rattle.gix_ref_packed.specs.OpenFiles.{HasReadFault}
use Rattle.gix_ref_packed.specs.YetToGive.{IsAsked, IsBadLine}

-- each name that begins with the prefix is below this one
abbrev pub IsPast : List ℕ → List ℕ → Type 0
IsPast prefix past = (rest : List ℕ) → Below (prefix ++ rest) past

-- a prefix whose names no name of its own length is past
abbrev pub HasNoNext : List ℕ → Type 0
HasNoNext prefix = (prefix ≡ []) ⊎ ((front : List ℕ) × (prefix ≡ front ++ 255 ∷ []))

-- a text is records whose names do not descend, and of the prefix they are the same as these
pub record HoldsPrefixed (kind : Kind) (prefix : List ℕ) (rs : List Record)
    (part : List ℕ) : Type 0 where
  pub held : List Record
  pub records : Records kind part held
  pub rises : Rising held
  pub kept : records_prefixed prefix held ≡ records_prefixed prefix rs

-- the lines of a text from one place up to another have all records of the prefix
pub record Encloses (kind : Kind) (text prefix : List ℕ) (start end : ℕ) : Type 0 where
  pub begins : IsListStart text start
  pub ends : IsListStart text end
  pub no_caret : StopsAt is_caret (drop end text)
  pub ordered : start ≤ end
  pub records : (rs : List Record) → Records kind text rs → Rising rs →
      HoldsPrefixed kind prefix rs (take (end - start) (drop start text))

-- these are such lines
pub record IsPrefixPart (kind : Kind) (text prefix part : List ℕ) : Type 0 where
  pub start : ℕ
  pub end : ℕ
  pub encloses : Encloses kind text prefix start end
  pub is : part ≡ take (end - start) (drop start text)

-- The records and the bad lines of the buffer are those of the text, a line with its number in the file.
pub record HasItemsOf (kind : Kind) (text : List ℕ) (line : ℕ) (b : Buffer) : Type 0 where
  pub records : (r : Record) → RecordBeginsLine (buffer_kind b) (buffer_text b) r →
      RecordBeginsLine kind text r
  pub bad_lines : (bytes : List ℕ) (number : ℕ) →
      IsBadLine (buffer_kind b) (buffer_text b) (buffer_line b) bytes number →
      IsBadLine kind text line bytes number

-- The buffer has all records of the prefix, for `iter_prefixed` of that prefix, and no other items than the text.
pub record HoldsPrefix (kind : Kind) (text : List ℕ) (line : ℕ) (prefix : List ℕ)
    (b : Buffer) : Type 0 where
  pub kind_is : buffer_kind b ≡ kind
  pub part : IsPrefixPart kind text prefix (buffer_text b)
  pub items : HasItemsOf kind text line b

-- such a buffer holds the records of the prefix
abbrev pub PrefixedBuffersHold : Type 0
PrefixedBuffersHold =
    (kind : Kind) (text : List ℕ) (line : ℕ) (prefix : List ℕ) (b : Buffer) (rs : List Record) →
    HoldsPrefix kind text line prefix b → Records kind text rs → Rising rs
    → HoldsPrefixed (buffer_kind b) prefix rs (buffer_text b)

-- why a file cannot be read: `Io` where a read of it failed
abbrev pub FailsReadBy : {R : Type 0} → (R → FaultCounts) → ReadError → Type 0
FailsReadBy faults (Io error) = HasReadFault faults error
FailsReadBy faults Memory = Unit {0}
FailsReadBy faults Changed = Unit {0}

-- The lines of a text from one place up to another have each name of the prefix, whatever the lines are.
pub record EnclosesAsked (kind : Kind) (text prefix : List ℕ) (start end : ℕ) : Type 0 where
  pub begins : IsListStart text start
  pub ends : IsNameStart kind text end
  pub ordered : start ≤ end
  pub asked : (name : List ℕ) (asked : IsAsked kind text prefix name) →
      (start ≤ asked.0.0) × (asked.0.0 < end)

-- a text has each line with a name of the prefix that another one has, and its names ascend
abbrev pub HoldsAsked : Kind → (text prefix part : List ℕ) → Type 0
HoldsAsked kind text prefix part = NamesAscend kind part
    × ((name : List ℕ) → IsAsked kind text prefix name → IsAsked kind part prefix name)

-- so the buffer
abbrev pub BufferHoldsAsked : Kind → (text prefix : List ℕ) → Buffer → Type 0
BufferHoldsAsked kind text prefix b = HoldsAsked kind text prefix (buffer_text b)
