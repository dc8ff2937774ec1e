-- What an opened buffer holds, and why a text is not opened. Clauses speak of a buffer through these words.
use Rattle.std.specs.Prelude.{◌≡◌, ◌≢◌, ℕ, List, drop, Option, Result, Ok, Err}
use Rattle.gix_ref_files.specs.Tree.{Content, bytes_of}
use Rattle.gix_ref_files.specs.Files.{FaultCounts, count_with}
use Rattle.gix_ref_files.specs.declared.files.FileError.TheVariants.{Memory as NoMemory}
use Rattle.gix_ref_hash.specs.declared.hash.Kind.{Kind}
use Rattle.gix_ref_packed.specs.declared.packed.buffer.Buffer.{Buffer}
use Rattle.gix_ref_packed.specs.declared.packed.buffer.open.Error.{Error}
use Rattle.gix_ref_packed.specs.declared.packed.buffer.open.Error.TheVariants.{Iter, HeaderParsing, Io, Memory}
use Rattle.gix_ref_packed_text.specs.OpenedText.{OpensTo, NoHeader, HasBadLine, StuckAt, IsWellFormed}
use Rattle.gix_ref_target.specs.PackedRecords.{Record, record_named}
use Rattle.gix_ref_packed_text.specs.RecordGrammar.{Records, Ascending}
use Rattle.gix_ref_packed_text.specs.declared.packed.decode.options.Header.{Header}
use Rattle.std.specs.List.Sorted.{IsPermutation}

-- the records, without the header
abbrev pub buffer_text : Buffer → List ℕ
buffer_text b = drop b.start b.bytes.items

abbrev pub buffer_kind : Buffer → Kind
buffer_kind b = b.kind

-- the number of the first line of the records in the file
abbrev pub buffer_line : Buffer → ℕ
buffer_line b = b.first_line

-- the buffer is that of this text
pub record Opened (kind : Kind) (text : List ℕ) (b : Buffer) : Type 0 where
  pub kind_is : buffer_kind b ≡ kind
  pub opens : OpensTo kind text (buffer_text b) (buffer_line b)

-- why this text is not opened
abbrev pub IsRefusedText : Kind → List ℕ → Error → Type 0
IsRefusedText kind text HeaderParsing = NoHeader text
IsRefusedText kind text (Iter line) = HasBadLine kind text line
IsRefusedText kind text Memory = Unit {0}
IsRefusedText kind text (Io error) = ⊥

-- why these records cannot be sorted
abbrev pub IsStuck : Kind → ℕ → List ℕ → Error → Type 0
IsStuck kind first text (Iter line) = StuckAt kind first text line
IsStuck kind first text Memory = Unit {0}
IsStuck kind first text HeaderParsing = ⊥
IsStuck kind first text (Io error) = ⊥

-- why a file with these bytes is not opened
abbrev pub IsRefusedBytes : Kind → List ℕ → Error → Type 0
IsRefusedBytes kind bytes (Io error) = error ≢ NoMemory
IsRefusedBytes kind bytes HeaderParsing = IsRefusedText kind bytes HeaderParsing
IsRefusedBytes kind bytes (Iter line) = IsRefusedText kind bytes (Iter line)
IsRefusedBytes kind bytes Memory = Unit {0}

-- why the file at a path is not opened
abbrev pub IsRefusedFile : Kind → Option Content → Error → Type 0
IsRefusedFile kind content error = IsRefusedBytes kind (bytes_of content) error

-- the faults that are counted after opening: one more where the file could not be read
abbrev pub count_open : Result (Option Buffer) Error → FaultCounts → FaultCounts
count_open (Ok found) n = n
count_open (Err (Io error)) n = count_with error n
count_open (Err HeaderParsing) n = n
count_open (Err (Iter line)) n = n
count_open (Err Memory) n = n

-- a text holds these records in the order of their names, each found by its name
pub record HoldsRecords (kind : Kind) (rs : List Record) (text : List ℕ) : Type 0 where
  pub held : List Record
  pub moved : IsPermutation rs held
  pub records : Records kind text held
  pub ascending : Ascending held
  pub named : (n : List ℕ) → record_named n held ≡ record_named n rs

-- an opened buffer of a well-formed text holds its records
abbrev pub OpenedHoldsRecords : Type 0
OpenedHoldsRecords =
    (kind : Kind) (text : List ℕ) (h : Option Header) (rs : List Record) (b : Buffer) →
    IsWellFormed kind text h rs → Opened kind text b →
    HoldsRecords kind rs (buffer_text b)
