-- A `packed-refs` that is searched where it is.
use Rattle.std.specs.Prelude.{◌≡◌, ◌⊎◌, ℕ, List, drop, Option}
use Rattle.gix_ref_files.specs.declared.files.ReadAt.{Ghosts}
use Rattle.gix_ref_files.specs.Files.{FaultCounts, count_with}
use Rattle.gix_ref_files.specs.declared.files.FileError.{FileError}
use Rattle.gix_ref_hash.specs.declared.hash.Kind.{Kind}
use Rattle.gix_ref_packed.specs.declared.packed.sorted_file.SortedFile.{SortedFile}
use Rattle.gix_ref_packed.specs.declared.packed.file.PackedFile.{PackedFile}
use Rattle.gix_ref_packed.specs.declared.packed.file.PackedFile.TheVariants.{InFile, Unsorted}
use Rattle.gix_ref_target.specs.PackedRecords.{Record}
use Rattle.gix_ref_packed_text.specs.declared.packed.decode.options.Header.{Header}
use Rattle.gix_ref_packed.specs.declared.packed.buffer.open.Error.{Error}
use Rattle.gix_ref_packed.specs.declared.packed.buffer.open.Error.TheVariants.{Iter, HeaderParsing, Io, Memory}
use Rattle.gix_ref_packed.specs.declared.packed.sorted_file.FindError.{FindError}
use Rattle.gix_ref_packed.specs.declared.packed.sorted_file.FindError.TheVariants.{Read, Parse}
use Rattle.gix_ref_packed.specs.declared.packed.sorted_file.ReadError.TheVariants as reading
use Rattle.gix_ref_packed_text.specs.OpenedText.{OpensTo, IsWellFormed, line_behind}
use Rattle.gix_ref_packed.specs.Buffers.{HoldsRecords}
use Rattle.gix_ref_packed.specs.Unsorted.{unsorted_kind, unsorted_line, unsorted_text}

-- the records in a file, without the header
abbrev pub sorted_file_text : {R : Type 0} {G : Ghosts R} → SortedFile R G → List ℕ
sorted_file_text {R} {G} s = drop s.base (G.bytes s.reader)

-- the same file as before: its bytes and its size, and where its records begin
abbrev pub IsSameFile : {R : Type 0} {G : Ghosts R} → SortedFile R G → SortedFile R G → Type 0
IsSameFile {R} {G} old now = (G.bytes now.reader ≡ G.bytes old.reader) × (now.base ≡ old.base)
    × (G.size now.reader ≡ G.size old.reader)

-- the records that are searched
abbrev pub packed_file_text : {R : Type 0} {G : Ghosts R} → PackedFile R G → List ℕ
packed_file_text (InFile source kind header) = sorted_file_text source
packed_file_text (Unsorted records) = unsorted_text records

abbrev pub packed_file_kind : {R : Type 0} {G : Ghosts R} → PackedFile R G → Kind
packed_file_kind (InFile source kind header) = kind
packed_file_kind (Unsorted records) = unsorted_kind records

-- the number of the records' first line in the file
abbrev pub packed_file_line : {R : Type 0} {G : Ghosts R} → PackedFile R G → ℕ
packed_file_line (InFile source kind header) = line_behind header
packed_file_line (Unsorted records) = unsorted_line records

-- the same records as before, of the same kind, and their lines have the same numbers
abbrev pub HasSameRecords : {R : Type 0} {G : Ghosts R} → PackedFile R G → PackedFile R G → Type 0
HasSameRecords old now = (packed_file_text now ≡ packed_file_text old)
    × (packed_file_kind now ≡ packed_file_kind old)
    × (packed_file_line now ≡ packed_file_line old)

-- the faults that were met in reading it
abbrev pub packed_file_faults : {R : Type 0} {G : Ghosts R} → PackedFile R G → FaultCounts
packed_file_faults {R} {G} (InFile source kind header) = G.faults source.reader
packed_file_faults {R} {G} (Unsorted records) = G.faults records.reader

-- the file with these bytes is open for searches: of all its records where the header says sorted, else of the sorted ones
pub record OpenedFile {R : Type 0} {G : Ghosts R} (kind : Kind) (bytes : List ℕ)
    (p : PackedFile R G) : Type 0 where
  pub kind_is : packed_file_kind p ≡ kind
  pub line : ℕ
  pub line_is : line ≡ packed_file_line p
  pub opens : OpensTo kind bytes (packed_file_text p) line

-- where it is open on a well-formed text, it holds the records of that
abbrev pub OpenedFileHoldsRecords : {R : Type 0} {G : Ghosts R} → PackedFile R G → Type 0
OpenedFileHoldsRecords p =
    (kind : Kind) (text : List ℕ) (h : Option Header) (rs : List Record) →
    IsWellFormed kind text h rs → OpenedFile kind text p →
    HoldsRecords kind rs (packed_file_text p)

-- a read of some reader failed with this fault, which it counts
abbrev pub HasReadFault : {R : Type 0} → (R → FaultCounts) → FileError → Type 0
HasReadFault {R} faults error = (before : R) × (now : R)
    × (faults now ≡ count_with error (faults before))

-- why an opened file is refused: `Io` where a read of it failed
abbrev pub FailsByRead : {R : Type 0} → (R → FaultCounts) → Error → Type 0
FailsByRead faults (Io error) = HasReadFault faults error
FailsByRead faults HeaderParsing = Unit {0}
FailsByRead faults (Iter line) = Unit {0}
FailsByRead faults Memory = Unit {0}

-- why a record is not found in an opened file: `Read` of `Io` where a read of it failed
abbrev pub FailsFindByRead : {R : Type 0} → (R → FaultCounts) → FindError → Type 0
FailsFindByRead faults (Read (reading.Io error)) = HasReadFault faults error
FailsFindByRead faults (Read reading.Memory) = Unit {0}
FailsFindByRead faults (Read reading.Changed) = Unit {0}
FailsFindByRead faults Parse = Unit {0}

-- the count of the files' faults before and after a file was refused: one more, for `Io` alone, or a read of the opened file
-- failed, and the files count none
abbrev pub CountsRefusal : {R : Type 0} → (R → FaultCounts) → FaultCounts → FaultCounts → Error →
    Type 0
CountsRefusal faults before now (Io error) = (now ≡ count_with error before)
    ⊎ ((now ≡ before) × HasReadFault faults error)
CountsRefusal faults before now HeaderParsing = now ≡ before
CountsRefusal faults before now (Iter line) = now ≡ before
CountsRefusal faults before now Memory = now ≡ before
