-- The records of a prefix, in a buffer that was read for it.
use Rattle.std.specs.Prelude.{◌≡◌, ℕ, List, [], Option, Some, None}
use Rattle.gix_ref_lookup.specs.Lookups.{IsOpenedText}
use Rattle.gix_ref_packed.specs.FilePrefixes.{HoldsAsked, HoldsPrefix}
use Rattle.gix_ref_packed_text.specs.Prefixes.{NamesAscend}
use Rattle.std.specs.declared.io.ErrorKind.TheVariants.{InvalidData}
use Rattle.gix_ref_hash.specs.declared.hash.Kind.{Kind}
use Rattle.gix_ref_target.specs.PackedRecords.{Record}
use Rattle.gix_ref_files.specs.declared.files.FileError.TheVariants.{Device}
use Rattle.gix_ref_packed.specs.Buffers.{HoldsRecords, buffer_kind, buffer_text}
use Rattle.gix_ref_packed.specs.declared.packed.buffer.Buffer.{Buffer}
use Rattle.gix_ref_packed.specs.declared.packed.buffer.open.Error.{Error}
use Rattle.gix_ref_packed.specs.declared.packed.buffer.open.Error.TheVariants.{Io, Memory}
use Rattle.gix_ref_packed.specs.declared.packed.sorted_file.ReadError.{ReadError}
use Rattle.gix_ref_packed.specs.declared.packed.sorted_file.ReadError.TheVariants as reading
use Rattle.gix_ref_listing.specs.WholeListings.{HoldsFor}

-- the buffer holds the records with this prefix of these; or there is no `packed-refs`, and none are
abbrev pub IsHeldFor : (prefix : List ℕ) → Option Buffer → List Record → Type 0
IsHeldFor prefix None records = records ≡ []
IsHeldFor prefix (Some buffer) records = HoldsFor (buffer_kind buffer) prefix records
    (buffer_text buffer)

-- the number of the first line of the text that is kept of a file
abbrev pub first_line : {kind of_kind : Kind} {file : Option (List ℕ)} {text : List ℕ} →
    IsOpenedText kind file of_kind text → ℕ
first_line opened = opened.2

-- Whatever its other lines are: the buffer has each record of the key that a text has which is kept of this file, where the names
-- of that ascend, and its lines are numbered as in the file; or there is no such file.
abbrev pub HoldsAskedOf : Kind → (file : Option (List ℕ)) → (key : List ℕ) → Option Buffer → Type 0
HoldsAskedOf kind file key None = file ≡ None
HoldsAskedOf kind file key (Some buffer) = (text : List ℕ)
    × (opened : IsOpenedText kind file kind text)
    × HoldsPrefix kind text (first_line opened) key buffer
    × (NamesAscend kind text → HoldsAsked kind text key (buffer_text buffer))

-- a buffer that holds all records holds those of each prefix
abbrev pub WholeBuffersHold : Type 0
WholeBuffersHold = (kind : Kind) (records : List Record) (text prefix : List ℕ) →
    HoldsRecords kind records text → HoldsFor kind prefix records text

-- the error of opening where a reading has this one; a file that changes while it is read is a fault of the device
abbrev pub of_part : ReadError → Error
of_part (reading.Io error) = Io error
of_part reading.Memory = Memory
of_part reading.Changed = Io (Device InvalidData)
