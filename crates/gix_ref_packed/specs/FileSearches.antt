-- What a search in a file returns.
use Rattle.std.specs.Prelude.{◌≢◌, ℕ, List, Option, Result, Ok, Err, IfOk, IfErr, IfSome, IfNone, MatchResult}
use Rattle.gix_ref_hash.specs.declared.hash.Kind.{Kind}
use Rattle.gix_ref_files.specs.Files.{FaultCounts, count_with}
use Rattle.gix_ref_files.specs.declared.files.FileError.TheVariants.{Memory as NoMemory}
use Rattle.gix_ref_target.specs.PackedRecords.{Record, record_named}
use Rattle.gix_ref_packed_text.specs.RecordGrammar.{Records, Forms, Ascending}
use Rattle.gix_ref_packed_text.specs.Positions.{IsNotMalformed, CannotRead, IsUnreadable}
use Rattle.gix_ref_packed_text.specs.Windows.{AreFound, HitsRecord}
use Rattle.gix_ref_packed_text.specs.declared.packed.window.Found.{Found}
use Rattle.gix_ref_packed.specs.declared.packed.sorted_file.ReadError.{ReadError}
use Rattle.gix_ref_packed.specs.declared.packed.sorted_file.ReadError.TheVariants.{Io, Memory, Changed}
use Rattle.gix_ref_packed.specs.declared.packed.sorted_file.FindError.{FindError}
use Rattle.gix_ref_packed.specs.declared.packed.sorted_file.FindError.TheVariants.{Read, Parse}

-- the device failed, or there was no memory: nothing else befalls a file that stays the same
abbrev pub IsNoChange : ReadError → Type 0
IsNoChange (Io error) = error ≢ NoMemory
IsNoChange Memory = Unit {0}
IsNoChange Changed = ⊥

-- why a record is not found on any text of a file that stays the same
abbrev pub FailsInFile : Kind → List ℕ → List ℕ → FindError → Type 0
FailsInFile kind text name (Read error) = IsNoChange error
FailsInFile kind text name Parse = CannotRead kind text name

-- the file could not be read
abbrev pub IsReadFault : FindError → Type 0
IsReadFault (Read error) = Unit {0}
IsReadFault Parse = ⊥

-- the file could not be read, or the record of the name cannot be read
abbrev pub IsFaultOr : Type 0 → FindError → Type 0
IsFaultOr unreadable (Read error) = Unit {0}
IsFaultOr unreadable Parse = unreadable

-- What a search for one full name in a file returns.
pub record FindsInFile (kind : Kind) (text name : List ℕ)
    (result : Result (Option Found) FindError) : Type 0 where
  -- on any text a hit is a record of that name at the start of a line
  pub hit : IfOk result (λ found. IfSome found (HitsRecord kind text name))
  -- a text of malformed lines alone is never taken for one without the name
  pub none : IfOk result (λ found. IfNone found (IsNotMalformed kind text))
  -- why it fails on any text
  pub refused : IfErr result (FailsInFile kind text name)
  -- among ascending records it is the record of the name, or `None` where no record has it
  pub records : (rs : List Record) → Records kind text rs → Ascending rs →
      MatchResult result (AreFound (record_named name rs)) IsReadFault
  -- so it is where ids and names are not checked, except for a record of the name that cannot be read
  pub forms : (rs : List Record) → Forms kind text rs → Ascending rs →
      MatchResult result (AreFound (record_named name rs))
      (IsFaultOr (IsUnreadable kind (record_named name rs)))

-- the count of a reader's faults after the source could not be looked at: one more where the file could not be read
abbrev pub count_read : ReadError → FaultCounts → FaultCounts
count_read (Io error) n = count_with error n
count_read Memory n = n
count_read Changed n = n

-- after a part of a file was read
abbrev pub count_part : {A : Type 0} → Result A ReadError → FaultCounts → FaultCounts
count_part (Ok part) n = n
count_part (Err error) n = count_read error n

-- and after a record was sought
abbrev pub count_found : Result (Option Found) FindError → FaultCounts → FaultCounts
count_found (Ok found) n = n
count_found (Err (Read error)) n = count_read error n
count_found (Err Parse) n = n
