-- A reader of files in memory, as a contract sees it.
use Rattle.std.specs.Prelude.{◌≡◌, ℕ, ◌+◌, ◌<◌, List, length, Result, Err, IfErr}
use Rattle.std.specs.declared.io.ErrorKind.TheVariants.{Other}
use Rattle.gix_ref_files.specs.Files.{FaultCounts, CountsCall, no_faults, one_more}
use Rattle.gix_ref_files.specs.FaultCounts.{counts_of}
use Rattle.gix_ref_files.specs.declared.files.FileError.{FileError}
use Rattle.gix_ref_files.specs.declared.files.FileError.TheVariants.{Device}
use Rattle.gix_ref_memory.specs.Memory.{calls_of, plan_of}
use Rattle.gix_ref_memory.specs.Turns.{turn_of}
use Rattle.gix_ref_memory.specs.declared.memory.Memory.{Memory}
use Rattle.gix_ref_memory.specs.declared.memory.reader.MemoryReader.{MemoryReader}
use Rattle.gix_ref_memory.specs.declared.memory.turns.Plan.{Plan}
use Rattle.gix_ref_memory.specs.declared.memory.turns.Turn.{Turn}
use Rattle.gix_ref_memory.specs.declared.memory.turns.Turn.TheVariants.{Go, Fail, Stop}

-- the bytes that it reads
abbrev pub reader_bytes : MemoryReader → List ℕ
reader_bytes reader = reader.bytes.items

-- the number of its last call, counted on from the files that it was opened in
abbrev pub reader_calls : MemoryReader → ℕ
reader_calls reader = reader.turns.calls

-- the faults of the reader's calls
abbrev pub reader_faults : MemoryReader → FaultCounts
reader_faults reader = counts_of reader.turns.faults

-- what is to happen to its calls
abbrev pub reader_plan : MemoryReader → Plan
reader_plan reader = reader.turns.plan

-- what its next call is to do
abbrev pub reader_turn : MemoryReader → Turn
reader_turn reader = turn_of (reader_plan reader) (one_more (reader_calls reader))

-- a reader that these files have just opened: it counts its calls on from theirs, by the same plan, and met no fault
pub record IsJustOpened (memory : Memory) (reader : MemoryReader) : Type 0 where
  pub calls : reader_calls reader ≡ calls_of memory
  pub plan : reader_plan reader ≡ plan_of memory
  pub faults : reader_faults reader ≡ no_faults

-- A read keeps to its turn: on one to go it fails only where it is too long, and on any other it fails as planned.
abbrev pub ReadKeepsTurn : {T : Type 0} → (too_long : Type 0) → Turn → Result T FileError → Type 0
ReadKeepsTurn too_long Go result = IfErr result (λ error. too_long)
ReadKeepsTurn too_long Fail result = result ≡ Err (Device Other)
ReadKeepsTurn too_long (Stop n) result = result ≡ Err (Device Other)

-- A read of so many bytes from a place on takes its turn.
pub record ReadTakesTurn {T : Type 0} (place count : ℕ) (old new : MemoryReader)
    (result : Result T FileError) : Type 0 where
  -- it is the next call, and the plan stays
  pub calls : reader_calls new ≡ one_more (reader_calls old)
  pub plan : reader_plan new ≡ reader_plan old
  -- its fault is counted, and is no lack of memory
  pub faults : CountsCall result (reader_faults old) (reader_faults new)
  -- it is too long where the bytes end before it does
  pub turn : ReadKeepsTurn (length (reader_bytes old) < place + count) (reader_turn old) result
