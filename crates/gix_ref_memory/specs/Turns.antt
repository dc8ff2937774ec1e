-- Which call of files in memory fails or stops, and what it does first.
use Rattle.std.specs.Prelude.{◌≡◌, ◌⊎◌, ℕ, zero, suc, ◌==◌, nat_lt, if◌then◌else◌, false, None, Result, Err, IfErr, IsErrAnd}
use Rattle.std.specs.declared.io.ErrorKind.TheVariants.{Other, NotFound, OutOfMemory}
use Rattle.gix_ref_files.specs.Tree.{Tree, Path, is_blocked, has_folders}
use Rattle.gix_ref_files.specs.Calls.{IsMovable}
use Rattle.gix_ref_files.specs.declared.files.FileError.{FileError}
use Rattle.gix_ref_files.specs.declared.files.FileError.TheVariants.{Device, Memory}
use Rattle.gix_ref_memory.specs.declared.memory.turns.Plan.{Plan}
use Rattle.gix_ref_memory.specs.declared.memory.turns.Plan.TheVariants.{Runs, FailsAt, StopsAt}
use Rattle.gix_ref_memory.specs.declared.memory.turns.Turn.{Turn}
use Rattle.gix_ref_memory.specs.declared.memory.turns.Turn.TheVariants.{Go, Fail, Stop}

-- what the call with this number is to do
abbrev pub turn_of : Plan → ℕ → Turn
turn_of Runs call = Go
turn_of (FailsAt at) call = if call == at then Fail else Go
turn_of (StopsAt at parts) call = if nat_lt call at then Go else if call == at
    then Stop parts else Fail

-- Why a call fails that is not to fail.

-- it never does
abbrev pub NeverFails : FileError → Type 0
NeverFails error = ⊥

-- a copy of bytes found no memory
abbrev pub LacksMemory : FileError → Type 0
LacksMemory error = error ≡ Memory

-- a growth of the tree or of its record found no memory
abbrev pub CannotGrow : FileError → Type 0
CannotGrow error = error ≡ Device OutOfMemory

-- or there is no result: nothing is at the path, no file is on the way there, and a folder is missing
pub record HasNoWay (T : Tree) (p : Path) : Type 0 where
  pub nothing : T p ≡ None
  pub not_blocked : is_blocked T p ≡ false
  pub missing : has_folders T p ≡ false

abbrev pub CannotCreate : Tree → Path → FileError → Type 0
CannotCreate T p error = CannotGrow error ⊎ ((error ≡ Device NotFound) × HasNoWay T p)

-- or the file cannot be moved
abbrev pub CannotRename : Tree → Path → Path → FileError → Type 0
CannotRename T from to error = CannotGrow error
    ⊎ ((error ≡ Device NotFound) × (IsMovable T from to → ⊥))

-- A call keeps to its turn. On a turn to go it fails only for the reasons `goes`. A planned fault is one of the kind `Other`.
-- A call that is to stop does its parts first and fails with that; it may fail for the reasons `stops` before that.
abbrev pub KeepsTurn : {T : Type 0} → (goes stops : FileError → Type 0) → Turn →
    Result T FileError → Tree → Tree → (ℕ → Tree → Type 0) → Type 0
KeepsTurn goes stops Go result before now parts = IfErr result goes
KeepsTurn goes stops Fail result before now parts = (result ≡ Err (Device Other)) × (now ≡ before)
KeepsTurn goes stops (Stop n) result before now parts =
    IsErrAnd result (λ error. ((error ≡ Device Other) × parts n now) ⊎ stops error)

-- the change is made where it can be
abbrev pub IsDone : Tree → Type 0 → Tree → Tree → Type 0
IsDone before Allowed after T = (Allowed × (T ≡ after)) ⊎ ((Allowed → ⊥) × (T ≡ before))

-- a call of a single step does all of it where n is not 0, and nothing where it is
abbrev pub InOneStep : Tree → Type 0 → Tree → ℕ → Tree → Type 0
InOneStep before Allowed after zero T = T ≡ before
InOneStep before Allowed after (suc n) T = IsDone before Allowed after T

-- a call that changes nothing
abbrev pub AsBefore : Tree → ℕ → Tree → Type 0
AsBefore before n T = T ≡ before
