-- What becomes of a script: a transaction for each line, one after the other.
use Rattle.std.specs.Prelude.{◌≡◌, ◌⊎◌, ℕ, List, [], ◌∷◌, ◌++◌, Option, Result, IfOk}
use Rattle.gix_ref_files.specs.declared.files.FileError.{FileError}
use Rattle.std.specs.Io.KnownBytes.{Appends}
use Rattle.std.specs.List.{flat_map}
use Rattle.gix_ref_files.specs.Files.{Meaning, FaultCounts}
use Rattle.gix_ref_files.specs.Tree.{Path, Tree}
use Rattle.gix_ref_theory.specs.Sequences.{AreDone, EndsAtStep, IsWithinSteps}
use Rattle.gix_ref_store.specs.Prepared.{tree_of}
use Rattle.gix_ref_store.specs.Store.{files_of}
use Rattle.gix_ref_store.specs.declared.file.store.Store.{Store}
use Rattle.gix_ref_program.specs.Outcomes.{printed, status_of}
use Rattle.gix_ref_program.specs.ScriptLines.{AsksFor}
use Rattle.gix_ref_program.specs.Words.{Asked}
use Rattle.gix_ref_program.specs.Writes.{IsKept, IsMade, IsRefused, IsWriteLoss, IsWriteStop, IsWritten, Terms, WriteComes}
use Rattle.gix_ref_program.specs.declared.outcome.Outcome.{Outcome}
use Rattle.gix_ref_program.specs.declared.outcome.Outcome.TheVariants as outcomes
use Rattle.gix_ref_program.specs.declared.refusal.Refusal.{Refusal}
use Rattle.gix_ref_program.specs.declared.refusal.Refusal.TheVariants as refusals

-- How a script ends: each line was made; one was refused; or the writer failed after a line was made.
pub data ScriptEnd : Type 0 where
  AllMade : ScriptEnd
  OneRefused : ScriptEnd
  Unsaid : ScriptEnd

-- all that was to be said of a script was said
abbrev pub IsSaid : ScriptEnd → Type 0
IsSaid AllMade = Unit {0}
IsSaid OneRefused = Unit {0}
IsSaid Unsaid = ⊥

-- its status: 0 where each line was made
abbrev pub script_status : ScriptEnd → ℕ
script_status AllMade = 0
script_status OneRefused = 1
script_status Unsaid = 1

-- A script on its way: the store, and the outcomes of its lines so far.
pub record Way (F : Type 0) : Type 0 where
  pub store : Store F
  pub said : List Outcome

-- why a line is not begun: it is no list of commands that write; or there was no memory for them
abbrev pub IsNoLine : (line : List ℕ) → Refusal → Type 0
IsNoLine line refusals.WrongLine = (asked : List Asked) → AsksFor line asked → ⊥
IsNoLine line refusals.Memory = Unit {0}
IsNoLine line refusal = ⊥

module _ {F : Type 0} (honest : Type 0) (means : F → Meaning) (faults : F → FaultCounts)
    (terms : Terms) where
  -- a line was made: the transaction of what it asks for was, and some locks may stay
  abbrev pub LineMade : (line : List ℕ) → (old new : Store F) → Type 0
  LineMade line old new = (asked : List Asked) × AsksFor line asked
      × ((left : List Path) × IsWritten honest means faults terms asked old new left)

  -- A stop in a line leaves this tree: the one before, or what a stop in its transaction leaves.
  abbrev pub IsLineStop : Tree → (line : List ℕ) → Store F → Type 0
  IsLineStop T line old = (T ≡ tree_of means old)
      ⊎ ((asked : List Asked) × AsksFor line asked
      × IsWriteStop honest means faults terms asked old T)

  -- A loss of power in a line leaves this tree: each file that was settled is as before, or it is what a loss in its transaction
  -- leaves.
  abbrev pub IsLineLoss : Tree → (line : List ℕ) → Store F → Type 0
  IsLineLoss T line old = IsKept means (files_of old) T
      ⊎ ((asked : List Asked) × AsksFor line asked
      × IsWriteLoss honest means faults terms asked old T)

  -- A stop in a script of these lines: stores S0, .., Sk, of which each is made of the one before by the next line; and the tree is
  -- left by a stop in the line that follows, or is that of Sk, where none follows.
  abbrev pub IsScriptStop : (lines : List (List ℕ)) → Store F → Tree → Type 0
  IsScriptStop lines old T = IsWithinSteps LineMade (λ s. T ≡ tree_of means s)
      (IsLineStop T) lines old

  -- and a loss of power
  abbrev pub IsScriptLoss : (lines : List (List ℕ)) → Store F → Tree → Type 0
  IsScriptLoss lines old T = IsWithinSteps LineMade (λ s. IsKept means (files_of s) T)
      (IsLineLoss T) lines old

module _ {F : Type 0} (honest : Type 0) (read : FileError → Type 0) (means : F → Meaning)
    (faults : F → FaultCounts) (terms : Terms) where
  -- a line that is not begun
  abbrev pub NotALine : (line : List ℕ) → (old new : Store F) → Outcome → Type 0
  NotALine line old new (outcomes.Refused refusal locks) = IsNoLine line refusal × (new ≡ old)
      × (locks.items ≡ [])
  NotALine line old new outcome = ⊥

  -- what becomes of a line: its transaction, or it is not begun
  abbrev pub LineComes : (line : List ℕ) → (old new : Store F) → Outcome → Type 0
  LineComes line old new outcome =
      ((asked : List Asked) × AsksFor line asked
      × WriteComes honest read means faults terms asked old new outcome)
      ⊎ NotALine line old new outcome

  -- a line is made on the way, or refused
  abbrev pub MadeOnWay : (line : List ℕ) → Way F → Way F → Type 0
  MadeOnWay line s t = (outcome : Outcome) × LineComes line s.store t.store outcome
      × IsMade outcome × (t.said ≡ s.said ++ outcome ∷ [])

  abbrev pub RefusedOnWay : (line : List ℕ) → Way F → Way F → Type 0
  RefusedOnWay line s t = (outcome : Outcome) × LineComes line s.store t.store outcome
      × IsRefused outcome × (t.said ≡ s.said ++ outcome ∷ [])

  -- what becomes of a script of these lines
  abbrev pub ScriptEnds : ScriptEnd → (lines : List (List ℕ)) → (old new : Way F) → Type 0
  ScriptEnds AllMade lines old new = AreDone MadeOnWay lines old new
  ScriptEnds OneRefused lines old new = EndsAtStep MadeOnWay RefusedOnWay lines old new
  ScriptEnds Unsaid lines old new = (done rest : List (List ℕ)) × (lines ≡ done ++ rest)
      × AreDone MadeOnWay done old new

  -- the outcome of a line, and what is printed of it unless the writer fails: all of it, and its status
  pub record LinePrints {E : Type 0} (line : List ℕ) (old new : Store F) (out now : Option (List ℕ))
      (status : Result ℕ E) : Type 0 where
    pub outcome : Outcome
    pub comes : LineComes line old new outcome
    pub prints : IfOk status (λ s. (s ≡ status_of outcome) × Appends out now (printed outcome))

  -- and that of a script
  pub record ScriptPrints {E : Type 0} (lines : List (List ℕ)) (old new : Store F)
      (out now : Option (List ℕ)) (status : Result ℕ E) : Type 0 where
    pub end : ScriptEnd
    pub said : List Outcome
    pub ends : ScriptEnds end lines (record { store = old; said = [] })
        (record { store = new; said = said })
    pub prints : IfOk status (λ s. IsSaid end × (s ≡ script_status end)
        × Appends out now (flat_map printed said))
