-- Files in memory, as a contract sees them.
use Rattle.std.specs.Prelude.{◌≡◌, ℕ, List, Result, IfErr}
use Rattle.gix_ref_files.specs.Tree.{Tree, no_tree}
use Rattle.gix_ref_files.specs.Losing.{all_synced}
use Rattle.gix_ref_files.specs.Files.{FaultCounts, Meaning, CountsCall, count_after, one_more, disk_of}
use Rattle.gix_ref_files.specs.FaultCounts.{counts_of}
use Rattle.gix_ref_files.specs.declared.files.FileError.{FileError}
use Rattle.gix_ref_memory.specs.Changes.{after_changes, meaning_after}
use Rattle.gix_ref_memory.specs.Turns.{turn_of, KeepsTurn, NeverFails, LacksMemory, AsBefore}
use Rattle.gix_ref_memory.specs.declared.memory.Memory.{Memory}
use Rattle.gix_ref_memory.specs.declared.memory.changes.Change.{Change}
use Rattle.gix_ref_memory.specs.declared.memory.turns.Plan.{Plan}
use Rattle.gix_ref_memory.specs.declared.memory.turns.Plan.TheVariants.{Runs}
use Rattle.gix_ref_memory.specs.declared.memory.turns.Turn.{Turn}

-- the disk, the clock, and what a stop or a loss of power could have found
abbrev pub meaning : Memory → Meaning
meaning memory = meaning_after memory.changes.items

-- the changes so far, of which the tree, the clock and the sets are functions
abbrev pub past_of : Memory → List Change
past_of memory = memory.changes.items

-- what is at each path
abbrev pub tree_in : Memory → Tree
tree_in memory = after_changes memory.changes.items no_tree

-- how many calls of files there were
abbrev pub calls_of : Memory → ℕ
calls_of memory = memory.turns.calls

-- the faults of these
abbrev pub faults_of : Memory → FaultCounts
faults_of memory = counts_of memory.turns.faults

-- what is to happen to the calls
abbrev pub plan_of : Memory → Plan
plan_of memory = memory.turns.plan

-- what the next call is to do
abbrev pub next_turn : Memory → Turn
next_turn memory = turn_of (plan_of memory) (one_more (calls_of memory))

-- A call that takes no allocator takes its turn: it goes, fails or stops as the plan says.
pub record TakesTurn {T : Type 0} (goes stops : FileError → Type 0) (parts : ℕ → Tree → Type 0)
    (old new : Memory) (result : Result T FileError) : Type 0 where
  -- it is the next call, and the plan stays
  pub calls : calls_of new ≡ one_more (calls_of old)
  pub plan : plan_of new ≡ plan_of old
  -- its fault is counted, and is no lack of memory
  pub faults : CountsCall result (faults_of old) (faults_of new)
  pub turn : KeepsTurn goes stops (next_turn old) result (tree_in old) (tree_in new) parts

-- A call that copies what is there takes its turn: on one to go it fails only for want of memory.
pub record TakesTurnToCopy {T : Type 0} (old new : Memory)
    (result : Result T FileError) : Type 0 where
  -- it is the next call, and the plan stays
  pub calls : calls_of new ≡ one_more (calls_of old)
  pub plan : plan_of new ≡ plan_of old
  -- its fault is counted
  pub faults : faults_of new ≡ count_after result (faults_of old)
  pub turn : KeepsTurn LacksMemory NeverFails (next_turn old) result (tree_in old) (tree_in new)
      (AsBefore (tree_in old))

-- no call is counted, and no fault
abbrev pub KeepsCounts : Memory → Memory → Type 0
KeepsCounts old new = (calls_of new ≡ calls_of old) × (faults_of new ≡ faults_of old)

-- all but the plan stays
abbrev pub KeepsFiles : Memory → Memory → Type 0
KeepsFiles old new = (past_of new ≡ past_of old) × (calls_of new ≡ calls_of old)
    × (faults_of new ≡ faults_of old)

-- it fails only for want of memory, and has then changed nothing
abbrev pub FailsOnlyForMemory : {T : Type 0} → Memory → Memory → Result T FileError → Type 0
FailsOnlyForMemory old new result =
    IfErr result (λ error. LacksMemory error × (past_of new ≡ past_of old))

-- files that were started again after a loss of power: all is synced, and no call fails
pub record IsStartedAgain (memory : Memory) : Type 0 where
  pub synced : disk_of (meaning memory) ≡ all_synced (tree_in memory)
  pub plan : plan_of memory ≡ Runs
