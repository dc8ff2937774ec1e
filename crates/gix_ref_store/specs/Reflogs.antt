-- What the calls of a store return for reflogs (`git reflog`).
use Rattle.std.specs.Prelude.{◌≡◌, ℕ, List, Bool, true, false, Option, Some, None}
use Rattle.std.specs.Iterator.Runs.{EachRunFrom}
use Rattle.gix_ref_files.specs.Files.{Meaning, FaultCounts}
use Rattle.gix_ref_files.specs.Tree.{Content, is_file, bytes_of}
use Rattle.gix_ref_files.specs.declared.files.ReadAt.{Ghosts}
use Rattle.gix_ref_log.specs.LogCuts.{log_lines}
use Rattle.gix_ref_log.specs.LogForward.{ForwardStep}
use Rattle.gix_ref_log.specs.LogItems.{IsRun, IsLentRun, IsForwardRun, EndsAtError, items_from}
use Rattle.gix_ref_log.specs.LogWindows.{NextStep, NextRefStep}
use Rattle.gix_ref_log.specs.declared.log.iter.backward.Reverse.{Reverse}
use Rattle.gix_ref_log.specs.declared.log.iter.forwards.Forward.{Forward}
use Rattle.gix_ref_lookup.specs.Reflogs as reflogs
use Rattle.gix_ref_lookup.specs.declared.reflog.error.Error.{Error}
use Rattle.gix_ref_lookup.specs.declared.reflog.error.Error.TheVariants.{EmptyBuffer}
use Rattle.gix_ref_store.specs.Store as stores
use Rattle.gix_ref_store.specs.Lookup.{LooksUp, settings_of}
use Rattle.gix_ref_store.specs.declared.file.store.Store.{Store}

-- what is at the path of the log of a name; the name has a log where that is a file
abbrev pub reflog_at : {F : Type 0} → (F → Meaning) → Store F → List ℕ → Option Content
reflog_at means store name = (means (stores.files_of store)).tree
    ((stores.meaning_of store).log name)

-- that path has the name of a device, and the store prohibits these
abbrev pub is_log_prohibited : {F : Type 0} → Store F → List ℕ → Bool
is_log_prohibited store name = (stores.meaning_of store).is_prohibited
    ((stores.meaning_of store).log name)

-- oldest first: each run gives the lines of the log; or there is none
abbrev pub ReadsForward : Option Content → Option Forward → Type 0
ReadsForward content None = is_file content ≡ false
ReadsForward content (Some lines) =
    (is_file content ≡ true) × EachRunFrom ForwardStep lines
    (λ run. IsForwardRun (run.whole ≡ true) 1 (log_lines (bytes_of content)) run.items)

-- why it is not read
abbrev pub IsNoReflog : {F : Type 0} → Store F → List ℕ → Error → Type 0
IsNoReflog store name error = reflogs.IsNoLog (settings_of store) name error

-- Why a platform does not read it, and that the store which is left has counted it, and has not changed otherwise.
pub record LeavesNoReflog {F : Type 0} (honest : Type 0) (means : F → Meaning)
    (faults : F → FaultCounts) (old : Store F) (name : List ℕ) (error : Error) : Type 0 where
  pub why : IsNoReflog old name error
  pub left : Store F
  pub looks_up : LooksUp honest means old left
  pub counts : faults (stores.files_of left) ≡ reflogs.count_by error (faults (stores.files_of old))

-- why it is not read from its end: so, or there is a log and the buffer has no byte
abbrev pub IsNoReverse : {F : Type 0} → (honest : Type 0) → Option Content → (room : ℕ) → Store F →
    List ℕ → Error → Type 0
IsNoReverse honest content room store name EmptyBuffer = (room ≡ 0)
    × (honest → is_file content ≡ true)
IsNoReverse honest content room store name other = IsNoReflog store name other

-- newest first: each run of `next` gives the items for which a buffer of this length has room, or a beginning of them and
-- one fault of reading or of memory, and each of `next_ref` the same, lent, and never a fault of memory; or there is no log
abbrev pub ReadsBackward : {R : Type 0} (G : Ghosts R) → Option Content → (room : ℕ) →
    Option (Reverse R) → Type 0
ReadsBackward G content room None = is_file content ≡ false
ReadsBackward G content room (Some lines) = (is_file content ≡ true)
    × EachRunFrom (NextStep G.honest G.bytes G.faults) lines
    (λ run. IsRun (run.whole ≡ true) (items_from room 1 (bytes_of content)) run.items)
    × EachRunFrom (NextRefStep G.honest G.bytes G.faults) lines
    (λ run. IsLentRun (run.whole ≡ true) (items_from room 1 (bytes_of content)) run.items)

-- nothing follows an error but a decode fault
abbrev pub EndsAtErrors : {R : Type 0} (G : Ghosts R) → Option (Reverse R) → Type 0
EndsAtErrors G None = Unit {0}
EndsAtErrors G (Some lines) = EachRunFrom (NextStep G.honest G.bytes G.faults) lines
    (λ run. EndsAtError run.items)
    × EachRunFrom (NextRefStep G.honest G.bytes G.faults) lines (λ run. EndsAtError run.items)
