-- What becomes of commands that write: one transaction of all that they ask for (`git update-ref --stdin`).
use Rattle.std.specs.Prelude.{◌≡◌, ◌⊎◌, ℕ, List, [], Option}
use Rattle.gix_ref_files.specs.declared.files.FileError.{FileError}
use Rattle.gix_ref_hash.specs.declared.hash.Kind.{Kind}
use Rattle.gix_ref_files.specs.Files.{Meaning, disk_of, FaultCounts}
use Rattle.gix_ref_files.specs.Settled.{IsSettledAt}
use Rattle.gix_ref_files.specs.Tree.{Path, Tree}
use Rattle.gix_ref_edits.specs.declared.transaction.RefEdit.{RefEdit}
use Rattle.gix_ref_log.specs.declared.actor.SignatureRef.{SignatureRef}
use Rattle.gix_ref_object.specs.declared.object.Never.{Never}
use Rattle.gix_ref_theory.specs.OnRealTrees.{view_of}
use Rattle.gix_ref_transaction.specs.OwnLocks.{paths_of}
use Rattle.gix_ref_transaction.specs.declared.packing.PackedRefs.{PackedRefs}
use Rattle.gix_ref_store.specs.Prepared.{HasGoodRecords, IsAtRest, tree_of}
use Rattle.gix_ref_store.specs.Store.{files_of, IsSameStore}
use Rattle.gix_ref_store.specs.declared.file.store.Store.{Store}
use Rattle.gix_ref_program.specs.AskedEdits.{AreAskedFor, NoEditsFor}
use Rattle.gix_ref_program.specs.Updates.{IsLossOf, IsStopOf, IsUpdateError, UpdateMade}
use Rattle.gix_ref_program.specs.Words.{Asked, LineAsked, line_asked}
use Rattle.gix_ref_program.specs.declared.outcome.Outcome.{Outcome}
use Rattle.gix_ref_program.specs.declared.outcome.Outcome.TheVariants as outcomes
use Rattle.gix_ref_program.specs.declared.refusal.Refusal.{Refusal}
use Rattle.gix_ref_program.specs.declared.refusal.Refusal.TheVariants as refusals
use Rattle.gix_ref_program.specs.declared.update.UpdateError.{UpdateError}
use Rattle.gix_ref_program.specs.declared.words.Line.{Line as Parsed}

-- What is the same for all transactions of a run: the kind of ids, the message of log lines, the committer, and what becomes of
-- `packed-refs`.
pub record Terms : Type 0 where
  pub kind : Kind
  pub message : Option (List ℕ)
  pub committer : Option SignatureRef
  pub uses : PackedRefs Never

-- those of a line of the program
abbrev pub terms_of : LineAsked → Option SignatureRef → PackedRefs Never → Terms
terms_of line committer uses = record {
  kind = line.kind;
  message = line.message;
  committer = committer;
  uses = uses;
}

-- and of one that was read from words
abbrev pub terms_in : Parsed → PackedRefs Never → Terms
terms_in line uses = terms_of (line_asked line) line.committer uses

-- an outcome is that of a transaction that was made; or of one that was refused, or whose commit failed
abbrev pub IsMade : Outcome → Type 0
IsMade (outcomes.Updated locks) = Unit {0}
IsMade outcome = ⊥

abbrev pub IsRefused : Outcome → Type 0
IsRefused (outcomes.Refused refusal locks) = Unit {0}
IsRefused outcome = ⊥

-- the edits that these commands ask for
abbrev pub AreEditsOf : Terms → List Asked → List RefEdit → Type 0
AreEditsOf terms asked edits = AreAskedFor terms.kind terms.message asked edits

-- why there are none: there is none of one of the commands; or there was no memory
abbrev pub NoEdits : Terms → List Asked → Refusal → Type 0
NoEdits terms asked refusal = NoEditsFor terms.kind terms.message asked refusal

-- in this tree each file that was settled is as it was
abbrev pub IsKept : {F : Type 0} (means : F → Meaning) → F → Tree → Type 0
IsKept means files T = (q : Path) →
    IsSettledAt (disk_of (means files)) (view_of (means files).tree q) q →
    view_of T q ≡ view_of (means files).tree q

module _ {F : Type 0} (honest : Type 0) (means : F → Meaning) (faults : F → FaultCounts)
    (terms : Terms) where
  -- A transaction that was made: the edits that these commands ask for were prepared and committed, and these locks stay. Where
  -- `packed-refs` was well formed it is so again, and where all was at rest all is. Names mean the same.
  pub record IsWritten (asked : List Asked) (old new : Store F) (left : List Path) : Type 0 where
    pub edits : List RefEdit
    pub are : AreEditsOf terms asked edits
    pub made : UpdateMade honest means faults terms.uses old new terms.committer edits left
    pub good : honest → HasGoodRecords means old → HasGoodRecords means new
    pub rests : honest → IsAtRest means old → IsAtRest means new
    pub same : IsSameStore old new

  -- A stop in it leaves this tree: the one before, or what a stop in a transaction of its edits leaves.
  abbrev pub IsWriteStop : List Asked → Store F → Tree → Type 0
  IsWriteStop asked old T = (T ≡ tree_of means old)
      ⊎ ((edits : List RefEdit) × AreEditsOf terms asked edits
      × IsStopOf honest means faults terms.uses old terms.committer edits T)

  -- A loss of power in it leaves this tree: each file that was settled is as before, or it is what a loss in a transaction of its
  -- edits leaves.
  abbrev pub IsWriteLoss : List Asked → Store F → Tree → Type 0
  IsWriteLoss asked old T = IsKept means (files_of old) T
      ⊎ ((edits : List RefEdit) × AreEditsOf terms asked edits
      × IsLossOf honest means faults terms.uses old terms.committer edits T)

module _ {F : Type 0} (honest : Type 0) (read : FileError → Type 0) (means : F → Meaning)
    (faults : F → FaultCounts) (terms : Terms) where
  -- A transaction that was refused, or whose commit failed, and the locks that stay: the commands have no edits, and nothing is
  -- begun; or these edits were not made.
  abbrev pub IsNotWritten : List Asked → (old new : Store F) → Refusal → (left : List Path) → Type 0
  IsNotWritten asked old new refusal left =
      (NoEdits terms asked refusal × (new ≡ old) × (left ≡ []))
      ⊎ ((edits : List RefEdit) × AreEditsOf terms asked edits × (error : UpdateError)
      × (refusal ≡ refusals.Update error)
      × IsUpdateError honest means faults terms.uses read old new terms.committer edits error left)

  -- what becomes of commands that write
  abbrev pub WriteComes : List Asked → (old new : Store F) → Outcome → Type 0
  WriteComes asked old new (outcomes.Updated locks) =
      IsWritten honest means faults terms asked old new (paths_of locks.items)
  WriteComes asked old new (outcomes.Refused refusal locks) =
      IsNotWritten asked old new refusal (paths_of locks.items)
  WriteComes asked old new outcome = ⊥
