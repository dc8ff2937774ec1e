-- The outcomes of the parts of a run, put together.
use Rattle.std.proofs.Common.{◌≡◌, inl, inr, [], ◌∷◌, Option, subst}
use Rattle.gix_ref_files.specs.Files.{Meaning, Leaves, Loses, FaultCounts}
use Rattle.gix_ref_files.specs.declared.files.ReadAt.{Ghosts}
use Rattle.gix_ref_files.proofs.Moments.{loses_weaken, weaken}
use Rattle.gix_ref_log.specs.declared.actor.SignatureRef.{SignatureRef}
use Rattle.gix_ref_object.specs.declared.object.Never.{Never}
use Rattle.gix_ref_packed.specs.OpenFiles.{HasReadFault}
use Rattle.gix_ref_transaction.specs.declared.packing.PackedRefs.{PackedRefs}
use Rattle.gix_ref_store.specs.Store.{files_of}
use Rattle.gix_ref_store.specs.declared.file.store.Store.{Store}
use Rattle.gix_ref_program.specs.Runs.{CommandRan, IsCommitterOf, IsLossIn, IsOpened, IsStop, IsStopIn, LineRan, Ran, WriteRan}
use Rattle.gix_ref_program.specs.Words.{Asked, IsNoScript, IsWrite, LineAsked, MayWrite}
use Rattle.gix_ref_program.specs.Words.{Update, Symbolic, Delete, Show, Listing, Log, Script}
use Rattle.gix_ref_program.specs.Writes.{IsWriteLoss, IsWriteStop, Terms, terms_of}

-- a command that may write and is no script writes
pub writes_alone : (asked : Asked) → IsNoScript asked → MayWrite asked → IsWrite asked
writes_alone (Update deref name id old) alone may = may
writes_alone (Symbolic name target) alone may = may
writes_alone (Delete deref name old) alone may = may
writes_alone (Show name) alone may = may
writes_alone (Listing prefix) alone may = may
writes_alone (Log name) alone may = may
writes_alone (Script path) alone may = absurd alone

module _ {F : Type 0} (honest : Type 0) (means : F → Meaning) (faults : F → FaultCounts) where
  -- what a transaction of a command alone is
  pub write_runs : {R : Type 0} (G : Ghosts R) (old new : Store F) (terms : Terms) (asked : Asked) → IsWrite asked → (ran : Ran) → WriteRan honest means faults (HasReadFault G.faults) old new terms (asked ∷ []) ran → CommandRan honest means faults G old new terms asked ran
  write_runs G old new terms (Update deref name id before) writes ran is = is
  write_runs G old new terms (Symbolic name target) writes ran is = is
  write_runs G old new terms (Delete deref name before) writes ran is = is
  write_runs G old new terms (Show name) writes ran is = absurd writes
  write_runs G old new terms (Listing prefix) writes ran is = absurd writes
  write_runs G old new terms (Log name) writes ran is = absurd writes
  write_runs G old new terms (Script path) writes ran is = absurd writes

  write_stop : (old : Store F) (terms : Terms) (asked : Asked) → IsWrite asked → (T : _) → IsWriteStop honest means faults terms (asked ∷ []) old T → IsStop honest means faults old terms asked T
  write_stop old terms (Update deref name id before) writes T is = is
  write_stop old terms (Symbolic name target) writes T is = is
  write_stop old terms (Delete deref name before) writes T is = is
  write_stop old terms (Show name) writes T is = absurd writes
  write_stop old terms (Listing prefix) writes T is = absurd writes
  write_stop old terms (Log name) writes T is = absurd writes
  write_stop old terms (Script path) writes T is = absurd writes

  pub write_stops : (old new : Store F) (terms : Terms) (asked : Asked) → IsWrite asked → Leaves (means (files_of old)) (means (files_of new)) (IsWriteStop honest means faults terms (asked ∷ []) old) →
      Leaves (means (files_of old)) (means (files_of new)) (IsStop honest means faults old terms asked)
  write_stops old new terms asked writes leaves = weaken leaves (λ T stop. write_stop old terms asked writes T stop)

  module _ (uses : PackedRefs Never) (files after : F) (line : LineAsked) (old new : Store F) (committer : Option SignatureRef) (is : IsCommitterOf line committer) (opened : IsOpened files line old) (ended : files_of new ≡ after) where
    pub line_comes : {R : Type 0} (G : Ghosts R) (ran : Ran) → CommandRan honest means faults G old new (terms_of line committer uses) line.asked ran → LineRan honest means faults uses G files after line ran
    line_comes G ran comes = inl (old, new, committer, is, opened, ended, comes)

    pub line_stops : Leaves (means (files_of old)) (means (files_of new)) (IsStop honest means faults old (terms_of line committer uses) line.asked) → Leaves (means files) (means after) (IsStopIn honest means faults uses files line)
    line_stops leaves =
        subst (λ f. Leaves (means f) (means after) (IsStopIn honest means faults uses files line)) opened.files_are
        (subst (λ a. Leaves (means (files_of old)) (means a) (IsStopIn honest means faults uses files line)) ended (weaken leaves (λ T stop. inr (inl (old, committer, is, opened, stop)))))

    pub line_loses : Loses (means (files_of old)) (means (files_of new)) (IsWriteLoss honest means faults (terms_of line committer uses) (line.asked ∷ []) old) → Loses (means files) (means after) (IsLossIn honest means faults uses files line)
    line_loses loses =
        subst (λ f. Loses (means f) (means after) (IsLossIn honest means faults uses files line)) opened.files_are
        (subst (λ a. Loses (means (files_of old)) (means a) (IsLossIn honest means faults uses files line)) ended (loses_weaken loses (λ T loss. inr (inl (old, committer, is, opened, loss)))))
