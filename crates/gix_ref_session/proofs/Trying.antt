-- A try whose edits were led.
use Rattle.std.specs.Prelude.{is_some}
use Rattle.std.proofs.Common.{inl, inr, List, Option, subst}
use Rattle.gix_ref_files.specs.declared.files.FileError.{FileError}
use Rattle.gix_ref_files.specs.Disk.{Disk, Lost}
use Rattle.gix_ref_files.specs.Files.{Meaning, Leaves, Loses, FaultCounts}
use Rattle.gix_ref_files.proofs.Moments.{joins, loses_joins, loses_weaken, losses, weaken}
use Rattle.gix_ref_edits.specs.declared.transaction.RefEdit.{RefEdit}
use Rattle.gix_ref_log.specs.declared.actor.SignatureRef.{SignatureRef}
use Rattle.gix_ref_store.specs.Lookup.{LooksUp}
use Rattle.gix_ref_store.specs.Prepared.{HasGoodRecords, IsAtRest}
use Rattle.gix_ref_store.specs.Store.{files_of}
use Rattle.gix_ref_store.specs.declared.file.store.Store.{Store}
use Rattle.gix_ref_program.specs.Updates.{IsLossOf}
use Rattle.gix_ref_program.proofs.Writing.{kept}
use Rattle.gix_ref_session.specs.Clashes.{AreClear}
use Rattle.gix_ref_session.specs.Leading.{AreLed, LeadsIn}
use Rattle.gix_ref_session.specs.Transactions.{IsEditStop, IsTryLoss, IsTryStop, uses}
use Rattle.gix_ref_session.proofs.Resting.{looked_ready}

module _ {F : Type 0} (honest : Type 0) (means : F → Meaning) (faults : F → FaultCounts) (committer : Option SignatureRef) (read : FileError → Type 0) (edits : List RefEdit) where
  pub looked_leaves : (old new : Store F) → LooksUp honest means old new → honest → Leaves (means (files_of old)) (means (files_of new)) (IsTryStop honest means faults committer read edits old)
  looked_leaves old new looked h = weaken (looked.leaves h) (λ T same. inl same)

  pub led_leaves : (old at new : Store F) (led : List RefEdit) → LooksUp honest means old at → AreClear honest means faults old edits → AreLed (LeadsIn honest means old (is_some committer)) edits led → (honest → Leaves (means (files_of at)) (means (files_of new)) (IsEditStop honest means faults committer at led)) → honest →
      Leaves (means (files_of old)) (means (files_of new)) (IsTryStop honest means faults committer read edits old)
  led_leaves old at new led looked clear are leaves h = joins (looked_leaves old at looked h) (weaken (leaves h) (λ T stop. inr (at, led, looked, clear, are, stop)))

  -- a loss of power in a lookup leaves each file that was settled
  pub looked_loses : (old new : Store F) → LooksUp honest means old new → honest → Loses (means (files_of old)) (means (files_of new)) (IsTryLoss honest means faults committer read edits old)
  looked_loses old new looked h = losses (IsTryLoss honest means faults committer read edits old) (λ D is T lost. inl (kept means (files_of old) T (subst (λ (E : Disk). Lost E T) is lost))) (looked.passes h)

  pub led_loses : (old at new : Store F) (led : List RefEdit) → LooksUp honest means old at → AreClear honest means faults old edits → AreLed (LeadsIn honest means old (is_some committer)) edits led →
      (honest → HasGoodRecords means at → IsAtRest means at → Loses (means (files_of at)) (means (files_of new)) (IsLossOf honest means faults uses at committer led)) → honest → HasGoodRecords means old → IsAtRest means old →
      Loses (means (files_of old)) (means (files_of new)) (IsTryLoss honest means faults committer read edits old)
  led_loses old at new led looked clear are loses h good at_rest =
      let ready = looked_ready honest means old at looked h (good, at_rest) in
      loses_joins (looked_loses old at looked h) (loses_weaken (loses h ready.0 ready.1) (λ T loss. inr (at, led, looked, clear, are, loss)))
