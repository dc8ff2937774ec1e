-- An update whose preparation succeeded: what its commit returns, seen from before the preparation.
use Rattle.gix_ref_transaction.proofs.Faults.{risen_by_before}
use Rattle.gix_ref_files.specs.declared.files.FileError.{FileError}
use Rattle.std.proofs.Common.{◌≡◌, inl, inr, ⊎_elim, List, Option, Some, None, Result, Ok, Err, IfOk, IfErr, IfSome, sym, ◌∙◌, subst, length}
use Rattle.gix_ref_files.specs.Tree.{Tree, Path}
use Rattle.gix_ref_files.specs.Files.{Meaning, Leaves, Loses, HasRisenBy, FaultCounts}
use Rattle.gix_ref_files.proofs.Moments.{weaken, joins, loses_joins, loses_weaken}
use Rattle.gix_ref_theory.specs.Roots.{roots}
use Rattle.gix_ref_log.specs.declared.actor.SignatureRef.{SignatureRef}
use Rattle.gix_ref_edits.specs.declared.transaction.RefEdit.{RefEdit}
use Rattle.gix_ref_transaction.specs.OwnLocks.{paths_of}
use Rattle.gix_ref_transaction.specs.declared.edit.Edit.{Edit}
use Rattle.gix_ref_transaction.specs.declared.prepare.error.Error.{Error as Cause}
use Rattle.gix_ref_transaction.proofs.CommitLosses.{rest_kept}
use Rattle.gix_ref_store.specs.CommitOutcomes.{HasSucceeded, HasEndedEarly, EveryMomentIsSafe, KeepsTheRest}
use Rattle.gix_ref_store.specs.CommitResult.{EveryStopFrom, EveryLossFrom, left_of}
use Rattle.gix_ref_store.specs.Prepared.{PreparesGiven, HasGoodRecords, RefusesGiven, IsAtRest, disk_in, places_in, tree_of}
use Rattle.gix_ref_object.specs.contracts.object.NeverFind.TheImpl.{claims-value, meaning-value}
use Rattle.gix_ref_object.specs.declared.object.Never.{Never}
use Rattle.gix_ref_transaction.specs.Packing.{OfFinder, ends_of, mode_in}
use Rattle.gix_ref_transaction.specs.declared.packing.PackedRefs.{PackedRefs}
use Rattle.gix_ref_store.specs.CommitLines.{extras_due}
use Rattle.gix_ref_commit.specs.CommittedTrees.{IsOldOrNew}
use Rattle.gix_ref_store.specs.Store.{files_of, folders, meaning_of}
use Rattle.gix_ref_store.specs.declared.file.store.Store.{Store}
use Rattle.gix_ref_store.specs.declared.file.transaction.outcome.Done.{Done}
use Rattle.gix_ref_store.specs.declared.file.transaction.outcome.Failed.{Failed}
use Rattle.gix_ref_program.specs.Updates.{AreTried, UpdateFailed, IsBegun, UpdateMade, IsStopOf, IsLossOf, IsUpdateError, error_of}
use Rattle.gix_ref_program.specs.declared.update.UpdateError.{UpdateError}
use Rattle.gix_ref_program.specs.declared.update.UpdateError.TheVariants.{Commit}

-- a preparation that was refused
module _ {F : Type 0} (honest : Type 0) (means : F → Meaning) (faults : F → FaultCounts) (old new : Store F) (committer : Option SignatureRef) (edits : List RefEdit) (error : Cause) (left : List Path) (read : FileError → Type 0) (uses : PackedRefs Never) (from : RefusesGiven honest read means faults (OfFinder claims-value.it uses) (ends_of meaning-value.it uses) (mode_in uses) old new edits error left) where
  tried : honest → AreTried means old edits from.refuses.tried
  tried h = (from.asked, ⊎_elim (λ composed. inl composed) (λ unread. inr unread.1) from.composed, from.refuses.split h)

  pub refused_stops : honest → Leaves (means (files_of old)) (means (files_of new)) (IsStopOf honest means faults uses old committer edits)
  refused_stops h = weaken (from.refuses.leaves h) (λ T adds. inl (from.refuses.tried, tried h, adds))

  pub refused_loses : honest → Loses (means (files_of old)) (means (files_of new)) (IsLossOf honest means faults uses old committer edits)
  refused_loses h = loses_weaken (from.refuses.lost h).loses (λ T kept. inl (from.refuses.tried, tried h, kept))

-- an error is not none
differ : (error : UpdateError) → Some error ≡ None → ⊥
differ error h = cc

-- a stop or a loss of power in the commit of edits that were prepared
module _ {F : Type 0} (honest : Type 0) (means : F → Meaning) (faults : F → FaultCounts) (old new : Store F) (committer : Option SignatureRef) (edits : List RefEdit) (uses : PackedRefs Never) (b : IsBegun honest means faults uses old edits) where
  abbrev IsStop : Tree → Type 0
  IsStop T = HasGoodRecords means old → IsOldOrNew (meaning_of old) (mode_in uses) b.prepared.split (extras_due means b.mid committer b.held) (tree_of means old) T

  commit_stops : Leaves (means (files_of b.mid)) (means (files_of new)) IsStop → Leaves (means (files_of b.mid)) (means (files_of new)) (IsStopOf honest means faults uses old committer edits)
  commit_stops leaves = weaken leaves (λ T well. inr (b, well))

-- one that was committed, or whose commit failed
module _ {F : Type 0} (honest : Type 0) (means : F → Meaning) (faults : F → FaultCounts) (old mid new : Store F) (committer : Option SignatureRef) (edits : List RefEdit) (packed : Option Path) (held : List Edit) (uses : PackedRefs Never) (from : PreparesGiven honest means faults (OfFinder claims-value.it uses) (ends_of meaning-value.it uses) (mode_in uses) old mid edits packed held) where
  abbrev begun : IsBegun honest means faults uses old edits
  begun = record { mid = mid; packed = packed; held = held; prepared = from }

  split_tried : honest → AreTried means old edits from.split
  split_tried h = (from.splits.asked, inl from.splits.composed, inl (from.splits.from.is h))

  rises : (left : List Path) → HasRisenBy (length left) (faults (files_of mid)) (faults (files_of new)) → HasRisenBy (length left) (faults (files_of old)) (faults (files_of new))
  rises left rose = risen_by_before (length left) (faults (files_of old)) (faults (files_of mid)) (faults (files_of new)) from.prepared.held.no_fewer rose

  pub done : {T : Type 0} (answer : Result (Done T) (Failed T)) (error : Option UpdateError) (left : List Path) → error ≡ error_of answer → left ≡ left_of answer →
      IfOk answer (λ d. HasSucceeded honest means faults mid new committer packed held d.edits.items (paths_of d.locks_left.items)) → EveryMomentIsSafe honest means faults mid new committer packed held (left_of answer) → KeepsTheRest honest means faults mid new committer packed held (left_of answer) →
      error ≡ None → UpdateMade honest means faults uses old new committer edits left
  done (Ok d) error left told same succeeded safe kept none =
      subst (λ l. UpdateMade honest means faults uses old new committer edits l) (sym same)
      (record { begun = begun; commits = succeeded.commits; lines = succeeded.passed; folders = kept.folders; stops = safe.stops; named = rises (paths_of d.locks_left.items) kept.named })
  done (Err f) error left told same succeeded safe kept none = absurd (differ (Commit f.error) (sym told ∙ none))

  pub loses : honest → HasGoodRecords means old → IsAtRest means old → EveryLossFrom honest means faults mid new committer packed held → Loses (means (files_of old)) (means (files_of new)) (IsLossOf honest means faults uses old committer edits)
  loses h good at_rest losses =
      let split = from.split in
      let started = rest_kept (places_in means (mode_in uses) old split) (roots (folders old)) (disk_in means old) (disk_in means mid) at_rest.0 ((from.prepared.lost h).keeps (roots (folders old)) at_rest.1).disk in
      loses_joins (loses_weaken (from.prepared.lost h).loses (λ T kept. inl (split, split_tried h, kept)))
      (loses_weaken (losses old (mode_in uses) split from.prepared h good at_rest).loses (λ T well. inr (begun, (disk_in means mid, started.0, well))))

  pub settles : {T : Type 0} (answer : Result (Done T) (Failed T)) (error : Option UpdateError) → error ≡ error_of answer → IfOk answer (λ d. HasSucceeded honest means faults mid new committer packed held d.edits.items (paths_of d.locks_left.items)) → honest → error ≡ None → IsAtRest means old → IsAtRest means new
  settles (Ok d) error is succeeded h none at_rest = succeeded.settled old (mode_in uses) from.split from.prepared h at_rest
  settles (Err f) error is succeeded h none at_rest = absurd (differ (Commit f.error) (sym is ∙ none))

  pub told : (read : FileError → Type 0) {T : Type 0} (answer : Result (Done T) (Failed T)) (error : Option UpdateError) (left : List Path) → error ≡ error_of answer → left ≡ left_of answer →
      IfErr answer (λ f. HasEndedEarly honest means faults mid new committer packed held f.error) → EveryMomentIsSafe honest means faults mid new committer packed held (left_of answer) → KeepsTheRest honest means faults mid new committer packed held (left_of answer) →
      IfSome error (λ u. IsUpdateError honest means faults uses read old new committer edits u left)
  told read (Ok d) error left is same ended safe kept = subst (λ r. IfSome r (λ u. IsUpdateError honest means faults uses read old new committer edits u left)) (sym is) tt
  told read (Err f) error left is same ended safe kept =
      subst (λ r. IfSome r (λ u. IsUpdateError honest means faults uses read old new committer edits u left)) (sym is)
      (subst (λ l. UpdateFailed honest means faults uses old new committer edits f.error l) (sym same)
      (record { begun = begun; fails = ended.cause; sound = ended.sound; folders = kept.folders; stops = safe.stops; named = rises (paths_of f.locks_left.items) kept.named }))

  pub stops : (left : List Path) → EveryStopFrom honest means faults mid new committer packed held left → honest →
      Leaves (means (files_of old)) (means (files_of new)) (IsStopOf honest means faults uses old committer edits)
  stops left ends h =
      joins (weaken (from.prepared.held.leaves h) (λ T adds. inl (from.split, split_tried h, adds)))
      (commit_stops honest means faults old new committer edits uses begun ((ends old (mode_in uses) from.split from.prepared).leaves h))

  -- where `packed-refs` was well formed it is so again
  pub goods : {T : Type 0} (answer : Result (Done T) (Failed T)) (error : Option UpdateError) → error ≡ error_of answer → IfOk answer (λ d. HasSucceeded honest means faults mid new committer packed held d.edits.items (paths_of d.locks_left.items)) → honest → error ≡ None → HasGoodRecords means old → HasGoodRecords means new
  goods (Ok d) error is succeeded h none good = succeeded.good old (mode_in uses) from.split from.prepared h good
  goods (Err f) error is succeeded h none good = absurd (differ (Commit f.error) (sym is ∙ none))
