-- Edits that were prepared: how their commit, or giving them up, ends.
use Rattle.std.proofs.Common.{◌∙◌, inl, inr, List, Option, Some, None, Result, Ok, Err, IfOk, IfErr, refl, sym, subst}
use Rattle.gix_ref_files.specs.declared.files.FileError.{FileError}
use Rattle.gix_ref_files.specs.Tree.{Path}
use Rattle.gix_ref_files.specs.Files.{Meaning, Leaves, Loses, FaultCounts}
use Rattle.gix_ref_files.proofs.Moments.{joins, loses_joins, loses_weaken, weaken}
use Rattle.gix_ref_log.specs.declared.actor.SignatureRef.{SignatureRef}
use Rattle.gix_ref_edits.specs.declared.transaction.RefEdit.{RefEdit}
use Rattle.gix_ref_object.specs.contracts.object.NeverFind.TheImpl.{claims-value, meaning-value}
use Rattle.gix_ref_object.specs.declared.object.Never.{Never}
use Rattle.gix_ref_transaction.specs.Packing.{OfFinder, ends_of, mode_in}
use Rattle.gix_ref_transaction.specs.declared.prepare.error.Error.{Error as Cause}
use Rattle.gix_ref_transaction.specs.OwnLocks.{paths_of}
use Rattle.gix_ref_transaction.specs.PrepareSteps.{held_locks}
use Rattle.gix_ref_transaction.specs.declared.edit.Edit.{Edit}
use Rattle.gix_ref_store.specs.CommitOutcomes.{HasSucceeded, HasEndedEarly, EveryMomentIsSafe, KeepsTheRest}
use Rattle.gix_ref_store.specs.CommitResult.{left_of}
use Rattle.gix_ref_store.specs.Prepared.{HasGoodRecords, IsAtRest, RefusesGiven, RollsBackFrom}
use Rattle.gix_ref_store.specs.Store.{files_of, IsSameStore}
use Rattle.gix_ref_store.specs.declared.file.store.Store.{Store}
use Rattle.gix_ref_store.specs.declared.file.transaction.outcome.Done.{Done}
use Rattle.gix_ref_store.specs.declared.file.transaction.outcome.Failed.{Failed}
use Rattle.gix_ref_store.proofs.SameStores.{same_on}
use Rattle.gix_ref_program.specs.Updates.{AreTried, IsLossOf}
use Rattle.gix_ref_program.specs.declared.update.UpdateError.TheVariants.{Commit}
use Rattle.gix_ref_program.proofs.Updating.{refused_stops, done, told, stops, loses, settles, goods}
use Rattle.gix_ref_session.specs.Transactions.{CommitEnds, IsCommitResult, IsEditStop, IsRolledBack, Prepares, uses}
use Rattle.gix_ref_session.specs.declared.fatal.Fatal.{Fatal}
use Rattle.gix_ref_session.proofs.Resting.{held_own, own_places, spoken_on}

module _ {F : Type 0} (honest : Type 0) (means : F → Meaning) (faults : F → FaultCounts) (old mid new : Store F) (edits : List RefEdit) (packed : Option Path) (held : List Edit) (from : Prepares honest means faults old mid edits packed held) where
  -- a commit
  pub commit_ends : (committer : Option SignatureRef) (read : FileError → Type 0) (answer : Result (Done Never) (Failed Never)) (result : Result (Unit {0}) Fatal) → IsCommitResult answer result →
      IfOk answer (λ d. HasSucceeded honest means faults mid new committer packed held d.edits.items (paths_of d.locks_left.items)) → IfErr answer (λ f. HasEndedEarly honest means faults mid new committer packed held f.error) →
      EveryMomentIsSafe honest means faults mid new committer packed held (left_of answer) → KeepsTheRest honest means faults mid new committer packed held (left_of answer) → IsSameStore mid new → CommitEnds honest means faults committer read old new edits result
  commit_ends committer read (Ok d) result is succeeded ended safe kept same =
      let left = paths_of d.locks_left.items in
      subst (λ (r : Result (Unit {0}) Fatal). CommitEnds honest means faults committer read old new edits r) (sym is) (record {
        left = left;
        made = done honest means faults old mid new committer edits packed held uses from (Ok d) None left refl refl succeeded safe kept refl;
        good = λ h. goods honest means faults old mid new committer edits packed held uses from (Ok d) None refl succeeded h refl;
        rests = λ h. settles honest means faults old mid new committer edits packed held uses from (Ok d) None refl succeeded h refl;
        same = same_on old mid new from.prepared.held.same same;
      })
  commit_ends committer read (Err f) result is succeeded ended safe kept same =
      let left = paths_of f.locks_left.items in
      subst (λ (r : Result (Unit {0}) Fatal). CommitEnds honest means faults committer read old new edits r) (sym is) (record {
        left = left;
        fails = told honest means faults old mid new committer edits packed held uses from read (Err f) (Some (Commit f.error)) left refl refl ended safe kept;
      })

  pub commit_leaves : (committer : Option SignatureRef) (left : List Path) → EveryMomentIsSafe honest means faults mid new committer packed held left → honest →
      Leaves (means (files_of old)) (means (files_of new)) (IsEditStop honest means faults committer old edits)
  commit_leaves committer left safe h = weaken (stops honest means faults old mid new committer edits packed held uses from left safe.stops h) (λ T stop. inl stop)

  pub commit_loses : (committer : Option SignatureRef) (left : List Path) → EveryMomentIsSafe honest means faults mid new committer packed held left → honest → HasGoodRecords means old → IsAtRest means old →
      Loses (means (files_of old)) (means (files_of new)) (IsLossOf honest means faults uses old committer edits)
  commit_loses committer left safe h good at_rest = loses honest means faults old mid new committer edits packed held uses from h good at_rest safe.losses

  -- giving up
  pub given_up : (left : List Path) → RollsBackFrom honest means faults mid new (held_locks packed held) left → IsRolledBack honest means faults old new edits
  given_up left rolled = record { begun = record { mid = mid; packed = packed; held = held; prepared = from }; left = left; rolled = rolled }

  pub given_up_leaves : (committer : Option SignatureRef) (left : List Path) → RollsBackFrom honest means faults mid new (held_locks packed held) left → honest → Leaves (means (files_of old)) (means (files_of new)) (IsEditStop honest means faults committer old edits)
  given_up_leaves committer left rolled h =
      joins (weaken (from.prepared.held.leaves h) (λ T adds. inl (inl (from.split, (from.splits.asked, inl from.splits.composed, inl (from.splits.from.is h)), adds))))
      (weaken (rolled.leaves h) (λ T removes. inr (record { mid = mid; packed = packed; held = held; prepared = from }, removes)))

  -- the edits whose locks were held
  split_tried : honest → AreTried means old edits from.split
  split_tried h = (from.splits.asked, inl from.splits.composed, inl (from.splits.from.is h))

  -- each file that was settled before they were prepared is as it was then
  pub given_up_loses : (committer : Option SignatureRef) (left : List Path) → RollsBackFrom honest means faults mid new (held_locks packed held) left → honest → Loses (means (files_of old)) (means (files_of new)) (IsLossOf honest means faults uses old committer edits)
  given_up_loses committer left rolled h =
      let places = own_places honest means faults old mid edits packed held from in
      loses_joins (loses_weaken (from.prepared.lost h).loses (λ T kept. inl (from.split, split_tried h, kept)))
      (loses_weaken (rolled.lost h places (held_own honest means faults old mid edits packed held from h)).loses
      (λ T kept. inl (from.split, split_tried h, λ q spoken. let on = spoken_on honest means faults old mid edits packed held from h q spoken in kept q on.0 ∙ on.1)))

-- edits that were refused
module _ {F : Type 0} (honest : Type 0) (means : F → Meaning) (faults : F → FaultCounts) (old new : Store F) (edits : List RefEdit) (error : Cause) (left : List Path) (read : FileError → Type 0) (from : RefusesGiven honest read means faults (OfFinder claims-value.it uses) (ends_of meaning-value.it uses) (mode_in uses) old new edits error left) where
  pub refused_leaves : (committer : Option SignatureRef) → honest → Leaves (means (files_of old)) (means (files_of new)) (IsEditStop honest means faults committer old edits)
  refused_leaves committer h = weaken (refused_stops honest means faults old new committer edits error left read uses from h) (λ T stop. inl stop)
