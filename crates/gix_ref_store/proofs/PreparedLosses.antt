-- What a loss of power leaves inside of a `prepare`, and inside of a `rollback`.
use Rattle.std.proofs.Common.{◌≡◌, true, List, []}
use Rattle.gix_ref_files.specs.Files.{Meaning}
use Rattle.gix_ref_files.specs.Tree.{Path}
use Rattle.gix_ref_files.proofs.Moments.{passes_starts, passes_weaken}
use Rattle.gix_ref_theory.specs.Edits.{Mode}
use Rattle.gix_ref_theory.specs.Views.{IsOwnLock}
use Rattle.gix_ref_theory.proofs.LockDisks.{as_before}
use Rattle.gix_ref_theory.proofs.RunLosses.{within_loses}
use Rattle.gix_ref_transaction.specs.OwnLocks.{is_in, OnlyRemoves}
use Rattle.gix_ref_store.specs.Prepared.{KeepsAll, KeepsAllBut, LosesNothing, LosesNothingBut, disk_in, places_in}
use Rattle.gix_ref_store.specs.Store.{files_of}
use Rattle.gix_ref_store.specs.declared.file.store.Store.{Store}
use Rattle.gix_ref_edits.specs.declared.transaction.RefEdit.{RefEdit}

module _ {F : Type 0} (means : F → Meaning) where
  -- what is lost where all but the locks of these places stays as settled as it was
  loses_but : (old new : Store F) (places : List Path) → KeepsAllBut means old new places → LosesNothingBut means old new places
  loses_but old new places keeps = record {
    keeps = keeps;
    loses = within_loses places [] (means (files_of old)) (means (files_of new)) (passes_weaken (keeps [] tt) (λ D among. among.0));
  }

  pub kept_loses : (mode : Mode) (old new : Store F) (edits : List RefEdit) → KeepsAll means mode old new edits → LosesNothing means mode old new edits
  kept_loses mode old new edits keeps = loses_but old new (places_in means mode old edits) keeps

  -- nothing was done
  pub untouched_loses : (mode : Mode) (store : Store F) (edits : List RefEdit) → LosesNothing means mode store store edits
  untouched_loses mode store edits = kept_loses mode store store edits (λ staying stays. passes_starts (means (files_of store)) _ (as_before (places_in means mode store edits) staying (disk_in means store) stays))

  -- some locks of these places were removed
  pub removing_loses : (old new : Store F) (locks places : List Path) → OnlyRemoves locks (means (files_of old)) (means (files_of new)) → ((q : Path) → is_in locks q ≡ true → IsOwnLock places q) →
      LosesNothingBut means old new places
  removing_loses old new locks places removes own =
      loses_but old new places (λ staying stays. removes places staying [] (disk_in means old) own (as_before places staying (disk_in means old) stays))
