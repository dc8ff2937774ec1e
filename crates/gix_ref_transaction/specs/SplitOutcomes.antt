-- What the splitting of a transaction's edits returns, and why it fails.
use Rattle.std.specs.Prelude.{◌≡◌, ◌⊎◌, List, [], All, vec_len}
use Rattle.gix_ref_hash.specs.declared.hash.Kind.{Kind}
use Rattle.gix_ref_files.specs.Files.{Meaning, FaultCounts}
use Rattle.gix_ref_files.specs.Tree.{Tree}
use Rattle.gix_ref_theory.specs.OnRealTrees.{view_of}
use Rattle.gix_ref_theory.specs.Readings.{Store}
use Rattle.gix_ref_edits.specs.RefEdits.{AreUpdates}
use Rattle.gix_ref_edits.specs.declared.transaction.RefEdit.{RefEdit}
use Rattle.gix_ref_transaction.specs.Causes.{AllValid, IsCounted, IsIoOrMemory}
use Rattle.gix_ref_transaction.specs.Parents.{split_parents}
use Rattle.gix_ref_transaction.specs.Splits.{all_rounds, name_led_to, values_of, AreSplit, CanFollow, IsFirstMisnamed, IsTooLong}
use Rattle.gix_ref_transaction.specs.declared.prepare.error.Error.{Error}
use Rattle.gix_ref_transaction.specs.declared.prepare.split.SplitEdits.{SplitEdits}

-- The split list of edits, with the place of the parent of each. Each edit that is looked up may be; and where all that are given are valid
-- by themselves, or updates, so are all of the list.
pub record IsSplitOf (honest : Type 0) (s : Store) (kind : Kind) (T : Tree) (given : List RefEdit)
    (split : SplitEdits) : Type 0 where
  pub is : honest → AreSplit s (view_of T) given split.edits.items
  pub parents : honest → split.parents.items ≡ split_parents (name_led_to s (view_of T))
      (values_of given)
  pub len : vec_len split.parents ≡ vec_len split.edits
  pub can_follow : honest → All (CanFollow s) (all_rounds s (view_of T) given)
  pub valid : AllValid s kind [] given → AllValid s kind [] split.edits.items
  pub updates : AreUpdates given → AreUpdates split.edits.items

-- Why there is no split list: a fault of files or of memory, the name of an edit that is looked up, or too many rounds; and of `Io` this
-- fault was counted.
pub record IsNotSplit {F : Type 0} (honest : Type 0) (means : F → Meaning)
    (faults : F → FaultCounts)
    (s : Store) (given : List RefEdit) (before now : F) (error : Error) : Type 0 where
  pub cause : honest → IsIoOrMemory error
      ⊎ (IsFirstMisnamed s (all_rounds s (view_of (means before).tree) given) error
      ⊎ IsTooLong s (view_of (means before).tree) given error)
  pub counted : IsCounted (faults before) (faults now) error
