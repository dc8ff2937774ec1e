-- What a commit leaves of its edits, with these lines of logs and these objects at the end of tags.
use Rattle.std.specs.Prelude.{◌≡◌, List, true}
use Rattle.gix_ref_files.specs.Tree.{Tree, Path}
use Rattle.gix_ref_theory.specs.Between.{IsCommitted}
use Rattle.gix_ref_theory.specs.Edits.{Mode}
use Rattle.gix_ref_theory.specs.OnRealTrees.{view_of, IsOldOrNewTree}
use Rattle.gix_ref_theory.specs.Readings.{Store}
use Rattle.gix_ref_theory.specs.Views.{IsOwnLock}
use Rattle.gix_ref_edits.specs.declared.transaction.RefEdit.{RefEdit}
use Rattle.gix_ref_transaction.specs.OwnLocks.{is_in}
use Rattle.gix_ref_transaction.specs.PrepareSteps.{own_places}
use Rattle.gix_ref_commit.specs.LogEffects.{Extra, with_extras}

-- In T every reference reads as before or as edited, and every file is as before or as the commit makes it, except for the locks of a
-- transaction that began with the tree `before`.
abbrev pub IsOldOrNew : Store → Mode → List RefEdit → List Extra → (before T : Tree) → Type 0
IsOldOrNew s mode edits extras before T = IsOldOrNewTree s mode (own_places s mode before edits)
    (with_extras edits extras) before T

-- From the tree `before` the locks were taken, the edits are committed in T, except for these locks that stay.
abbrev pub AreCommitted : Store → Mode → List RefEdit → List Extra → (before : Tree)
    (left : List Path) → Tree → Type 0
AreCommitted s mode edits extras before left T =
    (staying : List Path) → ((q : Path) → is_in left q ≡ true → IsOwnLock staying q) →
    IsCommitted s mode staying (with_extras edits extras) (view_of before) (view_of T)
