-- A small commit that keeps all premises of the theorems on losses of power: the lock `r/a.lock` is whole, and is renamed to
-- `r/a`; then the folder `r` is synced.
use Rattle.std.specs.Prelude.{[], ◌∷◌, Some, None, codes}
use Rattle.gix_ref_files.specs.Tree.{Tree, put, no_tree}
use Rattle.gix_ref_files.specs.Tree.Content.{File, Folder}
use Rattle.gix_ref_files.specs.Losing.{all_synced}
use Rattle.gix_ref_files.specs.Settled.{AllStay, IsAllSettled}
use Rattle.gix_ref_files.specs.Settled.Sync.{OfFolder}
use Rattle.gix_ref_files.specs.Steps.Step.{Rename}
use Rattle.gix_ref_files.specs.DiskSteps.Synced.{With}
use Rattle.gix_ref_theory.specs.Views.{View, changed_at}
use Rattle.gix_ref_theory.specs.Views.Write.{Put}
use Rattle.gix_ref_theory.specs.OnDisks.{CarryOutSynced, IsSpokenOf, AreWhole}

-- the folder and the lock in it
abbrev pub lock_tree : Tree
lock_tree = put (put no_tree (codes "r") (Some Folder)) (codes "r/a.lock") (Some (File (codes "I")))

-- the text of the lock
abbrev pub lock_texts : View
lock_texts = changed_at (codes "r/a.lock") (Some (codes "I")) (λ q. None)

-- the premises are met
abbrev pub SmallCommitIsCarriedOut : Type 0
SmallCommitIsCarriedOut =
    IsAllSettled (all_synced lock_tree) × AllStay (all_synced lock_tree) (codes "r" ∷ [])
    × AreWhole lock_texts (all_synced lock_tree)
    × CarryOutSynced (IsSpokenOf (codes "r/a" ∷ []) (all_synced lock_tree)) (codes "r" ∷ [])
    lock_texts (With (Rename (codes "r/a.lock") (codes "r/a")) (OfFolder (codes "r") ∷ []) ∷ [])
    (Put (codes "r/a") (codes "I") ∷ [])
