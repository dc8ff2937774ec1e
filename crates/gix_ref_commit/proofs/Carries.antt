-- Steps with their syncs that carry out some writes, on trees and on disks alike.
use Rattle.std.proofs.Common.{◌≡◌, ◌≢◌, inr, ℕ, List, [], ◌∷◌, Option, Some, None, Bool, true, false, map, sym, ap, ◌∙◌, if◌then◌else◌, bytes_eq}
use Rattle.gix_ref_files.specs.Tree.{Path}
use Rattle.gix_ref_files.specs.Settled.{IsIn, SettlesPath, SettlesRemoval, SettlesFile}
use Rattle.gix_ref_files.specs.Steps.Step.{Create, Append as AppendStep, Line, Rename, RemoveFile, MakeFolders, RemoveFolder, End}
use Rattle.gix_ref_files.specs.DiskSteps.{Synced}
use Rattle.gix_ref_files.specs.DiskSteps.Synced.{With}
use Rattle.gix_ref_theory.specs.OnDisks as disk
use Rattle.gix_ref_theory.specs.OnRealTrees as tree
use Rattle.gix_ref_theory.specs.OnRealTrees.{after_step}
use Rattle.gix_ref_theory.specs.Views.{View, Write, changed_at, file_bytes, IsOwnLock}
use Rattle.gix_ref_theory.specs.Views.Write.{Append, Put, Remove}
use Rattle.gix_ref_commit.specs.Entries.{bare}

-- each text is that of the file
abbrev pub AreIn : (texts view : View) → Type 0
AreIn texts view = (p : Path) (bytes : List ℕ) → texts p ≡ Some bytes → view p ≡ Some bytes

-- and so where a path has no text any more
still_in : (p : Path) (file : Option (List ℕ)) (texts view : View) → AreIn texts view → AreIn (changed_at p None texts) (changed_at p file view)
still_in p file texts view are q bytes = by (bytes_eq p q)
  where
    by : (same : Bool) → (if same then None else texts q) ≡ Some bytes → (if same then file else view q) ≡ Some bytes
    by true h = cc
    by false h = are q bytes h

module _ (locked staying : List Path) where
  -- The steps with their syncs carry out the writes. `texts` are the texts of the transaction's locks, which are whole.
  abbrev pub Carries : View → List Synced → List Write → Type 0
  Carries texts [] writes = writes ≡ []
  Carries texts (With (Line p bytes) syncs ∷ plan) writes =
      (rest : List Write) × (IsOwnLock locked p → ⊥) × (writes ≡ Append p bytes ∷ rest) × SettlesFile staying p syncs × Carries (changed_at p None texts) plan rest
  Carries texts (With (Rename from to) syncs ∷ plan) writes =
      (bytes : List ℕ) × (rest : List Write) × IsOwnLock locked from × (from ≢ to) × (texts from ≡ Some bytes) × (writes ≡ Put to bytes ∷ rest) × SettlesPath staying to syncs × Carries (changed_at to None (changed_at from None texts)) plan rest
  Carries texts (With (RemoveFile p) syncs ∷ plan) writes =
      (rest : List Write) × (writes ≡ Remove p ∷ rest) × SettlesRemoval p syncs × Carries (changed_at p None texts) plan rest
  Carries texts (With (MakeFolders p) syncs ∷ plan) writes = Carries texts plan writes
  Carries texts (With (RemoveFolder p) syncs ∷ plan) writes = (IsIn p staying → ⊥) × Carries texts plan writes
  Carries texts (With (Create p) syncs ∷ plan) writes = ⊥
  Carries texts (With (AppendStep p bytes) syncs ∷ plan) writes = ⊥
  Carries texts (With End syncs ∷ plan) writes = ⊥

  -- on a disk
  pub on_disks : (Counts : Path → Type 0) → ((p : Path) → IsOwnLock locked p → Counts p → ⊥) → (texts : View) (plan : List Synced) (writes : List Write) →
      Carries texts plan writes → disk.CarryOutSynced Counts staying texts plan writes
  on_disks Counts own texts [] writes h = h
  on_disks Counts own texts (With (Line p bytes) syncs ∷ plan) writes (rest, alien, is, settles, later) =
      (rest, is, settles, on_disks Counts own (changed_at p None texts) plan rest later)
  on_disks Counts own texts (With (Rename from to) syncs ∷ plan) writes (bytes, rest, lock, apart, text, is, settles, later) =
      (bytes, rest, own from lock, apart, text, is, settles, on_disks Counts own (changed_at to None (changed_at from None texts)) plan rest later)
  on_disks Counts own texts (With (RemoveFile p) syncs ∷ plan) writes (rest, is, settles, later) =
      inr (rest, is, settles, on_disks Counts own (changed_at p None texts) plan rest later)
  on_disks Counts own texts (With (MakeFolders p) syncs ∷ plan) writes h = on_disks Counts own texts plan writes h
  on_disks Counts own texts (With (RemoveFolder p) syncs ∷ plan) writes (out, h) = (out, on_disks Counts own texts plan writes h)
  on_disks Counts own texts (With (Create p) syncs ∷ plan) writes h = absurd h
  on_disks Counts own texts (With (AppendStep p bytes) syncs ∷ plan) writes h = absurd h
  on_disks Counts own texts (With End syncs ∷ plan) writes h = absurd h

  -- and on a tree, where the texts are those of its locks
  pub on_trees : (texts view : View) (plan : List Synced) (writes : List Write) → AreIn texts view → Carries texts plan writes → tree.CarryOut locked view (map bare plan) writes
  on_trees texts view [] writes are h = h
  on_trees texts view (With (Line p bytes) syncs ∷ plan) writes are (rest, alien, is, settles, later) =
      (rest, alien, is, on_trees (changed_at p None texts) (after_step (Line p bytes) view) plan rest (still_in p _ texts view are) later)
  on_trees texts view (With (Rename from to) syncs ∷ plan) writes are (bytes, rest, lock, apart, text, is, settles, later) = (
    rest,
    lock,
    is ∙ ap (λ (file : Option (List ℕ)). Put to (file_bytes file) ∷ rest) (sym (are from bytes text)),
    on_trees (changed_at to None (changed_at from None texts)) (after_step (Rename from to) view) plan rest
        (still_in to (view from) (changed_at from None texts) (changed_at from None view) (still_in from None texts view are)) later,
  )
  on_trees texts view (With (RemoveFile p) syncs ∷ plan) writes are (rest, is, settles, later) =
      inr (rest, is, on_trees (changed_at p None texts) (after_step (RemoveFile p) view) plan rest (still_in p None texts view are) later)
  on_trees texts view (With (MakeFolders p) syncs ∷ plan) writes are h = on_trees texts view plan writes are h
  on_trees texts view (With (RemoveFolder p) syncs ∷ plan) writes are (out, h) = on_trees texts view plan writes are h
  on_trees texts view (With (Create p) syncs ∷ plan) writes are h = absurd h
  on_trees texts view (With (AppendStep p bytes) syncs ∷ plan) writes are h = absurd h
  on_trees texts view (With End syncs ∷ plan) writes are h = absurd h
