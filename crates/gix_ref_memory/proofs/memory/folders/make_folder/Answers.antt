use Rattle.std.proofs.Common.{◌≡◌, ◌∙◌, inl, inr, ⊎_elim, Bool, Some, true, false, refl, sym, subst, rules}
use Rattle.std.specs.Prelude.{if◌then◌else◌}
use Rattle.gix_ref_files.specs.Disk.{Disk, a_folder}
use Rattle.gix_ref_files.proofs.Moments.{passes_weaken}
use Rattle.gix_ref_files.specs.Tree.{Path, is_folder, IsShaped, no_tree}
use Rattle.gix_ref_files.specs.Tree.Content.{Folder}
use Rattle.gix_ref_memory.specs.Changes.{after_changes, with_item_as, with_folder_as}
use Rattle.gix_ref_files.proofs.Puts.{shaped_put}
use Rattle.gix_ref_memory.proofs.Grows.{put_more, disk}
use Rattle.gix_ref_memory.proofs.memory.folders.make_folder.Goals as goal

pub returns-clause-shape : goal.returns-clause-shape
returns-clause-shape c below shape =
    let at : c.in_ok-path.path.items ≡ c.args.path.now = search rules in
    let free : is_folder (after_changes c.args.changes.now.items no_tree c.args.path.now) ≡ false = search rules in
    subst IsShaped (sym (put_more _ _ _ _ _ _ _ _ (tt {0}) at refl c.in_ok-push.ensures.items).tree_is) (shaped_put (after_changes c.args.changes.now.items no_tree) c.args.path.now (Some Folder) shape free (λ some. below))

-- where no folder is, one is made
made_new : (synced : Bool) (D : Disk) (p : Path) → is_folder (D.tree p) ≡ false → with_item_as synced D p a_folder ≡ with_folder_as synced D p
made_new synced D p none = by (is_folder (D.tree p)) none
  where
    by : (b : Bool) → b ≡ false → with_item_as synced D p a_folder ≡ (if b then D else with_item_as synced D p a_folder)
    by true e = cc
    by false e = refl

-- where one is, nothing changes
made_old : (synced : Bool) (D : Disk) (p : Path) → is_folder (D.tree p) ≡ true → D ≡ with_folder_as synced D p
made_old synced D p there = by (is_folder (D.tree p)) there
  where
    by : (b : Bool) → b ≡ true → D ≡ (if b then D else with_item_as synced D p a_folder)
    by true e = refl
    by false e = cc

-- a new folder counts no bytes
no_bytes : (synced : Bool) (D : Disk) (p : Path) → with_item_as synced D p (record { content = Some Folder; synced = if synced then 0 else 0 }) ≡ with_item_as synced D p a_folder
no_bytes true D p = refl
no_bytes false D p = refl

pub returns-clause-made : goal.returns-clause-made
returns-clause-made c =
    let D = disk c.args.changes.now.items in
    let at : c.in_ok-path.path.items ≡ c.args.path.now = search rules in
    let free : is_folder (D.tree c.args.path.now) ≡ false = search rules in
    let grown = put_more _ _ _ _ _ _ _ _ (tt {0}) at refl c.in_ok-push.ensures.items in
    record { tree = grown.tree_is; disk = grown.disk_is ∙ (no_bytes c.args.synced D c.args.path.now ∙ made_new c.args.synced D c.args.path.now free) }

pub returns-clause-passes : goal.returns-clause-passes
returns-clause-passes c =
    let D = disk c.args.changes.now.items in
    let at : c.in_ok-path.path.items ≡ c.args.path.now = search rules in
    let free : is_folder (D.tree c.args.path.now) ≡ false = search rules in
    let same = no_bytes c.args.synced D c.args.path.now ∙ made_new c.args.synced D c.args.path.now free in
    passes_weaken (put_more _ _ _ _ _ _ _ _ (tt {0}) at refl c.in_ok-push.ensures.items).passes
    (λ E. ⊎_elim (λ before. inl before) (λ made. inr (tt {0}, made.1 ∙ same)))

pub returns-then-is_folder_at-clause-made : goal.returns-then-is_folder_at-clause-made
returns-then-is_folder_at-clause-made c =
    let D = disk c.args.changes.now.items in
    let there : is_folder (D.tree c.args.path.now) ≡ true = search rules in
    record { tree = search rules; disk = made_old c.args.synced D c.args.path.now there }
