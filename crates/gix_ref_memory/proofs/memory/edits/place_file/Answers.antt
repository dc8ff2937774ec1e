use Rattle.std.proofs.Common.{◌≡◌, Some, false, true, List, ℕ, length, take, sym, ◌∙◌, ap, subst, rules}
use Rattle.std.proofs.lemmas.List.{take_all}
use Rattle.gix_ref_files.specs.Tree.{Tree, Path, is_folder, has_folders, IsShaped, no_tree, put, fronts, with_folders}
use Rattle.gix_ref_files.specs.Tree.Content.{File}
use Rattle.gix_ref_memory.specs.Changes.{after_changes, with_item_as, with_folders_as}
use Rattle.gix_ref_files.specs.Disk.{Disk}
use Rattle.gix_ref_files.proofs.Puts.{shaped_put}
use Rattle.gix_ref_files.proofs.PathFronts.{fronts_short, own_untouched}
use Rattle.gix_ref_memory.proofs.Grows.{put_more, disk}
use Rattle.gix_ref_memory.proofs.memory.edits.place_file.Goals as goal

pub returns-clause-placed : goal.returns-clause-placed
returns-clause-placed c =
    let before = after_changes c.args.changes.now.items no_tree in
    let p = c.args.path.now in
    let at : c.in_ok-path.path.items ≡ p = search rules in
    let is : c.in_ok-bytes.bytes.items ≡ c.args.bytes.now = search rules in
    let made : after_changes c.make_fronts.new.changes.items no_tree ≡ with_folders before (take (length p) (fronts p)) = c.in_ok-make_fronts.ensures.made.tree in
    let all : take (length p) (fronts p) ≡ fronts p = take_all (length p) (fronts p) (fronts_short p) in
    (put_more _ _ _ _ _ _ _ _ (tt {0}) at (ap (λ (l : List ℕ). Some (File l)) is) c.in_ok-push.ensures.items).tree_is
    ∙ ap (λ (T : Tree). put T p (Some (File c.args.bytes.now))) (made ∙ ap (λ (l : List Path). with_folders before l) all)

pub returns-clause-shape : goal.returns-clause-shape
returns-clause-shape c no_folder shape =
    let before = after_changes c.args.changes.now.items no_tree in
    let p = c.args.path.now in
    let at : c.in_ok-path.path.items ≡ p = search rules in
    let is : c.in_ok-bytes.bytes.items ≡ c.args.bytes.now = search rules in
    let mid = after_changes c.make_fronts.new.changes.items no_tree in
    let made : mid ≡ with_folders before (take (length p) (fronts p)) = c.in_ok-make_fronts.ensures.made.tree in
    let all : take (length p) (fronts p) ≡ fronts p = take_all (length p) (fronts p) (fronts_short p) in
    let free : is_folder (mid p) ≡ false = ap (λ (T : Tree). is_folder (T p)) (made ∙ ap (λ (l : List Path). with_folders before l) all) ∙ ap is_folder (own_untouched before p) ∙ no_folder in
    let leads : has_folders mid p ≡ true = (c.in_ok-make_fronts.ensures.all (fronts_short p)).leads in
    subst IsShaped (sym (put_more _ _ _ _ _ _ _ _ (tt {0}) at (ap (λ (l : List ℕ). Some (File l)) is) c.in_ok-push.ensures.items).tree_is)
    (shaped_put mid p (Some (File c.args.bytes.now)) (c.make_fronts.ensures.shape shape) free (λ some. leads))

pub returns-clause-disk : goal.returns-clause-disk
returns-clause-disk c =
    let before = disk c.args.changes.now.items in
    let p = c.args.path.now in
    let at : c.in_ok-path.path.items ≡ p = search rules in
    let is : c.in_ok-bytes.bytes.items ≡ c.args.bytes.now = search rules in
    let made : disk c.make_fronts.new.changes.items ≡ with_folders_as true before (take (length p) (fronts p)) = c.in_ok-make_fronts.ensures.made.disk in
    let all : take (length p) (fronts p) ≡ fronts p = take_all (length p) (fronts p) (fronts_short p) in
    (put_more _ _ _ _ _ _ _ _ (tt {0}) at (ap (λ (l : List ℕ). Some (File l)) is) c.in_ok-push.ensures.items).disk_is
    ∙ ap (λ (D : Disk). with_item_as true D p (record { content = Some (File c.args.bytes.now); synced = length c.args.bytes.now })) (made ∙ ap (λ (l : List Path). with_folders_as true before l) all)
