use Rattle.std.proofs.Common.{◌≡◌, true, sym, subst, rules}
use Rattle.gix_ref_files.specs.Tree.{is_folder, no_tree}
use Rattle.gix_ref_files.specs.Disk.{folder_synced}
use Rattle.gix_ref_files.specs.DiskCalls.{SyncingOn}
use Rattle.gix_ref_files.specs.Files.{Passes}
use Rattle.gix_ref_memory.specs.Changes.{after_changes, meaning_after}
use Rattle.gix_ref_memory.proofs.Grows.{folder_sync_more, disk}
use Rattle.gix_ref_memory.proofs.memory.edits.sync_folder_now.Goals as goal

pub returns-clause-answer : goal.returns-clause-answer
returns-clause-answer c =
    let at : c.in_ok-path.path.items ≡ c.args.path.now = search rules in
    let there : is_folder (after_changes c.args.changes.now.items no_tree c.args.path.now) ≡ true = search rules in
    (there, (folder_sync_more _ _ _ _ at c.in_ok-push.ensures.items).disk_is)

pub returns-clause-same : goal.returns-clause-same
returns-clause-same c =
    let at : c.in_ok-path.path.items ≡ c.args.path.now = search rules in
    let there : is_folder (after_changes c.args.changes.now.items no_tree c.args.path.now) ≡ true = search rules in
    (folder_sync_more _ _ _ _ at c.in_ok-push.ensures.items).tree_is

pub returns-clause-passes : goal.returns-clause-passes
returns-clause-passes c =
    let old = c.args.changes.now.items in
    let at : c.in_ok-path.path.items ≡ c.args.path.now = search rules in
    let there : is_folder (after_changes old no_tree c.args.path.now) ≡ true = search rules in
    subst (λ b. Passes (meaning_after old) (meaning_after c.push.new.self.items) (SyncingOn b (disk old) (folder_synced (disk old) c.args.path.now))) (sym there)
    (folder_sync_more _ _ _ _ at c.in_ok-push.ensures.items).passes
