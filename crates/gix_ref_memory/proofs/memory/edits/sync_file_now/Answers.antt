use Rattle.std.proofs.Common.{◌≡◌, true, sym, subst, rules}
use Rattle.gix_ref_files.specs.Tree.{is_file, no_tree}
use Rattle.gix_ref_files.specs.Disk.{file_synced}
use Rattle.gix_ref_files.specs.DiskCalls.{SyncingOn}
use Rattle.gix_ref_files.specs.Files.{Passes}
use Rattle.gix_ref_memory.specs.Changes.{after_changes, meaning_after}
use Rattle.gix_ref_memory.proofs.Grows.{file_sync_more, disk}
use Rattle.gix_ref_memory.proofs.memory.edits.sync_file_now.Goals as goal

pub returns-clause-answer : goal.returns-clause-answer
returns-clause-answer c =
    let at : c.in_ok-path.path.items ≡ c.args.path.now = search rules in
    let there : is_file (after_changes c.args.changes.now.items no_tree c.args.path.now) ≡ true = search rules in
    (there, (file_sync_more _ _ _ _ at c.in_ok-push.ensures.items there).disk_is)

pub returns-clause-same : goal.returns-clause-same
returns-clause-same c =
    let at : c.in_ok-path.path.items ≡ c.args.path.now = search rules in
    let there : is_file (after_changes c.args.changes.now.items no_tree c.args.path.now) ≡ true = search rules in
    (file_sync_more _ _ _ _ at c.in_ok-push.ensures.items there).tree_is

pub returns-clause-passes : goal.returns-clause-passes
returns-clause-passes c =
    let old = c.args.changes.now.items in
    let at : c.in_ok-path.path.items ≡ c.args.path.now = search rules in
    let there : is_file (after_changes old no_tree c.args.path.now) ≡ true = search rules in
    subst (λ b. Passes (meaning_after old) (meaning_after c.push.new.self.items) (SyncingOn b (disk old) (file_synced (disk old) c.args.path.now))) (sym there)
    (file_sync_more _ _ _ _ at c.in_ok-push.ensures.items there).passes
