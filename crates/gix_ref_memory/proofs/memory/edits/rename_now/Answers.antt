use Rattle.std.proofs.Common.{◌≡◌, List, true, false, Some, rules, sym, subst, ap, ◌∙◌}
use Rattle.gix_ref_files.specs.Tree.{is_file, is_folder, has_folders, IsShaped, no_tree}
use Rattle.gix_ref_files.specs.Tree.Content.{File}
use Rattle.gix_ref_files.specs.Calls.{IsMovable}
use Rattle.gix_ref_memory.specs.Changes.{after_changes, items}
use Rattle.gix_ref_files.proofs.Puts.{shaped_moved}
use Rattle.gix_ref_memory.proofs.Grows.{move_more, disk}
use Rattle.gix_ref_files.specs.Disk.{DiskItem, nothing}
use Rattle.gix_ref_memory.specs.declared.memory.changes.Change.{Change}
use Rattle.gix_ref_memory.proofs.Items.{items_synced}
use Rattle.gix_ref_memory.proofs.memory.edits.rename_now.Goals as goal

pub returns-in_ok-push-in-Some-FileOf-clause-answer : goal.returns-in_ok-push-in-Some-FileOf-clause-answer
returns-in_ok-push-in-Some-FileOf-clause-answer c =
    let T = after_changes c.args.changes.now.items no_tree in
    let from : c.in_ok-from-in-Some-FileOf.from.items ≡ c.args.from.now = search rules in
    let to : c.in_ok-to-in-Some-FileOf.to.items ≡ c.args.to.now = search rules in
    let is : c.in_ok-bytes-in-Some-FileOf.bytes.items ≡ c.in-Some-FileOf.old.now = search rules in
    let given : c.deref-in-Some-FileOf-3.result.now ≡ c.args.changes.now.items = search rules in
    let count : c.item_at-synced.result.synced ≡ (disk c.args.changes.now.items).unsynced.synced c.args.from.now = ap (λ (i : DiskItem). i.synced) c.item_at-synced.ensures ∙ (ap (λ (l : List Change). (items l c.args.from.now nothing).synced) given ∙ items_synced c.args.changes.now.items c.args.from.now) in
    let stood : Some (File c.in-Some-FileOf.old.now) ≡ T c.args.from.now = search rules in
    let no_folder : is_folder (T c.args.to.now) ≡ false = search rules in
    let below : has_folders T c.args.to.now ≡ true = search rules in
    let a_file : is_file (T c.args.from.now) ≡ true = search rules in
    let movable : IsMovable T c.args.from.now c.args.to.now = (a_file, no_folder, below) in
    (movable, (move_more _ _ _ _ _ _ _ _ _ _ movable from to is stood count c.in_ok-push-in-Some-FileOf.ensures.items).tree_is)

pub returns-in_ok-push-in-Some-FileOf-clause-passes : goal.returns-in_ok-push-in-Some-FileOf-clause-passes
returns-in_ok-push-in-Some-FileOf-clause-passes c =
    let T = after_changes c.args.changes.now.items no_tree in
    let from : c.in_ok-from-in-Some-FileOf.from.items ≡ c.args.from.now = search rules in
    let to : c.in_ok-to-in-Some-FileOf.to.items ≡ c.args.to.now = search rules in
    let is : c.in_ok-bytes-in-Some-FileOf.bytes.items ≡ c.in-Some-FileOf.old.now = search rules in
    let given : c.deref-in-Some-FileOf-3.result.now ≡ c.args.changes.now.items = search rules in
    let count : c.item_at-synced.result.synced ≡ (disk c.args.changes.now.items).unsynced.synced c.args.from.now = ap (λ (i : DiskItem). i.synced) c.item_at-synced.ensures ∙ (ap (λ (l : List Change). (items l c.args.from.now nothing).synced) given ∙ items_synced c.args.changes.now.items c.args.from.now) in
    let stood : Some (File c.in-Some-FileOf.old.now) ≡ T c.args.from.now = search rules in
    let no_folder : is_folder (T c.args.to.now) ≡ false = search rules in
    let below : has_folders T c.args.to.now ≡ true = search rules in
    let a_file : is_file (T c.args.from.now) ≡ true = search rules in
    let movable : IsMovable T c.args.from.now c.args.to.now = (a_file, no_folder, below) in
    (move_more _ _ _ _ _ _ _ _ _ _ movable from to is stood count c.in_ok-push-in-Some-FileOf.ensures.items).passes

pub returns-in_ok-push-in-Some-FileOf-clause-disk : goal.returns-in_ok-push-in-Some-FileOf-clause-disk
returns-in_ok-push-in-Some-FileOf-clause-disk c =
    let T = after_changes c.args.changes.now.items no_tree in
    let from : c.in_ok-from-in-Some-FileOf.from.items ≡ c.args.from.now = search rules in
    let to : c.in_ok-to-in-Some-FileOf.to.items ≡ c.args.to.now = search rules in
    let is : c.in_ok-bytes-in-Some-FileOf.bytes.items ≡ c.in-Some-FileOf.old.now = search rules in
    let given : c.deref-in-Some-FileOf-3.result.now ≡ c.args.changes.now.items = search rules in
    let count : c.item_at-synced.result.synced ≡ (disk c.args.changes.now.items).unsynced.synced c.args.from.now = ap (λ (i : DiskItem). i.synced) c.item_at-synced.ensures ∙ (ap (λ (l : List Change). (items l c.args.from.now nothing).synced) given ∙ items_synced c.args.changes.now.items c.args.from.now) in
    let stood : Some (File c.in-Some-FileOf.old.now) ≡ T c.args.from.now = search rules in
    let no_folder : is_folder (T c.args.to.now) ≡ false = search rules in
    let below : has_folders T c.args.to.now ≡ true = search rules in
    let a_file : is_file (T c.args.from.now) ≡ true = search rules in
    let movable : IsMovable T c.args.from.now c.args.to.now = (a_file, no_folder, below) in
    (move_more _ _ _ _ _ _ _ _ _ _ movable from to is stood count c.in_ok-push-in-Some-FileOf.ensures.items).disk_is

pub returns-in_ok-push-in-Some-FileOf-clause-shape : goal.returns-in_ok-push-in-Some-FileOf-clause-shape
returns-in_ok-push-in-Some-FileOf-clause-shape c shape =
    let T = after_changes c.args.changes.now.items no_tree in
    let from : c.in_ok-from-in-Some-FileOf.from.items ≡ c.args.from.now = search rules in
    let to : c.in_ok-to-in-Some-FileOf.to.items ≡ c.args.to.now = search rules in
    let is : c.in_ok-bytes-in-Some-FileOf.bytes.items ≡ c.in-Some-FileOf.old.now = search rules in
    let given : c.deref-in-Some-FileOf-3.result.now ≡ c.args.changes.now.items = search rules in
    let count : c.item_at-synced.result.synced ≡ (disk c.args.changes.now.items).unsynced.synced c.args.from.now = ap (λ (i : DiskItem). i.synced) c.item_at-synced.ensures ∙ (ap (λ (l : List Change). (items l c.args.from.now nothing).synced) given ∙ items_synced c.args.changes.now.items c.args.from.now) in
    let stood : Some (File c.in-Some-FileOf.old.now) ≡ T c.args.from.now = search rules in
    let no_folder : is_folder (T c.args.to.now) ≡ false = search rules in
    let below : has_folders T c.args.to.now ≡ true = search rules in
    let a_file : is_file (T c.args.from.now) ≡ true = search rules in
    let movable : IsMovable T c.args.from.now c.args.to.now = (a_file, no_folder, below) in
    let whole = (move_more _ _ _ _ _ _ _ _ _ _ movable from to is stood count c.in_ok-push-in-Some-FileOf.ensures.items).tree_is in
    subst IsShaped (sym whole) (shaped_moved T c.args.from.now c.args.to.now shape a_file no_folder below)
