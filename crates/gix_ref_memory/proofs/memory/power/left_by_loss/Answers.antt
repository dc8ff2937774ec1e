use Rattle.std.proofs.Common.{List, sym, ◌∙◌, ap, subst}
use Rattle.gix_ref_files.specs.Tree.{no_tree, IsShaped}
use Rattle.gix_ref_files.specs.Disk.{reachable}
use Rattle.gix_ref_files.proofs.LockLemmas.{if_ok}
use Rattle.gix_ref_files.proofs.Shaped.{standing_shaped}
use Rattle.gix_ref_memory.specs.Changes.{after_changes}
use Rattle.gix_ref_memory.specs.declared.memory.changes.Change.{Change}
use Rattle.gix_ref_memory.proofs.Knowing.{is_lost, none_kept, is_settled}
use Rattle.gix_ref_memory.proofs.memory.power.left_by_loss.Goals as goal

pub returns-clause-lost : goal.returns-clause-lost
returns-clause-lost c =
    let T = after_changes c.in_ok-entries.entries.items no_tree in
    let same = ap (λ (l : List Change). reachable (after_changes l no_tree)) c.deref.ensures.value in
    if_ok c.reachable_entries.result (λ left tree. is_lost c.args.changes.now c.args.pick T (after_changes left.items no_tree) c.in_ok-entries.ensures (tree ∙ same)) c.reachable_entries.ensures.tree

pub returns-clause-none : goal.returns-clause-none
returns-clause-none c zero =
    let T = after_changes c.in_ok-entries.entries.items no_tree in
    let same = ap (λ (l : List Change). reachable (after_changes l no_tree)) c.deref.ensures.value in
    if_ok c.reachable_entries.result (λ left tree. none_kept c.args.changes.now c.args.pick T (after_changes left.items no_tree) zero c.in_ok-entries.ensures (tree ∙ same)) c.reachable_entries.ensures.tree

pub returns-clause-settled : goal.returns-clause-settled
returns-clause-settled c = if_ok c.reachable_entries.result (λ left synced. is_settled left.items synced) c.reachable_entries.ensures.synced

pub returns-clause-shape : goal.returns-clause-shape
returns-clause-shape c =
    if_ok c.reachable_entries.result (λ left tree. subst IsShaped (sym tree) (standing_shaped (after_changes c.deref.result.now no_tree))) c.reachable_entries.ensures.tree
