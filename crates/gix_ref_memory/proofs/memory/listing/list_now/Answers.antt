use Rattle.std.proofs.Common.{◌+◌, Vec, sym, subst, inr, ap, ◌∙◌}
use Rattle.std.specs.declared.alloc.Global.{Global}
use Rattle.gix_ref_files.specs.Tree.{no_tree}
use Rattle.gix_ref_memory.specs.Changes.{after_changes}
use Rattle.gix_ref_memory.specs.internal.Listing.{ListsSome}
use Rattle.gix_ref_files.specs.declared.files.Entry.{Entry}
use Rattle.gix_ref_memory.proofs.Placed.{placed}
use Rattle.gix_ref_memory.proofs.ListingLemmas.{Remains, lists_none, remains_named, remains_else, all_listed}
use Rattle.gix_ref_memory.proofs.memory.listing.list_now.Goals as goal
use Rattle.gix_ref_memory.proofs.memory.listing.list_now.Goals.{in-Some+in_ok-add_entry, in_default}

pub loop-change-init : goal.loop-change-init
loop-change-init c = record {
  some = subst (ListsSome (after_changes c.args.changes.now no_tree) c.args.folder.now) (sym c.new-entries.ensures.items) (lists_none (after_changes c.args.changes.now no_tree) c.args.folder.now);
  remains = λ name good there. inr (placed c.args.changes.now _ there);
}

pub returns : goal.returns
returns c = all_listed c.args.changes.now c.loop-change.change-index (after_changes c.args.changes.now no_tree) c.args.folder.now c.loop-change.entries.items c.loop-change-test.false c.loop-change.invariant.some c.loop-change.invariant.remains

pub loop-change-preserved : goal.loop-change-preserved
loop-change-preserved c =
    let changes = c.args.changes.now in
    let i = c.loop-change.change-index in
    let T = after_changes changes no_tree in
    let p = c.args.folder.now in
    let so_far = c.loop-change.invariant in
    let change = c.change-item.result in
    elim c.match-child.branch [
      | in-Some+in_ok-add_entry w ↦
          let lists = w.in_ok-add_entry.ensures in
          let entries_are = ap (λ (v : Vec Entry Global). v.items) w.entries-is in
          record {
            some = subst (ListsSome T p) (sym entries_are) (lists.good so_far.some);
            remains = subst (Remains changes (i + 1) T p) (sym entries_are)
                (remains_named changes i T p c.loop-change.entries.items _ change w.in-Some.name.now c.loop-change-test.true c.change-item.is (sym c.place-at.ensures ∙ w.in-Some.ensures.1) lists so_far.remains);
          }
      | in_default w ↦
          let entries_are = ap (λ (v : Vec Entry Global). v.items) w.entries-is in
          record {
            some = subst (ListsSome T p) (sym entries_are) so_far.some;
            remains = subst (Remains changes (i + 1) T p) (sym entries_are)
                (remains_else changes i T p c.loop-change.entries.items change c.loop-change-test.true c.change-item.is (λ name good is. w.in_default.ensures name good (c.place-at.ensures ∙ is)) so_far.remains);
          }
    ]
