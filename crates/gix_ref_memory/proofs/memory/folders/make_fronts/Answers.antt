use Rattle.std.proofs.Common.{◌≡◌, ◌+◌, ◌-◌, ℕ, true, sym, ap, subst, arith}
use Rattle.std.specs.Prelude.{◌==◌}
use Rattle.std.proofs.lemmas.Bool.{ne_eqb}
use Rattle.std.proofs.lemmas.List.{take_all}
use Rattle.gix_ref_files.specs.Tree.{Path, has_folders, no_tree}
use Rattle.gix_ref_memory.specs.Changes.{after_changes}
use Rattle.gix_ref_memory.specs.declared.memory.changes.Change.{Change}
use Rattle.std.proofs.Common.{List}
use Rattle.gix_ref_memory.proofs.Fronts.{Walk, walk_begins, walk_on, walk_made, adds_all}
use Rattle.gix_ref_memory.proofs.memory.folders.make_fronts.Goals as goal
use Rattle.gix_ref_memory.proofs.memory.folders.make_fronts.Goals.{then-path-i-eq47+else-left-eq0+in_ok-make_folder, else-path-i-eq47}

pub loop-i-init : goal.loop-i-init
loop-i-init c = walk_begins c.args.synced c.args.changes.now.items c.args.path.now c.args.most

pub loop-i-preserved : goal.loop-i-preserved
loop-i-preserved c =
    let first = c.args.changes.now.items in
    let p = c.args.path.now in
    let most = c.args.most in
    let i = c.loop-i.i in
    elim c.if-path-i-eq47.branch [
      | then-path-i-eq47+else-left-eq0+in_ok-make_folder w ↦
          let now = w.make_folder.new.changes.items in
          let left = c.loop-i.left - 1 in
          let one_less : c.loop-i.left ≡ left + 1 = omega arith in
          let so_far = subst (λ (n : ℕ). Walk c.args.synced first c.loop-i.changes.items p most n i) one_less c.loop-i.invariant in
          let made = walk_made c.args.synced first c.loop-i.changes.items now p most left i c.loop-i.auto.i c.loop-i-test.true (ap (λ (b : ℕ). b == 47) w.if-path-i-eq47.true) so_far
          w.in_ok-make_folder.ensures.made.tree (w.make_folder.ensures.shape so_far.folders) w.make_folder.ensures.kept w.in_ok-make_folder.ensures.made.disk w.make_folder.ensures.passes in
          subst (λ (n : ℕ). Walk c.args.synced first c.if-path-i-eq47.changes.items p most n (i + 1)) (sym w.left-is)
          (subst (λ (l : List Change). Walk c.args.synced first l p most left (i + 1)) (sym (ap (λ (v : _). v.items) w.changes-is)) made)
      | else-path-i-eq47 w ↦
          let on = walk_on c.args.synced first c.loop-i.changes.items p most c.loop-i.left i c.loop-i.auto.i c.loop-i-test.true (ne_eqb _ _ w.if-path-i-eq47.false) c.loop-i.invariant in
          subst (λ (n : ℕ). Walk c.args.synced first c.if-path-i-eq47.changes.items p most n (i + 1)) (sym w.left-is)
          (subst (λ (l : List Change). Walk c.args.synced first l p most c.loop-i.left (i + 1)) (sym (ap (λ (v : _). v.items) w.changes-is)) on)
    ]

pub returns-clause-all : goal.returns-clause-all
returns-clause-all c enough =
    let p = c.args.path.now in
    let T = after_changes c.loop-i.changes.items no_tree in
    record {
      leads = subst (λ (q : Path). has_folders T q ≡ true) (take_all c.loop-i.i p c.loop-i-test.false) c.loop-i.invariant.folders;
      adds = adds_all c.args.synced c.args.changes.now.items c.loop-i.changes.items p c.args.most c.loop-i.left c.loop-i.i c.loop-i-test.false c.loop-i.invariant;
    }
