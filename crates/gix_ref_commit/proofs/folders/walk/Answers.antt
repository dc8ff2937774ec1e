use Rattle.std.proofs.Common.{◌∙◌, ℕ, List, Vec, ap, arith, length, sym, subst}
use Rattle.std.specs.declared.alloc.Global.{Global}
use Rattle.gix_ref_files.specs.Tree.{Tree}
use Rattle.gix_ref_transaction.specs.OwnLocks.{paths_of}
use Rattle.gix_ref_commit.specs.Cleared.{HoldsMore, IsAtOrBelow}
use Rattle.gix_ref_commit.specs.internal.Walks.{IsWalked}
use Rattle.gix_ref_files.proofs.ReadOnly.{reads_more}
use Rattle.gix_ref_commit.proofs.Walking.{holds_above, walked_at, walked_more}
use Rattle.gix_ref_commit.proofs.Whole.{walk_ends, walk_goes}
use Rattle.gix_ref_commit.proofs.folders.walk.Goals as goal

pub returns-in_err-add_folders-clause-walked : goal.returns-in_err-add_folders-clause-walked
returns-in_err-add_folders-clause-walked g c =
    let look = c.in-Some.ensures.lookup.3 in
    let at : IsAtOrBelow c.args.top.now c.in-Some.folder.now.items =
    subst (λ (v : Vec ℕ Global). IsAtOrBelow c.args.top.now v.items) (sym (look.1 c.in-Some.folder.now))
    (walked_at c.args.dirs.now c.args.top.now c.deref.result.now c.loop-next.next c.in-Some.folder.now look.0
    (subst (λ (l : List (Vec ℕ Global)). IsWalked c.args.dirs.now c.args.top.now (paths_of l)) (sym c.deref.ensures.value) c.loop-next.invariant.walked)) in
    let inside : IsAtOrBelow c.args.top.now c.deref-in-loop-next.result.now =
    subst (IsAtOrBelow c.args.top.now) (sym (c.deref-in-loop-next.ensures.value ∙ (c.in-Ok.ensures.items_if_clones_equal (λ x y e. e) ∙ c.as_slice.ensures.value))) at in
    walked_more c.args.dirs.now c.args.top.now c.deref-in-loop-next.result.now (paths_of c.loop-next.found.items) (paths_of c.add_folders.new.found.items) inside c.loop-next.invariant.walked c.add_folders.ensures.more

pub returns-then-not-branch-clause-walked : goal.returns-then-not-branch-clause-walked
returns-then-not-branch-clause-walked g c =
    let look = c.in-Some.ensures.lookup.3 in
    let at : IsAtOrBelow c.args.top.now c.in-Some.folder.now.items =
    subst (λ (v : Vec ℕ Global). IsAtOrBelow c.args.top.now v.items) (sym (look.1 c.in-Some.folder.now))
    (walked_at c.args.dirs.now c.args.top.now c.deref.result.now c.loop-next.next c.in-Some.folder.now look.0
    (subst (λ (l : List (Vec ℕ Global)). IsWalked c.args.dirs.now c.args.top.now (paths_of l)) (sym c.deref.ensures.value) c.loop-next.invariant.walked)) in
    let inside : IsAtOrBelow c.args.top.now c.deref-in-loop-next.result.now =
    subst (IsAtOrBelow c.args.top.now) (sym (c.deref-in-loop-next.ensures.value ∙ (c.in-Ok.ensures.items_if_clones_equal (λ x y e. e) ∙ c.as_slice.ensures.value))) at in
    walked_more c.args.dirs.now c.args.top.now c.deref-in-loop-next.result.now (paths_of c.loop-next.found.items) (paths_of c.add_folders.new.found.items) inside c.loop-next.invariant.walked c.add_folders.ensures.more

pub returns-then-not-branch-clause-stops : goal.returns-then-not-branch-clause-stops
returns-then-not-branch-clause-stops g c h stopped =
    let look = c.in-Some.ensures.lookup.3 in
    let at : IsAtOrBelow c.args.top.now c.in-Some.folder.now.items =
    subst (λ (v : Vec ℕ Global). IsAtOrBelow c.args.top.now v.items) (sym (look.1 c.in-Some.folder.now))
    (walked_at c.args.dirs.now c.args.top.now c.deref.result.now c.loop-next.next c.in-Some.folder.now look.0
    (subst (λ (l : List (Vec ℕ Global)). IsWalked c.args.dirs.now c.args.top.now (paths_of l)) (sym c.deref.ensures.value) c.loop-next.invariant.walked)) in
    let inside : IsAtOrBelow c.args.top.now c.deref-in-loop-next.result.now =
    subst (IsAtOrBelow c.args.top.now) (sym (c.deref-in-loop-next.ensures.value ∙ (c.in-Ok.ensures.items_if_clones_equal (λ x y e. e) ∙ c.as_slice.ensures.value))) at in
    holds_above c.args.dirs.now (g.F.Files.means c.args.files.now).tree c.args.top.now c.deref-in-loop-next.result.now inside
    (subst (λ (T : Tree). HoldsMore c.args.dirs.now T c.deref-in-loop-next.result.now) (c.loop-next.invariant.reads.leaves h).tree (c.in_ok-add_folders.ensures.stops h c.if-not-branch.true))

pub loop-next-preserved : goal.loop-next-preserved
loop-next-preserved g c =
    let look = c.in-Some.ensures.lookup.3 in
    let at : IsAtOrBelow c.args.top.now c.in-Some.folder.now.items =
    subst (λ (v : Vec ℕ Global). IsAtOrBelow c.args.top.now v.items) (sym (look.1 c.in-Some.folder.now))
    (walked_at c.args.dirs.now c.args.top.now c.deref.result.now c.loop-next.next c.in-Some.folder.now look.0
    (subst (λ (l : List (Vec ℕ Global)). IsWalked c.args.dirs.now c.args.top.now (paths_of l)) (sym c.deref.ensures.value) c.loop-next.invariant.walked)) in
    let inside : IsAtOrBelow c.args.top.now c.deref-in-loop-next.result.now =
    subst (IsAtOrBelow c.args.top.now) (sym (c.deref-in-loop-next.ensures.value ∙ (c.in-Ok.ensures.items_if_clones_equal (λ x y e. e) ∙ c.as_slice.ensures.value))) at in
    record {
      walked = walked_more c.args.dirs.now c.args.top.now c.deref-in-loop-next.result.now (paths_of c.loop-next.found.items) (paths_of c.add_folders.new.found.items) inside c.loop-next.invariant.walked c.add_folders.ensures.more;
      reads = reads_more _ _ _ _ _ _ c.loop-next.invariant.reads c.add_folders.ensures.reads;
      searched = λ h.
          walk_goes (g.F.Files.means c.args.files.now).tree (g.F.Files.means c.loop-next.files).tree c.deref-in-loop-next.result.now c.loop-next.found.items c.deref.result.now (paths_of c.add_folders.new.found.items) c.loop-next.next c.in-Some.folder.now
          c.deref.ensures.value look.0 look.1 (c.deref-in-loop-next.ensures.value ∙ (c.in-Ok.ensures.items_if_clones_equal (λ x y e. e) ∙ c.as_slice.ensures.value)) (c.loop-next.invariant.reads.leaves h).tree
          (c.loop-next.invariant.searched h) (c.in_ok-add_folders.ensures.adds h c.if-not-branch.false);
    }

pub returns-in_default-clause-whole : goal.returns-in_default-clause-whole
returns-in_default-clause-whole g c h all =
    walk_ends (g.F.Files.means c.args.files.now).tree c.loop-next.found.items c.loop-next.next
    (omega (arith, c.in_default.ensures.lookup.3, ap length c.deref.ensures.value)) (c.loop-next.invariant.searched h)
