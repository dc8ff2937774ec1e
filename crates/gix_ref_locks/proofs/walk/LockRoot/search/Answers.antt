use Rattle.std.proofs.Common.{◌++◌, codes, inr, ⊎_elim, refl, sym, subst, ap, ℕ, length, Vec, Global}
use Rattle.std.specs.List.{All}
use Rattle.gix_ref_files.specs.Tree.{Tree}
use Rattle.gix_ref_files.specs.Lock.{lock_of}
use Rattle.gix_ref_lookup.specs.Lookups.{meaning_in}
use Rattle.gix_ref_listing.specs.Walks.{IsInnerPath}
use Rattle.gix_ref_listing.proofs.StoreWalks.{all_none}
use Rattle.gix_ref_locks.specs.LockFiles.{IsLockFile}
use Rattle.gix_ref_locks.specs.LockWalks.{IsLockBelow}
use Rattle.gix_ref_locks.proofs.LockFolders.{not_inner}
use Rattle.gix_ref_locks.proofs.walk.LockRoot.search.Goals as goal

pub walk-requires-clause-path : goal.walk-requires-clause-path
walk-requires-clause-path g c = inr (codes "refs", refl)

pub walk-requires-2-clause-path : goal.walk-requires-2-clause-path
walk-requires-2-clause-path g c = inr (codes "worktrees", refl)

pub returns-clause-stays : goal.returns-clause-stays
returns-clause-stays g c path had = c.in_ok-walk-2.ensures.stays path (c.in_ok-walk.ensures.stays path (c.in_ok-walk_folder.ensures.stays path had))

pub returns-clause-finds : goal.returns-clause-finds
returns-clause-finds g c h stem lock sought =
    let s = meaning_in c.args.self.settings in
    let front = c.args.self.front.now in
    let path = front ++ lock_of stem in
    let first = (c.walk_folder.ensures.looks.leaves h).tree in
    let second = (c.walk.ensures.looks.leaves h).tree in
    let lock_1 = subst (λ (T : Tree). IsLockBelow s front T stem) (sym first) lock in
    let lock_2 = subst (λ (T : Tree). IsLockBelow s front T stem) (sym second) lock_1 in
    let inner = c.in_ok-walk_folder.ensures.adds.inner (all_none (λ (f : Vec ℕ Global). IsInnerPath f.items) c.new-inner.result.items (ap length c.new-inner.ensures.items)) in
    ⊎_elim (λ none. ⊎_elim (λ is. c.in_ok-walk-2.ensures.stays path (c.in_ok-walk.ensures.stays path is)) (λ below. absurd (not_inner stem none c.walk_folder.new.next.items inner below)) (c.in_ok-walk_folder.ensures.reaches h stem lock (stem, refl)))
    (λ deep. ⊎_elim (λ refs. c.in_ok-walk-2.ensures.stays path (c.in_ok-walk.ensures.finds h stem lock_1 refs)) (λ linked. c.in_ok-walk-2.ensures.finds h stem lock_2 linked) deep)
    sought

pub returns-clause-only : goal.returns-clause-only
returns-clause-only g c h all =
    let s = meaning_in c.args.self.settings in
    let first = (c.walk_folder.ensures.looks.leaves h).tree in
    let second = (c.walk.ensures.looks.leaves h).tree in
    let all_1 = subst (λ (T : Tree). All (λ (p : Vec ℕ Global). IsLockFile s T p.items) c.walk_folder.new.found.keys) (sym first) (c.in_ok-walk_folder.ensures.only h all) in
    let all_2 = subst (λ (T : Tree). All (λ (p : Vec ℕ Global). IsLockFile s T p.items) c.walk.new.found.keys) (sym second) (c.in_ok-walk.ensures.only h all_1) in
    subst (λ (T : Tree). All (λ (p : Vec ℕ Global). IsLockFile s T p.items) c.walk-2.new.found.keys) first
    (subst (λ (T : Tree). All (λ (p : Vec ℕ Global). IsLockFile s T p.items) c.walk-2.new.found.keys) second (c.in_ok-walk-2.ensures.only h all_2))
