use Rattle.std.proofs.Common.{inl, inr, ⊎_elim, ℕ, List, sym, subst, Vec, Global, ◌++◌, arith, vec_len}
use Rattle.std.specs.List.{All}
use Rattle.gix_ref_files.specs.Tree.{Tree}
use Rattle.gix_ref_files.specs.Lock.{lock_of}
use Rattle.gix_ref_lookup.specs.Lookups.{meaning_in}
use Rattle.gix_ref_files.proofs.ReadOnly.{reads_more}
use Rattle.gix_ref_listing.specs.Walks.{IsBelow}
use Rattle.gix_ref_locks.specs.LockFiles.{IsLockFile}
use Rattle.gix_ref_locks.specs.LockWalks.{IsLockBelow}
use Rattle.std.proofs.lemmas.Bool.{eqb-true}
use Rattle.gix_ref_locks.proofs.FoundLocks.{none_below}
use Rattle.gix_ref_locks.proofs.walk.LockRoot.walk.Goals as goal

pub loop-preserved : goal.loop-preserved
loop-preserved g c =
    let F = g.F.Files in
    let s = meaning_in c.args.self.settings in
    let front = c.args.self.front.now in
    let before = c.loop.invariant in
    let step = c.walk_level.ensures in
    let done = c.in_ok-folders.ensures in
    let mid = F.means c.loop.files in
    let found = c.walk_level.new.found.keys in
    record {
      stays = λ path had. done.stays path (before.stays path had);
      reaches = λ h stem lock begins.
          let in_mid : IsLockBelow s front mid.tree stem = subst (λ (T : Tree). IsLockBelow s front T stem) (sym (before.looks.leaves h).tree) lock in
          ⊎_elim (λ is. inl (done.stays (front ++ lock_of stem) is))
          (λ below. done.reaches h stem in_mid (subst (λ (fs : List (Vec ℕ Global)). IsBelow fs stem) (sym c.deref.ensures.value) below))
          (before.reaches h stem lock begins);
      paths = λ k d below. inr (done.paths k d below);
      only = λ h all. subst (λ (T : Tree). All (λ p. IsLockFile s T p.items) found) (before.looks.leaves h).tree (done.only h (subst (λ (T : Tree). All (λ p. IsLockFile s T p.items) c.loop.found.keys) (sym (before.looks.leaves h).tree) (before.only h all)));
      looks = reads_more _ _ _ _ _ _ before.looks step.looks;
    }

pub returns-then-is_empty-clause-finds : goal.returns-then-is_empty-clause-finds
returns-then-is_empty-clause-finds g c h stem lock begins =
    ⊎_elim (λ is. is) (λ below. absurd (none_below c.loop.folders.items stem (omega (arith, eqb-true (vec_len c.loop.folders) 0 (sym c.if-is_empty.ensures), c.loop.folders.ok)) below)) (c.loop.invariant.reaches h stem lock begins)
