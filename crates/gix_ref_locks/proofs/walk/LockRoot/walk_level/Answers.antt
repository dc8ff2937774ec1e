use Rattle.std.proofs.Common.{◌⊎◌, ◌≤◌, ◌++◌, length, inl, inr, ⊎_elim, ℕ, sym, subst, Vec, Global, drop, ◌+◌, arith}
use Rattle.std.specs.List.{All}
use Rattle.gix_ref_hash.specs.Bytes.{BeginsWith}
use Rattle.gix_ref_files.specs.Tree.{Tree}
use Rattle.gix_ref_files.specs.Lock.{lock_of}
use Rattle.gix_ref_lookup.specs.Lookups.{meaning_in}
use Rattle.gix_ref_files.proofs.ReadOnly.{reads_more}
use Rattle.gix_ref_listing.specs.Walks.{IsFolderPath, IsBelow}
use Rattle.gix_ref_listing.proofs.FolderWalks.{among_next, among_none}
use Rattle.gix_ref_locks.specs.LockFiles.{HasPath, IsLockFile}
use Rattle.gix_ref_locks.specs.LockWalks.{IsLockBelow}
use Rattle.gix_ref_locks.proofs.walk.LockRoot.walk_level.Goals as goal

pub loop-folder-preserved : goal.loop-folder-preserved
loop-folder-preserved g c =
    let F = g.F.Files in
    let s = meaning_in c.args.self.settings in
    let front = c.args.self.front.now in
    let before = c.loop-folder.invariant in
    let step = c.walk_folder.ensures in
    let done = c.in_ok-walk_folder.ensures in
    let mid = F.means c.loop-folder.files in
    let folders = c.args.folders.now in
    let i = c.loop-folder.folder-index in
    let folder = c.folder-item.result in
    let found = c.walk_folder.new.found.keys in
    let next = c.walk_folder.new.next.items in
    record {
      stays = λ path had. done.stays path (before.stays path had);
      reaches = λ h stem lock below.
          let in_mid : IsLockBelow s front mid.tree stem = subst (λ (T : Tree). IsLockBelow s front T stem) (sym (before.looks.leaves h).tree) lock in
          let here : BeginsWith stem folder.items → HasPath (front ++ lock_of stem) found ⊎ (IsBelow next stem ⊎ IsBelow (drop (i + 1) folders) stem) =
          λ begins. ⊎_elim (λ is. inl is) (λ later. inr (inl later)) (done.reaches h stem in_mid (subst (BeginsWith stem) (sym c.deref.ensures.value) begins)) in
          ⊎_elim (λ is. inl (done.stays (front ++ lock_of stem) is))
          (λ more. ⊎_elim (λ later. inr (inl (done.adds.stays stem later)))
          (λ rest. ⊎_elim here (λ others. inr (inr others)) (among_next (λ (f : Vec ℕ Global). BeginsWith stem f.items) folders i folder c.loop-folder-test.true c.folder-item.is rest)) more)
          (before.reaches h stem lock below);
      paths = done.adds.inner before.paths;
      only = λ h all. subst (λ (T : Tree). All (λ p. IsLockFile s T p.items) found) (before.looks.leaves h).tree (done.only h (subst (λ (T : Tree). All (λ p. IsLockFile s T p.items) c.loop-folder.found.keys) (sym (before.looks.leaves h).tree) (before.only h all)));
      looks = reads_more _ _ _ _ _ _ before.looks step.looks;
    }

pub walk_folder-requires-clause-path : goal.walk_folder-requires-clause-path
walk_folder-requires-clause-path g c =
    subst IsFolderPath (sym c.deref.ensures.value) (subst (λ (f : Vec ℕ Global). IsFolderPath f.items) (sym c.folder-item.is) (c.requires.paths c.loop-folder.folder-index c.folder-item.result c.loop-folder-test.true))

pub returns-clause-reaches : goal.returns-clause-reaches
returns-clause-reaches g c h stem lock below =
    let over = c.loop-folder-test.false in
    let past : length c.args.folders.now ≤ c.loop-folder.folder-index = omega arith in
    ⊎_elim (λ is. inl is)
    (λ more. ⊎_elim (λ later. inr later) (λ rest. absurd (among_none (λ (f : Vec ℕ Global). BeginsWith stem f.items) c.args.folders.now c.loop-folder.folder-index past rest)) more)
    (c.loop-folder.invariant.reaches h stem lock below)
