use Rattle.std.proofs.Common.{ℕ, List, ◌⊎◌, ◌++◌, drop}
use Rattle.std.specs.List.{All}
use Rattle.gix_ref_files.specs.Lock.{lock_of}
use Rattle.gix_ref_lookup.specs.Lookups.{meaning_in}
use Rattle.gix_ref_files.specs.ReadOnly.{OnlyReads}
use Rattle.gix_ref_listing.specs.Walks.{IsInnerPath, IsBelow}
use Rattle.gix_ref_locks.specs.LockFiles.{AddsOnlyLocks, HasPath}
use Rattle.gix_ref_locks.specs.LockWalks.{IsLockBelow, StaysFound}
use Rattle.gix_ref_locks.proofs.walk.LockRoot.walk_level.Given as goal

-- the locks below the folders that were seen are found, or are below a folder of the next level
abbrev pub invariant-loop-folder : goal.invariant-loop-folder
invariant-loop-folder g l =
    let F = g.F.Files in
    let s = meaning_in l.self.settings in
    let front = l.self.front.now in
    let T = (F.means l.fn.files).tree in
    record {
      stays : StaysFound l.fn.found.keys l.found.keys;
      reaches : F.honest → (stem : List ℕ) → IsLockBelow s front T stem → IsBelow l.folders stem → HasPath (front ++ lock_of stem) l.found.keys ⊎ (IsBelow l.next.items stem ⊎ IsBelow (drop l.folder-index l.folders) stem);
      paths : All (λ f. IsInnerPath f.items) l.next.items;
      only : F.honest → AddsOnlyLocks s T l.fn.found.keys l.found.keys;
      looks : OnlyReads F.honest F.means F.faults l.fn.files l.files;
    }
