use Rattle.std.proofs.Common.{ℕ, List, ◌⊎◌, ◌++◌}
use Rattle.std.specs.List.{All}
use Rattle.gix_ref_hash.specs.Bytes.{BeginsWith}
use Rattle.gix_ref_files.specs.Lock.{lock_of}
use Rattle.gix_ref_lookup.specs.Lookups.{meaning_in}
use Rattle.gix_ref_files.specs.ReadOnly.{OnlyReads}
use Rattle.gix_ref_listing.specs.Walks.{IsFolderPath, IsBelow}
use Rattle.gix_ref_locks.specs.LockFiles.{AddsOnlyLocks, HasPath}
use Rattle.gix_ref_locks.specs.LockWalks.{IsLockBelow, StaysFound}
use Rattle.gix_ref_locks.proofs.walk.LockRoot.walk.Given as goal

-- each lock is found, or is below a folder of the level that comes next
abbrev pub invariant-loop : goal.invariant-loop
invariant-loop g l =
    let F = g.F.Files in
    let s = meaning_in l.self.settings in
    let front = l.self.front.now in
    let T = (F.means l.fn.files).tree in
    record {
      stays : StaysFound l.fn.found.keys l.found.keys;
      reaches : F.honest → (stem : List ℕ) → IsLockBelow s front T stem → BeginsWith stem l.start → HasPath (front ++ lock_of stem) l.found.keys ⊎ IsBelow l.folders.items stem;
      paths : All (λ f. IsFolderPath f.items) l.folders.items;
      only : F.honest → AddsOnlyLocks s T l.fn.found.keys l.found.keys;
      looks : OnlyReads F.honest F.means F.faults l.fn.files l.files;
    }
