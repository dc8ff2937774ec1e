use Rattle.std.proofs.Common.{ℕ, ◌<◌}
use Rattle.std.specs.List.{All, slice_index_or}
use Rattle.gix_ref_files.specs.declared.files.Entry.{Entry}
use Rattle.gix_ref_files.specs.Tree.{Tree}
use Rattle.gix_ref_lookup.specs.Lookups.{meaning_in}
use Rattle.gix_ref_listing.specs.Walks.{AddsFolders}
use Rattle.gix_ref_locks.specs.LockFiles.{AddsOnlyLocks}
use Rattle.gix_ref_locks.specs.LockWalks.{IsFileIn, IsTaken, StaysFound}
use Rattle.gix_ref_locks.proofs.walk.LockRoot.take_entries.Given as goal

-- the entries that were seen are taken
abbrev pub invariant-loop-entry : goal.invariant-loop-entry
invariant-loop-entry l =
    let s = meaning_in l.self.settings in
    let front = l.self.front.now in
    record {
      stays : StaysFound l.fn.found.keys l.found.keys;
      adds : AddsFolders l.fn.next.items l.next.items;
      taken : (k : ℕ) (d : Entry) → k < l.entry-index → IsTaken s front l.folder l.found.keys l.next.items (slice_index_or l.entries k d);
      only : (T : Tree) → All (IsFileIn T front l.folder) l.entries → AddsOnlyLocks s T l.fn.found.keys l.found.keys;
    }
