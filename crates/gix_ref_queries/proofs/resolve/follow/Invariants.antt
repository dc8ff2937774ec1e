use Rattle.std.proofs.Common.{◌≡◌, ◌-◌, List, ℕ}
use Rattle.gix_ref_name.specs.Names.{full_bytes}
use Rattle.gix_ref_target.specs.PackedRecords.{Record}
use Rattle.gix_ref_queries.specs.Resolving.{targets_in}
use Rattle.gix_ref_store.specs.Lookup.{AreRecordsIn, LooksUp}
use Rattle.gix_ref_queries.specs.Resolving.{IsOnWay, NameEnd, SeesEnd, SeesOnWay, resolved}
use Rattle.gix_ref_store.specs.Store.{files_of}
use Rattle.gix_ref_queries.proofs.resolve.follow.Given as goal

-- the following ends as that of the last name over the names that are left, and what is on the way from there is on the way
abbrev pub invariant-loop : goal.invariant-loop
invariant-loop g l =
    let F = g.F.Files in
    record {
      ends : F.honest → (records : List Record) → AreRecordsIn F.means l.fn.store records → resolved (targets_in F.means l.fn.store records) 5 (full_bytes l.fn.name) ≡ resolved (targets_in F.means l.fn.store records) (5 - l.counter) (full_bytes l.last);
      on_way : F.honest → (records : List Record) → AreRecordsIn F.means l.fn.store records → (name : List ℕ) → IsOnWay (targets_in F.means l.fn.store records) (5 - l.counter) (full_bytes l.last) name → IsOnWay (targets_in F.means l.fn.store records) 5 (full_bytes l.fn.name) name;
      sees : F.honest → (end : NameEnd) → SeesEnd F.means l.fn.store (5 - l.counter) (full_bytes l.last) end → SeesEnd F.means l.fn.store 5 (full_bytes l.fn.name) end;
      sees_way : F.honest → (name : List ℕ) → SeesOnWay F.means l.fn.store (5 - l.counter) (full_bytes l.last) name → SeesOnWay F.means l.fn.store 5 (full_bytes l.fn.name) name;
      no_fault : F.faults (files_of l.store) ≡ F.faults (files_of l.fn.store);
      unchanged : LooksUp F.honest F.means l.fn.store l.store;
    }
