use Rattle.std.proofs.Common.{◌≡◌, ◌-◌, ℕ, List, true}
use Rattle.gix_ref_target.specs.PackedRecords.{Record}
use Rattle.gix_ref_lookup.specs.Lookups.{AreHonest}
use Rattle.gix_ref_store.specs.Lookup.{AreAskedIn, AreStillAskedIn, LooksUp}
use Rattle.gix_ref_store.specs.Store.{files_of}
use Rattle.gix_ref_follow.specs.Following.{at_of, follow, following, is_one_of, IsStep, Leads}
use Rattle.gix_ref_follow.specs.Followed.{bytes_of_names, finds_in, HitsNext, WasPassed}
use Rattle.gix_ref_follow.proofs.chain.follow_among.Given as goal

-- the steps so far lead here, and the rest of the following ends as the whole does
abbrev pub invariant-loop : goal.invariant-loop
invariant-loop g l =
    let honest = g.F.Files.honest in
    let means = g.F.Files.means in
    let first = l.fn.store in
    record {
      followed : honest → (records : List Record) → AreAskedIn means first l.fn.asked records →
          following (finds_in means l.asks_records first records) (at_of l.fn.reference) ≡ follow (finds_in means l.asks_records first records) (5 - l.counter) (bytes_of_names l.reached.items) (at_of l.reference);
      leads : honest → (records : List Record) → AreAskedIn means first l.fn.asked records →
          Leads (IsStep (finds_in means l.asks_records first records)) l.counter (at_of l.fn.reference) (at_of l.reference);
      hits : honest → AreHonest l.fn.asked → Leads (HitsNext means l.asks_records first l.fn.asked) l.counter l.fn.reference l.reference;
      passed : honest → AreHonest l.fn.asked → (name : List ℕ) → is_one_of name (bytes_of_names l.reached.items) ≡ true → WasPassed means l.asks_records first l.fn.asked l.fn.reference name;
      asked : honest → AreStillAskedIn means first l.fn.asked l.asked;
      no_fault : g.F.Files.faults (files_of l.store) ≡ g.F.Files.faults (files_of first);
      unchanged : LooksUp honest means first l.store;
    }
