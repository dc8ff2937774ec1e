use Rattle.std.proofs.Common.{subst, sym}
use Rattle.std.specs.List.{slice_index_or}
use Rattle.gix_ref_lookup.specs.Lookups.{meaning_in}
use Rattle.gix_ref_listing.proofs.WalkLemmas.{one_more}
use Rattle.gix_ref_locks.specs.LockWalks.{IsTaken, IsFileIn}
use Rattle.gix_ref_locks.proofs.FoundLocks.{stays_taken}
use Rattle.gix_ref_locks.proofs.walk.LockRoot.take_entries.Goals as goal

pub loop-entry-preserved : goal.loop-entry-preserved
loop-entry-preserved c =
    let s = meaning_in c.args.self.settings in
    let front = c.args.self.front.now in
    let folder = c.args.folder.now in
    let before = c.loop-entry.invariant in
    let step = c.in_ok-take_entry.ensures in
    let entries = c.args.entries.now in
    let i = c.loop-entry.entry-index in
    record {
      stays = λ path had. step.stays path (before.stays path had);
      adds = record {
        stays = λ name had. step.adds.stays name (before.adds.stays name had);
        inner = λ all. step.adds.inner (before.adds.inner all);
      };
      taken = one_more (IsTaken s front folder c.take_entry.new.found.keys c.take_entry.new.next.items) entries i c.entry-item.result
          (λ k d below. stays_taken s front folder c.loop-entry.found.keys c.take_entry.new.found.keys c.loop-entry.next.items c.take_entry.new.next.items (slice_index_or entries k d) step.stays step.adds.stays (before.taken k d below))
          c.loop-entry-test.true c.entry-item.is step.taken;
      only = λ T of all. step.only T (subst (IsFileIn T front folder) (sym c.entry-item.is) (of i c.entry-item.result c.loop-entry-test.true)) (before.only T of all);
    }
