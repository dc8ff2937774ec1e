use Rattle.std.proofs.Common.{subst, sym}
use Rattle.std.specs.List.{slice_index_or}
use Rattle.gix_ref_listing.specs.Walks.{IsTaken, IsFileOf}
use Rattle.gix_ref_listing.proofs.WalkLemmas.{stays_taken, one_more}
use Rattle.gix_ref_listing.proofs.walk.Root.take_entries.Goals as goal

pub loop-entry-preserved : goal.loop-entry-preserved
loop-entry-preserved c =
    let before = c.loop-entry.invariant in
    let step = c.take_entry.ensures in
    let entries = c.args.entries.now in
    let i = c.loop-entry.entry-index in
    record {
      stays = λ name had. step.stays name (before.stays name had);
      adds = record {
        stays = λ name had. step.adds.stays name (before.adds.stays name had);
        inner = λ all. step.adds.inner (before.adds.inner all);
      };
      taken = one_more (IsTaken c.args.self c.args.folder.now c.take_entry.new.found.entries c.take_entry.new.next.items) entries i c.entry-item.result
          (λ k d below. stays_taken c.args.self c.args.folder.now c.loop-entry.found.entries c.take_entry.new.found.entries c.loop-entry.next.items c.take_entry.new.next.items (slice_index_or entries k d) step.stays step.adds.stays (before.taken k d below))
          c.loop-entry-test.true c.entry-item.is c.in_ok-take_entry.ensures.taken;
      files = λ first last all. step.files first last (before.files first last all);
      there = λ view of others all. step.there view (subst (IsFileOf c.args.self view c.args.folder.now) (sym c.entry-item.is) (of i c.entry-item.result c.loop-entry-test.true)) others (before.there view of others all);
    }
