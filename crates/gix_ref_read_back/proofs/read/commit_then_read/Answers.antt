use Rattle.gix_ref_name.specs.Names.{partial_ref_bytes}
use Rattle.gix_ref_transaction.specs.OwnLocks.{paths_of}
use Rattle.gix_ref_transaction.specs.Packing.{mode_in}
use Rattle.gix_ref_read_back.proofs.Committed.{found_edited, still_made}
use Rattle.gix_ref_store.proofs.SameStores.{same_on}
use Rattle.gix_ref_read_back.proofs.EditedListings.{listed_edited}
use Rattle.gix_ref_read_back.proofs.read.commit_then_read.Goals as goal

pub returns-in-Ok-clause-read : goal.returns-in-Ok-clause-read
returns-in-Ok-clause-read g c =
    let F = g.F.Files in
    let G = g.F.Reader.ReadAt in
    let mode = mode_in c.args.packed_refs in
    let old = c.args.store.now in
    let start = c.make.new.store in
    let mid = c.find-found.new.self in
    let edits = c.args.edits.items in
    let left = paths_of c.in-Ok.done.locks_left.items in
    let made = c.in-Ok.ensures.made.kept.made in
    let same = c.in-Ok.ensures.same in
    let find = c.find-found.ensures in
    record {
      start = start;
      mid = mid;
      made = c.in-Ok.ensures.made;
      finds = found_edited F.honest F.means F.faults mode old start mid edits left made same find.unchanged G (partial_ref_bytes c.args.name) c.find-found.result
          record { finds = find.found; sees = find.seen; fails = find.failed; changes = find.unchanged };
      lists = listed_edited F.honest F.means F.faults G mode old mid c.list-items.new.store edits left (still_made F.honest F.means F.faults mode old start mid edits left made same find.unchanged)
          (same_on old start mid same find.unchanged.same) c.list-items.ensures.unchanged c.args.prefix.now c.list-items.result c.list-items.ensures.lists;
    }
