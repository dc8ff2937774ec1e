use Rattle.gix_ref_name.specs.Names.{partial_ref_bytes}
use Rattle.gix_ref_transaction.specs.OwnLocks.{paths_of}
use Rattle.gix_ref_transaction.specs.Packing.{mode_in}
use Rattle.gix_ref_read_back.proofs.Committed.{found_edited}
use Rattle.gix_ref_read_back.proofs.find.commit_then_find.Goals as goal

pub returns-in-Ok-clause-found : goal.returns-in-Ok-clause-found
returns-in-Ok-clause-found g c =
    let F = g.F.Files in
    let start = c.make.new.store in
    let find = c.find-found.ensures in (
      start,
      c.in-Ok.ensures.made,
      found_edited F.honest F.means F.faults (mode_in c.args.packed_refs) c.args.store.now start c.find-found.new.self c.args.edits.items (paths_of c.in-Ok.done.locks_left.items) c.in-Ok.ensures.made.kept.made c.in-Ok.ensures.same
          find.unchanged g.F.Reader.ReadAt (partial_ref_bytes c.args.name) c.find-found.result
          record { finds = find.found; sees = find.seen; fails = find.failed; changes = find.unchanged },
    )
