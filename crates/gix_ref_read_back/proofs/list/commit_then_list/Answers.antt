use Rattle.gix_ref_transaction.specs.OwnLocks.{paths_of}
use Rattle.gix_ref_transaction.specs.Packing.{mode_in}
use Rattle.gix_ref_read_back.proofs.EditedListings.{listed_edited}
use Rattle.gix_ref_read_back.proofs.list.commit_then_list.Goals as goal

pub returns-in-Ok-clause-listed : goal.returns-in-Ok-clause-listed
returns-in-Ok-clause-listed g c =
    let F = g.F.Files in
    let start = c.make.new.store in (
      start,
      c.in-Ok.ensures.made,
      listed_edited F.honest F.means F.faults g.F.Reader.ReadAt (mode_in c.args.packed_refs) c.args.store.now start c.list-items.new.store c.args.edits.items (paths_of c.in-Ok.done.locks_left.items) c.in-Ok.ensures.made.kept.made c.in-Ok.ensures.same
          c.list-items.ensures.unchanged c.args.prefix.now c.list-items.result c.list-items.ensures.lists,
    )
