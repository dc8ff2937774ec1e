use Rattle.gix_ref_store.specs.Listings.{items_ahead}
use Rattle.gix_ref_read_back.proofs.EditedListings.{AreSoFar}
use Rattle.gix_ref_read_back.proofs.list.collect.Given as goal

abbrev pub decreases-loop-all : goal.decreases-loop-all
decreases-loop-all g l = items_ahead l.items

-- what was taken is what the iterator gave so far; and the store is the same, with the same files
abbrev pub invariant-loop-all : goal.invariant-loop-all
invariant-loop-all g l = AreSoFar g.F.Files.honest g.F.Files.means g.F.Files.faults l.fn.items l.items l.all.items
