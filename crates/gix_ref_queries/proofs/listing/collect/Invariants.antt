use Rattle.gix_ref_store.specs.Listings.{items_ahead}
use Rattle.gix_ref_queries.specs.Patterns.{texts}
use Rattle.gix_ref_queries.proofs.Listed.{AreSoFar}
use Rattle.gix_ref_queries.proofs.listing.collect.Given as goal

abbrev pub decreases-loop-reference : goal.decreases-loop-reference
decreases-loop-reference g l = items_ahead l.items

-- what was asked for so far; and the store is the same, with the same files
abbrev pub invariant-loop-reference : goal.invariant-loop-reference
invariant-loop-reference g l =
    let F = g.F.Files in
    AreSoFar F.honest F.means F.faults (texts l.patterns) l.fn.items l.items l.found.items
