use Rattle.gix_ref_store.specs.Listings.{items_ahead}
use Rattle.gix_ref_program.proofs.ListLoop.{AreSoFar}
use Rattle.gix_ref_program.proofs.list.print_items.Given as goal

abbrev pub decreases-loop-text : goal.decreases-loop-text
decreases-loop-text g l = items_ahead l.items

-- what is written and the text are what is printed of the items so far; and the store is the same, with the same files
abbrev pub invariant-loop-text : goal.invariant-loop-text
invariant-loop-text g l =
    let F = g.F.Files in
    AreSoFar F.honest F.means F.faults l.fn.items l.items (g.W.Write.contents l.fn.out) (g.W.Write.contents l.out) l.text.items l.status
