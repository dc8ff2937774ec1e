use Rattle.gix_ref_files.specs.Tree.{no_tree}
use Rattle.gix_ref_memory.specs.Changes.{after_changes}
use Rattle.gix_ref_memory.specs.internal.Listing.{ListsSome}
use Rattle.gix_ref_memory.proofs.ListingLemmas.{Remains}
use Rattle.gix_ref_memory.proofs.memory.listing.list_now.Given as goal

-- what is in the folder is listed, or a later change puts it there
abbrev pub invariant-loop-change : goal.invariant-loop-change
invariant-loop-change l = record {
  some : ListsSome (after_changes l.changes no_tree) l.folder l.entries.items;
  remains : Remains l.changes l.change-index (after_changes l.changes no_tree) l.folder l.entries.items;
}
