use Rattle.std.proofs.Common.{take}
use Rattle.gix_ref_transaction.specs.OwnLocks.{paths_of}
use Rattle.gix_ref_commit.specs.internal.Walks.{AddsAll, OnlyMore}
use Rattle.gix_ref_commit.proofs.folders.add_entries.Given as goal

-- folders of this one were added: those of all entries so far
abbrev pub invariant-loop-entry : goal.invariant-loop-entry
invariant-loop-entry l = record {
  more : OnlyMore l.dirs l.folder (paths_of l.fn.found.items) (paths_of l.found.items);
  adds : AddsAll l.folder (take l.entry-index l.entries) (paths_of l.fn.found.items) (paths_of l.found.items);
}
