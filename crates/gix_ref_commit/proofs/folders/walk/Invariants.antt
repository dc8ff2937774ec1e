use Rattle.gix_ref_files.specs.ReadOnly.{OnlyReads}
use Rattle.gix_ref_transaction.specs.OwnLocks.{paths_of}
use Rattle.gix_ref_commit.specs.internal.Walks.{IsWalked}
use Rattle.gix_ref_commit.proofs.Whole.{IsSearched}
use Rattle.gix_ref_commit.proofs.folders.walk.Given as goal

-- folders at the path and in it were found, and nothing has changed
abbrev pub invariant-loop-next : goal.invariant-loop-next
invariant-loop-next g l = record {
  walked : IsWalked l.dirs l.top (paths_of l.found.items);
  reads : OnlyReads g.F.Files.honest g.F.Files.means g.F.Files.faults l.fn.files l.files;
  searched : g.F.Files.honest → IsSearched (g.F.Files.means l.fn.files).tree (paths_of l.found.items) l.next;
}
