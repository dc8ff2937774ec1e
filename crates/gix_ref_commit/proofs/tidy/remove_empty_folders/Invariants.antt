use Rattle.gix_ref_files.specs.Files.{disk_of, Leaves, Passes, NoFewer}
use Rattle.gix_ref_transaction.specs.OwnLocks.{paths_of}
use Rattle.gix_ref_commit.specs.Cleared.{FoldersGo, LosesNoMore, OnlyFolders}
use Rattle.gix_ref_commit.proofs.tidy.remove_empty_folders.Given as goal

-- some folders above the paths are gone
abbrev pub invariant-loop-path : goal.invariant-loop-path
invariant-loop-path g l = record {
  leaves : g.F.Files.honest → Leaves (g.F.Files.means l.fn.files) (g.F.Files.means l.files) (FoldersGo l.dirs (paths_of l.paths) (g.F.Files.means l.fn.files).tree);
  passes : g.F.Files.honest → OnlyFolders l.dirs (g.F.Files.means l.fn.files) (g.F.Files.means l.files);
  loses : g.F.Files.honest → Passes (g.F.Files.means l.fn.files) (g.F.Files.means l.files) (LosesNoMore (disk_of (g.F.Files.means l.fn.files)));
  no_fewer : NoFewer (g.F.Files.faults l.fn.files) (g.F.Files.faults l.files);
}
