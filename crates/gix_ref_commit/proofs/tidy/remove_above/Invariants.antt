use Rattle.std.proofs.Common.{◌≤◌, ◌∷◌, [], length}
use Rattle.gix_ref_files.specs.Files.{disk_of, Leaves, Passes, NoFewer}
use Rattle.gix_ref_commit.specs.Cleared.{FoldersGo, LosesNoMore, OnlyFolders}
use Rattle.gix_ref_commit.proofs.tidy.remove_above.Given as goal

-- some folders above the path are gone
abbrev pub invariant-loop-end : goal.invariant-loop-end
invariant-loop-end g l = record {
  leaves : g.F.Files.honest → Leaves (g.F.Files.means l.fn.files) (g.F.Files.means l.files) (FoldersGo l.dirs (l.path ∷ []) (g.F.Files.means l.fn.files).tree);
  passes : g.F.Files.honest → OnlyFolders l.dirs (g.F.Files.means l.fn.files) (g.F.Files.means l.files);
  loses : g.F.Files.honest → Passes (g.F.Files.means l.fn.files) (g.F.Files.means l.files) (LosesNoMore (disk_of (g.F.Files.means l.fn.files)));
  no_fewer : NoFewer (g.F.Files.faults l.fn.files) (g.F.Files.faults l.files);
  end : l.end ≤ length l.path;
}

abbrev pub decreases-loop-end : goal.decreases-loop-end
decreases-loop-end g l = l.end
