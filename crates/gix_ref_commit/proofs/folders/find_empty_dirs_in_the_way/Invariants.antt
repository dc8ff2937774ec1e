use Rattle.std.proofs.Common.{take}
use Rattle.gix_ref_files.specs.ReadOnly.{OnlyReads}
use Rattle.gix_ref_commit.specs.Cleared.{AllInWay, folder_lists}
use Rattle.gix_ref_commit.specs.Entries.{entries}
use Rattle.gix_ref_commit.proofs.folders.find_empty_dirs_in_the_way.Given as goal

-- the folders in the way of the steps so far, and nothing has changed
abbrev pub invariant-loop-planned : goal.invariant-loop-planned
invariant-loop-planned g l = record {
  in_way : g.F.Files.honest → AllInWay l.edits l.dirs (g.F.Files.means l.fn.files).tree (folder_lists l.ways.items) (entries (take l.planned-index l.plan));
  reads : OnlyReads g.F.Files.honest g.F.Files.means g.F.Files.faults l.fn.files l.files;
}
