use Rattle.std.proofs.Common.{◌≡◌, ◌≤◌, take, length}
use Rattle.gix_ref_files.specs.Disk.{folder_of}
use Rattle.gix_ref_files.specs.Tree.{fronts}
use Rattle.gix_ref_files.proofs.paths.folder_end.Given as goal

-- no slash is after the end
abbrev pub invariant-loop-end : goal.invariant-loop-end
invariant-loop-end l = record {
  folder : folder_of (take l.end l.path) ≡ folder_of l.path;
  folders : fronts (take l.end l.path) ≡ fronts l.path;
  within : l.end ≤ length l.path;
}

abbrev pub decreases-loop-end : goal.decreases-loop-end
decreases-loop-end l = l.end
