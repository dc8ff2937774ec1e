use Rattle.std.proofs.Common.{◌≡◌, take}
use Rattle.gix_ref_files.specs.Files.{Leaves, NoFewer}
use Rattle.gix_ref_locks.specs.Removals.{without, IsPartlyWithout}
use Rattle.gix_ref_locks.proofs.remove.remove_files.Given as goal

-- the files so far are gone
abbrev pub invariant-loop-at : goal.invariant-loop-at
invariant-loop-at g l =
    let F = g.F.Files in
    let first = F.means l.fn.files in
    record {
      tree : F.honest → (F.means l.files).tree ≡ without first.tree (take l.at l.paths);
      leaves : F.honest → Leaves first (F.means l.files) (IsPartlyWithout l.paths first.tree);
      no_fewer : NoFewer (F.faults l.fn.files) (F.faults l.files);
    }
