use Rattle.std.proofs.Common.{◌≡◌, ◌-◌, ◌≤◌, length}
use Rattle.gix_ref_files.specs.Disk.{Disk}
use Rattle.gix_ref_files.specs.Files.{Passes, disk_of}
use Rattle.gix_ref_files.specs.Settled.{synced_by, folders_up}
use Rattle.gix_ref_files.specs.DiskSteps.{IsSomeSynced}
use Rattle.gix_ref_files.proofs.steps.sync_up.Given as goal

-- what the rest of the syncs leads to, all of them lead to from where they began
abbrev pub invariant-loop-end : goal.invariant-loop-end
invariant-loop-end g l =
    let first = g.F.Files.means l.fn.files in
    let now = g.F.Files.means l.files in
    let all = folders_up l.path l.top (length l.path - l.top) in
    let rest = folders_up l.path l.top (l.end - l.top) in
    record {
      in_path : l.end ≤ length l.path;
      count : g.F.Files.faults l.files ≡ g.F.Files.faults l.fn.files;
      passes : g.F.Files.honest → Passes first now (IsSomeSynced all (disk_of first));
      done : g.F.Files.honest → synced_by rest (disk_of now) ≡ synced_by all (disk_of first);
      some : g.F.Files.honest → (E : Disk) → IsSomeSynced rest (disk_of now) E → IsSomeSynced all (disk_of first) E;
    }

abbrev pub decreases-loop-end : goal.decreases-loop-end
decreases-loop-end g l = l.end - l.top
