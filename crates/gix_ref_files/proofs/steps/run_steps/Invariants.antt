use Rattle.std.proofs.Common.{◌≡◌, ◌+◌, ℕ, take, drop}
use Rattle.gix_ref_files.specs.Files.{Passes, disk_of}
use Rattle.gix_ref_files.specs.Tree.{Tree}
use Rattle.gix_ref_files.specs.Steps.{IsAfter, EndsAt, steps_of}
use Rattle.gix_ref_files.specs.DiskSteps.{IsReachedBy, IsSyncedAfter, synced_steps}
use Rattle.gix_ref_files.specs.Clean.{AreKnown}
use Rattle.gix_ref_files.specs.declared.steps.Cause.{Cause}
use Rattle.gix_ref_files.proofs.steps.run_steps.Given as goal

-- what the rest of the plan leads to, the whole plan leads to from where the run began
abbrev pub invariant-loop-at : goal.invariant-loop-at
invariant-loop-at g l =
    let means = g.F.Files.means in
    let first = means l.fn.files in
    let now = means l.files in
    let steps = steps_of l.plan in
    let rest = steps_of (drop l.at l.plan) in
    record {
      count : g.F.Files.faults l.files ≡ g.F.Files.faults l.fn.files;
      passes : g.F.Files.honest → Passes first now (IsReachedBy (synced_steps l.plan) (disk_of first));
      known : g.F.Files.honest → AreKnown (disk_of now) l.known;
      synced : g.F.Files.honest → IsSyncedAfter (take l.at (synced_steps l.plan)) (disk_of first) (disk_of now);
      done : g.F.Files.honest → (T : Tree) → IsAfter rest now.tree T → IsAfter steps first.tree T;
      ended : g.F.Files.honest → (k : ℕ) (cause : Cause) (T : Tree) → EndsAt rest k cause now.tree T → EndsAt steps (l.at + k) cause first.tree T;
    }
