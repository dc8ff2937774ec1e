use Rattle.gix_ref_files.specs.Settled.Sync.{OfFile}
use Rattle.gix_ref_files.specs.DiskSteps.{folder_syncs}
use Rattle.gix_ref_files.specs.Files.{disk_of}
use Rattle.gix_ref_files.proofs.Runs.{line_synced, first_synced}
use Rattle.gix_ref_files.proofs.Moments.{passes_weaken}
use Rattle.gix_ref_files.proofs.steps.sync_line.Goals as goal

pub returns-clause-passes : goal.returns-clause-passes
returns-clause-passes g c h =
    line_synced c.args.path.now (folder_syncs c.args.path.now c.args.settle) _ _ _ (c.sync_bytes.ensures.passes h) (c.in_ok-sync_bytes.ensures.done h) (c.sync_above.ensures.passes h)

pub returns-in_err-sync_bytes-clause-passes : goal.returns-in_err-sync_bytes-clause-passes
returns-in_err-sync_bytes-clause-passes g c h =
    let D = disk_of (g.F.Files.means c.args.files.now) in
    passes_weaken (c.sync_bytes.ensures.passes h) (λ E settling. first_synced (OfFile c.args.path.now) (folder_syncs c.args.path.now c.args.settle) D E settling)
