use Rattle.std.proofs.Common.{◌≡◌, sym, subst, rules}
use Rattle.gix_ref_files.specs.Steps.{Does, step_of}
use Rattle.gix_ref_files.specs.Tree.{Tree}
use Rattle.gix_ref_files.specs.Clean.{AreKnown}
use Rattle.gix_ref_files.specs.Disk.{Disk}
use Rattle.gix_ref_files.specs.Files.{disk_of}
use Rattle.gix_ref_files.specs.DiskSteps.{CanSettle, syncs_of}
use Rattle.gix_ref_files.proofs.Stops.{some_synced_trees}
use Rattle.gix_ref_files.proofs.Runs.{ends_with}
use Rattle.gix_ref_files.proofs.steps.run_step.Goals as goal

pub returns-in-Ok-clause-done : goal.returns-in-Ok-clause-done
returns-in-Ok-clause-done g c h =
    let before = (g.F.Files.means c.args.files.now).tree in
    subst (λ (T : Tree). Does (step_of c.args.action.now) before T)
    (sym (some_synced_trees (syncs_of c.args.action.now c.args.settle) _ _ (c.sync_changed.ensures.passes h).disk)) (c.in_ok-change.ensures.done h)

pub returns-in-Err-clause-ended : goal.returns-in-Err-clause-ended
returns-in-Err-clause-ended g c h =
    let before = (g.F.Files.means c.args.files.now).tree in
    let same : (g.F.Files.means c.sync_changed.new.files).tree ≡ (g.F.Files.means c.change.new.files).tree =
    some_synced_trees (syncs_of c.args.action.now c.args.settle) _ _ (c.sync_changed.ensures.passes h).disk in
    let does : Does (step_of c.args.action.now) before (g.F.Files.means c.sync_changed.new.files).tree =
    subst (λ (T : Tree). Does (step_of c.args.action.now) before T) (sym same) (c.in_ok-change.ensures.done h) in
    search (rules, does)

pub returns-in_err-change-clause-ended_on : goal.returns-in_err-change-clause-ended_on
returns-in_err-change-clause-ended_on g c h =
    let ends = ends_with (step_of c.args.action.now) (syncs_of c.args.action.now c.args.settle) _ _ _ (c.in_err-change.ensures.ended_on h) in
    search (rules, ends)

pub returns-in-Ok-clause-known : goal.returns-in-Ok-clause-known
returns-in-Ok-clause-known g c h =
    let first = disk_of (g.F.Files.means c.args.files.now) in
    let mid = disk_of (g.F.Files.means c.change.new.files) in
    let can : CanSettle c.args.action.now mid.tree = search rules in
    let known : AreKnown mid c.after_change-changed.result = c.after_change-changed.ensures first mid (c.in_ok-change.ensures.done_on h) (c.requires.known h) in
    subst (λ (D : Disk). AreKnown D c.after_syncs.result) (sym (c.in-Ok.ensures.done h)) (c.after_syncs.ensures mid can known)
