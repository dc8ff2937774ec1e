use Rattle.std.proofs.Common.{rules, ◌≡◌, ◌≢◌, List, [], sym, subst, true}
use Rattle.gix_ref_files.specs.Tree.{Path, is_folder}
use Rattle.gix_ref_files.specs.Disk.{folder_of}
use Rattle.gix_ref_files.specs.Files.{disk_of}
use Rattle.gix_ref_files.specs.Settled.{Sync}
use Rattle.gix_ref_files.specs.Settled.Sync.{OfFolder}
use Rattle.gix_ref_files.specs.DiskSteps.{IsSomeSynced, Settling}
use Rattle.gix_ref_files.proofs.Moments.{passes_weaken}
use Rattle.gix_ref_files.proofs.Ready.{own_is_folder}
use Rattle.gix_ref_files.proofs.Runs.{first_synced}
use Rattle.gix_ref_files.proofs.Settling.{own_sync}
use Rattle.gix_ref_files.proofs.steps.sync_own_folder.Goals as goal

pub sync_entries-requires : goal.sync_entries-requires
sync_entries-requires g c h =
    let T = (g.F.Files.means c.args.files.now).tree in
    let some : folder_of c.args.path.now ≢ [] = search rules in
    subst (λ (f : Path). is_folder (T f) ≡ true) (sym c.folder-folder.ensures) (own_is_folder T c.args.path.now some (c.requires h))

pub returns-clause-passes : goal.returns-clause-passes
returns-clause-passes g c h =
    let f = folder_of c.args.path.now in
    let some : f ≢ [] = search rules in
    let D = disk_of (g.F.Files.means c.args.files.now) in
    passes_weaken (c.sync_entries.ensures.passes h)
    (λ E settling. subst (λ (ss : List Sync). IsSomeSynced ss D E) (sym (own_sync f some)) (first_synced (OfFolder f) [] D E (subst (λ (q : Path). Settling (OfFolder q) D E) c.folder-folder.ensures settling)))
