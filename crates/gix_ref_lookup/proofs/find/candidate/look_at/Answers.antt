use Rattle.std.proofs.Common.{subst}
use Rattle.gix_ref_files.specs.Tree.{Path}
use Rattle.gix_ref_target.specs.Targets.{target_value}
use Rattle.gix_ref_theory.specs.OnRealTrees.{view_of}
use Rattle.gix_ref_lookup.specs.StoreLayout.{folders_of}
use Rattle.gix_ref_lookup.specs.LooseFiles.{IsDecoded}
use Rattle.gix_ref_lookup.specs.declared.find.loose.Loose.TheVariants.{Holds}
use Rattle.gix_ref_lookup.proofs.Answering.{holds_reading}
use Rattle.gix_ref_lookup.proofs.find.candidate.look_at.Goals as goal

pub returns-in-Ok-Holds-clause-found : goal.returns-in-Ok-Holds-clause-found
returns-in-Ok-Holds-clause-found g c h =
    let settings = c.args.settings in
    let view = view_of (g.F.Files.means c.args.files.now).tree in
    let at = c.deref-2.ensures.value in
    let decoded = rw c.in-Ok-Holds.field-0-is at (c.in-Ok-Holds.ensures.decoded h) in
    let held = subst (λ (p : Path). IsDecoded settings.kind (view p) (Holds c.in-Ok-Holds.target)) at decoded in
    (held.0, held.1, holds_reading (folders_of settings.dirs.now settings.namespace.now) settings.kind settings.prohibit_windows_device_names held.0 (target_value c.in-Ok-Holds.target) _ held.2 c.strip.ensures)
