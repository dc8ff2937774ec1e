use Rattle.std.proofs.Common.{◌∙◌}
use Rattle.gix_ref_theory.specs.OnRealTrees.{view_of}
use Rattle.gix_ref_lookup.specs.StoreLayout.{folders_of}
use Rattle.gix_ref_transaction.proofs.RecordIds.{held}
use Rattle.gix_ref_transaction.proofs.prepare.records.holds_target.Goals as goal

pub returns-clause-holds : goal.returns-clause-holds
returns-clause-holds g c h =
    let settings = c.args.settings.now in
    let view = view_of (g.F.Files.means c.args.files.now).tree in
    c.is_held.ensures
    ∙ held (folders_of settings.dirs.now settings.namespace.now) settings.kind settings.prohibit_windows_device_names (view c.args.place.now) c.in_ok-loose.loose (c.in_ok-loose.ensures.decoded h)
