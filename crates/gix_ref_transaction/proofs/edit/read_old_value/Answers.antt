use Rattle.std.proofs.Common.{◌∙◌}
use Rattle.gix_ref_theory.specs.OnRealTrees.{view_of}
use Rattle.gix_ref_lookup.specs.StoreLayout.{folders_of}
use Rattle.gix_ref_transaction.proofs.LookupLemmas.{target_is, file_is, damaged_is}
use Rattle.gix_ref_transaction.proofs.edit.read_old_value.Goals as goal

pub returns-clause-target : goal.returns-clause-target
returns-clause-target g c h =
    let settings = c.args.settings.now in
    let view = view_of (g.F.Files.means c.args.files.now).tree in
    c.old_value_of.ensures.target
    ∙ target_is (folders_of settings.dirs.now settings.namespace.now) settings.kind settings.prohibit_windows_device_names c.in_ok-loose.loose (view c.args.place.now) c.args.packed (c.in_ok-loose.ensures.decoded h)

pub returns-clause-file : goal.returns-clause-file
returns-clause-file g c h =
    let settings = c.args.settings.now in
    let view = view_of (g.F.Files.means c.args.files.now).tree in
    c.old_value_of.ensures.file
    ∙ file_is (folders_of settings.dirs.now settings.namespace.now) settings.kind settings.prohibit_windows_device_names c.in_ok-loose.loose (view c.args.place.now) (c.in_ok-loose.ensures.decoded h)

pub returns-clause-damaged : goal.returns-clause-damaged
returns-clause-damaged g c h =
    let settings = c.args.settings.now in
    let view = view_of (g.F.Files.means c.args.files.now).tree in
    c.old_value_of.ensures.damaged
    ∙ damaged_is (folders_of settings.dirs.now settings.namespace.now) settings.kind settings.prohibit_windows_device_names c.in_ok-loose.loose (view c.args.place.now) (c.in_ok-loose.ensures.decoded h)
