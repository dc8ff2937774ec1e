use Rattle.std.proofs.Common.{sym}
use Rattle.gix_ref_hash.specs.Bytes.{components}
use Rattle.gix_ref_name.specs.Names.{full_ref_bytes}
use Rattle.gix_ref_theory.specs.ConcreteStore.{below_folders}
use Rattle.gix_ref_lookup.specs.StoreLayout.{folders_of}
use Rattle.gix_ref_transaction.specs.PrepareSteps.{setting_of}
use Rattle.gix_ref_transaction.proofs.LookupLemmas.{none_prohibited}
use Rattle.gix_ref_transaction.proofs.prepare.check.is_prohibited.Goals as goal

pub returns-then-not-settings : goal.returns-then-not-settings
returns-then-not-settings c =
    let settings = c.args.settings.now in
    let place = (setting_of settings).place (full_ref_bytes c.args.name) in
    sym (none_prohibited settings.prohibit_windows_device_names (components (below_folders (folders_of settings.dirs.now settings.namespace.now) place)) c.if-not-settings.true)
