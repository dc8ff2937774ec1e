use Rattle.std.proofs.Common.{sym, false}
use Rattle.gix_ref_hash.specs.Bytes.{components}
use Rattle.gix_ref_theory.specs.ConcreteStore.{below_folders}
use Rattle.gix_ref_lookup.specs.StoreLayout.{folders_of}
use Rattle.gix_ref_lookup.proofs.Answering.{any_device}
use Rattle.gix_ref_lookup.proofs.settings.Settings.is_prohibited.Goals as goal

pub returns-else-self : goal.returns-else-self
returns-else-self c =
    let path = below_folders (folders_of c.args.self.dirs.now c.args.self.namespace.now) c.args.place.now in
    rw c.if-self.false (sym (any_device false (components path)))
