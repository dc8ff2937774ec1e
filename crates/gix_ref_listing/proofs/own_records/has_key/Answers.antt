use Rattle.std.proofs.Common.{◌∙◌, sym}
use Rattle.gix_ref_name.specs.Names.{full_ref_bytes}
use Rattle.gix_ref_lookup.specs.StoreLayout.{folders_of}
use Rattle.gix_ref_listing.proofs.OwnLemmas.{key_is, no_key, other_key}
use Rattle.gix_ref_listing.proofs.own_records.has_key.Goals as goal

pub returns-in_default : goal.returns-in_default
returns-in_default c = no_key (folders_of c.args.settings.dirs.now c.args.settings.namespace.now) (full_ref_bytes c.args.name) c.args.key.now (sym c.in_default.ensures)

pub returns-in-Some-behind_namespace : goal.returns-in-Some-behind_namespace
returns-in-Some-behind_namespace c = c.eq.ensures ∙ key_is (folders_of c.args.settings.dirs.now c.args.settings.namespace.now) (full_ref_bytes c.args.name) c.args.key.now c.in-Some.own.now c.in-Some-behind_namespace.rest.now (sym c.in-Some.ensures) c.in-Some-behind_namespace.ensures

pub returns-in-None : goal.returns-in-None
returns-in-None c = other_key (folders_of c.args.settings.dirs.now c.args.settings.namespace.now) (full_ref_bytes c.args.name) c.args.key.now c.in-Some.own.now (sym c.in-Some.ensures) c.in-None.ensures
