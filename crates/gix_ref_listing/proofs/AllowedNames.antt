-- A store that prohibits no device names prohibits nothing at the place of a name.
use Rattle.std.proofs.Common.{◌≡◌, ◌∙◌, ap, ℕ, List, false, Option, Some, None}
use Rattle.std.specs.Prelude.{◌&&◌, IfSome}
use Rattle.std.specs.List.{list_any}
use Rattle.gix_ref_hash.specs.Bytes.{components}
use Rattle.gix_ref_name.specs.DeviceNames.{is_device}
use Rattle.gix_ref_name.specs.Names.{full_ref_bytes}
use Rattle.gix_ref_theory.specs.ConcreteStore.{below_folders}
use Rattle.gix_ref_lookup.specs.Lookups.{meaning_in}
use Rattle.gix_ref_lookup.specs.StoreLayout.{folders_of}
use Rattle.gix_ref_lookup.specs.declared.settings.Settings.{Settings}
use Rattle.gix_ref_lookup.proofs.Answering.{any_device}
use Rattle.gix_ref_listing.specs.Items.{IsAllowed}
use Rattle.gix_ref_listing.specs.declared.own_records.OwnRecord.{OwnRecord}

pub allowed_where_none : (settings : Settings) (name : List ℕ) → settings.prohibit_windows_device_names ≡ false → IsAllowed (meaning_in settings) name
allowed_where_none settings name none =
    let parts = components (below_folders (folders_of settings.dirs.now settings.namespace.now) ((meaning_in settings).place name)) in
    any_device settings.prohibit_windows_device_names parts ∙ ap (λ p. p && list_any is_device parts) none

-- and so at that of a record that is lent
pub lent_is_allowed : (settings : Settings) → settings.prohibit_windows_device_names ≡ false → (lent : Option OwnRecord) → IfSome lent (λ own. IsAllowed (meaning_in settings) (full_ref_bytes own.name))
lent_is_allowed settings none None = _
lent_is_allowed settings none (Some own) = allowed_where_none settings (full_ref_bytes own.name) none
