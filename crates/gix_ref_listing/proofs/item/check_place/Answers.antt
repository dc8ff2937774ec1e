use Rattle.gix_ref_name.specs.Names.{full_ref_bytes}
use Rattle.gix_ref_listing.proofs.AllowedNames.{allowed_where_none}
use Rattle.gix_ref_listing.proofs.item.check_place.Goals as goal

pub returns-then-not-settings-clause-allowed : goal.returns-then-not-settings-clause-allowed
returns-then-not-settings-clause-allowed c = allowed_where_none c.args.settings (full_ref_bytes c.args.name) c.if-not-settings.true
