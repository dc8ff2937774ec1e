use Rattle.std.proofs.Common.{ℕ, List, sym, ◌∙◌, ap}
use Rattle.std.specs.Prelude.{◌&&◌, is_some}
use Rattle.gix_ref_target.specs.Locations.{paths_at}
use Rattle.gix_ref_lookup.specs.StoreLayout.{folders_of}
use Rattle.gix_ref_edits.specs.RefEdits.{name_of}
use Rattle.gix_ref_name.specs.Names.{full_ref_bytes}
use Rattle.gix_ref_transaction.proofs.PackedLocks.{has_outside}
use Rattle.gix_ref_transaction.proofs.prepare.packed_lock.is_packable.Goals as goal

pub returns-then-is_of_the_reference : goal.returns-then-is_of_the_reference
returns-then-is_of_the_reference c =
    let f = folders_of c.args.settings.now.dirs.now c.args.settings.now.namespace.now in
    c.is_some.ensures
    ∙ (has_outside f (full_ref_bytes c.as_ref.result) _ c.packed_key.result c.packed_key.ensures
    ∙ (ap (λ (name : List ℕ). is_some (paths_at f name).key) c.as_ref.ensures
    ∙ ap (λ b. b && is_some (paths_at f (name_of c.args.update.now)).key) (sym c.if-is_of_the_reference.true ∙ c.is_of_the_reference.ensures)))
