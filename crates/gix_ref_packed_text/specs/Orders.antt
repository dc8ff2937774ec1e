-- The order and the equality of references as values: by their fields, as they are declared.
use Rattle.std.specs.Prelude.{◌≡◌}
use Rattle.std.specs.Option.{option_cmp}
use Rattle.std.specs.Ordering.{nat_cmp, ordering_then}
use Rattle.std.specs.Cmp.Lexicographic.{slice_cmp}
use Rattle.std.specs.declared.cmp.Ordering.{Ordering}
use Rattle.gix_ref_hash.specs.Orders.{id_cmp}
use Rattle.gix_ref_name.specs.Names.{full_bytes}
use Rattle.gix_ref_target.specs.Targets.{target_value}
use Rattle.gix_ref_target.specs.Orders.{target_cmp}
use Rattle.gix_ref_packed_text.specs.declared.raw.Reference.{Reference}

-- the same name, target and peeled id
pub record SameReference (a b : Reference) : Type 0 where
  pub name : full_bytes a.name ≡ full_bytes b.name
  pub target : target_value a.target ≡ target_value b.target
  pub peeled : a.peeled ≡ b.peeled

-- by the bytes of the name, the target and the peeled id
abbrev pub reference_cmp : Reference → Reference → Ordering
reference_cmp a b = ordering_then
    (ordering_then (slice_cmp nat_cmp (full_bytes a.name) (full_bytes b.name))
    (target_cmp (target_value a.target) (target_value b.target)))
    (option_cmp id_cmp a.peeled b.peeled)
