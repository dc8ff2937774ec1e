-- The order and the equality of loose references, and the order of when log lines are written.
use Rattle.std.specs.Prelude.{◌≡◌, ℕ}
use Rattle.std.specs.Ordering.{nat_cmp, ordering_then}
use Rattle.std.specs.Cmp.Lexicographic.{slice_cmp}
use Rattle.std.specs.declared.cmp.Ordering.{Ordering}
use Rattle.gix_ref_name.specs.Names.{full_bytes}
use Rattle.gix_ref_target.specs.Orders.{target_cmp}
use Rattle.gix_ref_target.specs.Targets.{target_value}
use Rattle.gix_ref_reflog.specs.declared.write_reflog.WriteReflog.{WriteReflog}
use Rattle.gix_ref_reflog.specs.declared.write_reflog.WriteReflog.TheVariants.{Always, Normal, Disable}
use Rattle.gix_ref_lookup.specs.declared.loose.Reference.{Reference}

-- the place of a mode among the modes
abbrev pub reflog_rank : WriteReflog → ℕ
reflog_rank Always = 0
reflog_rank Normal = 1
reflog_rank Disable = 2

-- the same name and target
pub record SameLoose (a b : Reference) : Type 0 where
  pub name : full_bytes a.name ≡ full_bytes b.name
  pub target : target_value a.target ≡ target_value b.target

-- by the bytes of the name, and then by the target
abbrev pub loose_cmp : Reference → Reference → Ordering
loose_cmp a b = ordering_then (slice_cmp nat_cmp (full_bytes a.name) (full_bytes b.name))
    (target_cmp (target_value a.target) (target_value b.target))
