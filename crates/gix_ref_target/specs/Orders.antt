-- The orders of categories and of targets. Names and namespaces are ordered by their bytes.
use Rattle.std.specs.Prelude.{ℕ}
use Rattle.std.specs.Ordering.{nat_cmp, ordering_then}
use Rattle.std.specs.Cmp.Lexicographic.{slice_cmp}
use Rattle.std.specs.declared.cmp.Ordering.{Ordering}
use Rattle.std.specs.declared.cmp.Ordering.TheVariants.{Less, Greater}
use Rattle.gix_ref_hash.specs.Orders.{id_cmp}
use Rattle.gix_ref_name.specs.declared.name.category.Category.{Category}
use Rattle.gix_ref_target.specs.declared.target.Kind.{Kind}
use Rattle.gix_ref_target.specs.declared.target.Kind.TheVariants.{Object, Symbolic}
use Rattle.gix_ref_name.specs.Categories.{code_of, worktree_of}
use Rattle.gix_ref_target.specs.Targets.{TargetValue}
use Rattle.gix_ref_target.specs.Targets.TargetValue.{object_id, symbolic_name}

-- by the category, and then by the name of the linked worktree
abbrev pub category_cmp : Category → Category → Ordering
category_cmp a b = ordering_then (nat_cmp (code_of a) (code_of b))
    (slice_cmp nat_cmp (worktree_of a) (worktree_of b))

-- the place of a kind among the kinds
abbrev pub target_kind_rank : Kind → ℕ
target_kind_rank Object = 0
target_kind_rank Symbolic = 1

-- objects come first, by their ids; then names, by their bytes
abbrev pub target_cmp : TargetValue → TargetValue → Ordering
target_cmp (object_id a) (object_id b) = id_cmp a b
target_cmp (object_id a) (symbolic_name n) = Less
target_cmp (symbolic_name m) (object_id b) = Greater
target_cmp (symbolic_name m) (symbolic_name n) = slice_cmp nat_cmp m n
