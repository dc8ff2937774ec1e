-- The order of ids: by their kind, SHA-1 before SHA-256, and then by their bytes.
use Rattle.std.specs.Prelude.{ℕ}
use Rattle.std.specs.Ordering.{nat_cmp}
use Rattle.std.specs.Cmp.Lexicographic.{slice_cmp}
use Rattle.std.specs.declared.cmp.Ordering.{Ordering}
use Rattle.std.specs.declared.cmp.Ordering.TheVariants.{Less, Greater}
use Rattle.gix_ref_hash.specs.declared.hash.Kind.{Kind}
use Rattle.gix_ref_hash.specs.declared.hash.Kind.TheVariants as kinds
use Rattle.gix_ref_hash.specs.declared.hash.ObjectId.{ObjectId}
use Rattle.gix_ref_hash.specs.declared.hash.ObjectId.TheVariants.{Sha1, Sha256}

-- the place of a kind among the kinds
abbrev pub kind_rank : Kind → ℕ
kind_rank kinds.Sha1 = 0
kind_rank kinds.Sha256 = 1

-- by the kind, and ids of one kind by their bytes
abbrev pub id_cmp : ObjectId → ObjectId → Ordering
id_cmp (Sha1 a) (Sha1 b) = slice_cmp nat_cmp a b
id_cmp (Sha1 a) (Sha256 b) = Less
id_cmp (Sha256 a) (Sha1 b) = Greater
id_cmp (Sha256 a) (Sha256 b) = slice_cmp nat_cmp a b
