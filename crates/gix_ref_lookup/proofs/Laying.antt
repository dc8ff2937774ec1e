-- The folders of a store are laid as the laws of places want them.
use Rattle.std.proofs.Common.{◌≡◌, ◌≤◌, List, ℕ, [], ◌∷◌, true, codes, refl, sym, arith, inl, inr, Option, Some, None, nat_eq, drop, length}
use Rattle.std.specs.List.{starts_with}
use Rattle.std.proofs.lemmas.Bool.Decides.{Decides-eqb}
use Rattle.std.proofs.lemmas.Slice.Eq.{starts_is}
use Rattle.std.proofs.lemmas.Bool.{true≢false}
use Rattle.gix_ref_hash.specs.Bytes.{BeginsWith, without_front}
use Rattle.gix_ref_files.specs.Tree.{Path}
use Rattle.gix_ref_files.proofs.Settling.{both_true}
use Rattle.gix_ref_name.specs.declared.namespace.Namespace.{Namespace}
use Rattle.gix_ref_lookup.specs.CleanPaths.{common_of, is_clean}
use Rattle.gix_ref_lookup.specs.StoreLayout.{folders_of}
use Rattle.gix_ref_target.specs.Layout.{IsLayout}
use Rattle.gix_ref_lookup.specs.declared.folders.Dirs.{Dirs}
use Rattle.gix_ref_lookup.proofs.FolderLemmas.{test_laid}

pub folders_laid : (dirs : Dirs) (namespace : Option Namespace) → IsLayout (folders_of dirs namespace)
folders_laid dirs None = (test_laid dirs.git_dir.items (common_of dirs.git_dir dirs.common_dir) dirs.laid, inl refl)
folders_laid dirs (Some namespace) = (test_laid dirs.git_dir.items (common_of dirs.git_dir dirs.common_dir) dirs.laid, inr (begins namespace.bytes.items namespace.begins))
  where
    begins : (text : List ℕ) → starts_with nat_eq text (codes "refs/namespaces/") ≡ true → BeginsWith text (codes "refs/namespaces/")
    begins text h = (drop (length (codes "refs/namespaces/")) text, (starts_is Decides-eqb text (codes "refs/namespaces/") (starts_with nat_eq text (codes "refs/namespaces/")) refl).0 h)

-- A clean folder has a byte.
has_byte : (path : Path) → is_clean path ≡ true → 1 ≤ length path
unfolding without_front
has_byte [] clean = absurd (true≢false (sym clean))
has_byte (b ∷ path) clean = omega arith

pub folders_have_bytes : (dirs : Dirs) → (1 ≤ length dirs.git_dir.items) × (1 ≤ length (common_of dirs.git_dir dirs.common_dir))
folders_have_bytes dirs =
    let parts = both_true (is_clean dirs.git_dir.items) (is_clean (common_of dirs.git_dir dirs.common_dir)) dirs.clean in
    (has_byte dirs.git_dir.items parts.0, has_byte (common_of dirs.git_dir dirs.common_dir) parts.1)
