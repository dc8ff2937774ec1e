-- The premises of the theorems on losses of power can be met.
use Rattle.std.proofs.Common.{◌≡◌, ◌≢◌, inl, List, [], ℕ, Bool, true, false, Some, None, refl, ap, subst, codes}
use Rattle.std.specs.Prelude.{bytes_eq, if◌then◌else◌, is_some}
use Rattle.std.proofs.lemmas.Slice.Eq.{bytes_eq-Decides}
use Rattle.std.proofs.lemmas.Bool.{false≢true, true≢false}
use Rattle.gix_ref_files.specs.Tree.{Path, has_folders, IsShaped}
use Rattle.gix_ref_files.specs.Tree.Content.{File, Folder}
use Rattle.gix_ref_files.specs.Losing.{all_synced}
use Rattle.gix_ref_files.specs.Settled.{IsWholeAt}
use Rattle.gix_ref_files.proofs.Losing.{left_settled, only_now}
use Rattle.gix_ref_theory.specs.SmallCommit.{lock_tree, SmallCommitIsCarriedOut}

lock_shaped : IsShaped lock_tree
lock_shaped p there = by (bytes_eq (codes "r/a.lock") p) (bytes_eq (codes "r") p) refl refl there
  where
    by : (a b : Bool) → bytes_eq (codes "r/a.lock") p ≡ a → bytes_eq (codes "r") p ≡ b → is_some (if a then Some (File (codes "I")) else (if b then Some Folder else None)) ≡ true → has_folders lock_tree p ≡ true
    by true b e f some = subst (λ (x : Path). has_folders lock_tree x ≡ true) ((bytes_eq-Decides (codes "r/a.lock") p).0 e) refl
    by false true e f some = subst (λ (x : Path). has_folders lock_tree x ≡ true) ((bytes_eq-Decides (codes "r") p).0 f) refl
    by false false e f none = absurd (false≢true none)

pub small_commit : SmallCommitIsCarriedOut
small_commit = (
  left_settled lock_tree lock_shaped,
  (λ c may. only_now lock_tree (codes "r") c may, tt),
  λ p bytes is. whole p bytes (bytes_eq (codes "r/a.lock") p) refl is,
  (codes "I", [], λ spoken. spoken.0 (inl refl), differ, refl, refl, (refl, some, (inl refl, tt)), refl),
)
  where
    none_some : (bytes : List ℕ) → None ≡ Some bytes → ⊥
    none_some bytes e = cc

    some_same : (a b : List ℕ) → Some a ≡ Some b → a ≡ b
    some_same a b e = cc

    whole : (p : Path) (bytes : List ℕ) (b : Bool) → bytes_eq (codes "r/a.lock") p ≡ b → (if b then Some (codes "I") else None) ≡ Some bytes → IsWholeAt (all_synced lock_tree) p bytes
    whole p bytes true e is =
        subst (λ (x : Path). IsWholeAt (all_synced lock_tree) x bytes) ((bytes_eq-Decides (codes "r/a.lock") p).0 e)
        (subst (IsWholeAt (all_synced lock_tree) (codes "r/a.lock")) (some_same (codes "I") bytes is) (refl, refl))
    whole p bytes false e is = absurd (none_some bytes is)

    differ : codes "r/a.lock" ≢ codes "r/a"
    differ e = true≢false (ap (λ (x : Path). bytes_eq x (codes "r/a.lock")) e)

    some : codes "r" ≢ []
    some e = true≢false (ap (λ (x : Path). bytes_eq x (codes "r")) e)
