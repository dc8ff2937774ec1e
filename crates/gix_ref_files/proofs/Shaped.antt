-- What a loss of power leaves is well formed again.
use Rattle.std.proofs.Common.{◌≡◌, ◌⊎◌, inl, inr, ℕ, List, [], ◌∷◌, ◌++◌, Bool, true, false, None, refl, sym, ◌∙◌, ap, subst, arith}
use Rattle.std.specs.Prelude.{if◌then◌else◌, ◌==◌, ◌&&◌, is_some}
use Rattle.std.specs.List.{list_all}
use Rattle.std.proofs.lemmas.Bool.{cases_Bool, false≢true, cond-true, cond-false}
use Rattle.gix_ref_files.specs.Tree.{Tree, Path, is_folder, has_folders, fronts, fronts_after, IsShaped}
use Rattle.gix_ref_files.specs.Disk.{Disk, Lost, reachable}
use Rattle.gix_ref_files.proofs.Settling.{both_true}
use Rattle.gix_ref_files.proofs.PathFronts.{fronts_snoc}

all_both : (P : Path → Bool) (a b : List Path) → list_all P a ≡ true → list_all P b ≡ true → list_all P (a ++ b) ≡ true
all_both P [] b h k = k
all_both P (x ∷ a) b h k =
    let parts = both_true (P x) (list_all P a) h in
    ap (λ t. t && list_all P (a ++ b)) parts.0 ∙ all_both P a b parts.1 k

module _ (E : Tree) where
  stand_on : (first : ℕ) (q xs : List ℕ) → list_all (λ f. is_folder (E f)) (fronts (first ∷ q)) ≡ true → list_all (λ f. is_folder (E f)) (fronts_after (first ∷ q) xs) ≡ true →
      list_all (λ f. is_folder (reachable E f)) (fronts_after (first ∷ q) xs) ≡ true
  stand_on first q [] before all = refl
  stand_on first q (c ∷ rest) before all = by (c == 47) refl all (λ further more. stand_on first (q ++ c ∷ []) rest further more)
    where
      here : is_folder (reachable E (first ∷ q)) ≡ is_folder (E (first ∷ q))
      here = ap is_folder (cond-true (has_folders E (first ∷ q)) (E (first ∷ q)) None before)

      by : (b : Bool) → (c == 47) ≡ b → list_all (λ f. is_folder (E f)) (if b then (first ∷ q) ∷ fronts_after ((first ∷ q) ++ c ∷ []) rest else fronts_after ((first ∷ q) ++ c ∷ []) rest) ≡ true →
          (list_all (λ f. is_folder (E f)) (fronts (first ∷ (q ++ c ∷ []))) ≡ true → list_all (λ f. is_folder (E f)) (fronts_after ((first ∷ q) ++ c ∷ []) rest) ≡ true → list_all (λ f. is_folder (reachable E f)) (fronts_after ((first ∷ q) ++ c ∷ []) rest) ≡ true) →
          list_all (λ f. is_folder (reachable E f)) (if b then (first ∷ q) ∷ fronts_after ((first ∷ q) ++ c ∷ []) rest else fronts_after ((first ∷ q) ++ c ∷ []) rest) ≡ true
      by true e h go =
          let parts = both_true (is_folder (E (first ∷ q))) (list_all (λ f. is_folder (E f)) (fronts_after ((first ∷ q) ++ c ∷ []) rest)) h in
          ap (λ t. t && list_all (λ f. is_folder (reachable E f)) (fronts_after ((first ∷ q) ++ c ∷ []) rest)) (here ∙ parts.0)
          ∙ go
          (ap (list_all (λ f. is_folder (E f))) (fronts_snoc (first ∷ q) c (omega arith) ∙ ap (λ (b : Bool). if b then fronts (first ∷ q) ++ (first ∷ q) ∷ [] else fronts (first ∷ q)) e)
          ∙ all_both (λ f. is_folder (E f)) (fronts (first ∷ q)) ((first ∷ q) ∷ []) before (ap (λ t. t && true) parts.0)) parts.1
      by false e h go =
          go
          (ap (list_all (λ f. is_folder (E f))) (fronts_snoc (first ∷ q) c (omega arith) ∙ ap (λ (b : Bool). if b then fronts (first ∷ q) ++ (first ∷ q) ∷ [] else fronts (first ∷ q)) e) ∙ before) h

  pub standing_shaped : IsShaped (reachable E)
  standing_shaped [] there = refl
  standing_shaped (c ∷ p) there = by (cases_Bool (has_folders E (c ∷ p)))
    where
      by : (has_folders E (c ∷ p) ≡ true) ⊎ (has_folders E (c ∷ p) ≡ false) → has_folders (reachable E) (c ∷ p) ≡ true
      by (inl all) = stand_on c [] p refl all
      by (inr none) = absurd (false≢true (sym (ap is_some (cond-false (has_folders E (c ∷ p)) (E (c ∷ p)) None none)) ∙ there))

pub lost_shaped : (D : Disk) (T : Tree) → Lost D T → IsShaped T
lost_shaped D T (entries, may, stands) = subst IsShaped (λ i p. sym (stands p) i) (standing_shaped entries)
