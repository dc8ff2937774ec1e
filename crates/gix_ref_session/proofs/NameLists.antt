-- Names of edits, in order.
use Rattle.std.proofs.Common.{◌≡◌, ℕ, suc, ◌<◌, length, get_or, take, drop, arith, map, List, ◌∷◌, ◌++◌, Bool, true, false, None, Result, Ok, Err, Bor, inl, inr, ap, sym, subst, refl, ◌∙◌}
use Rattle.std.specs.Prelude.{is_ok, Decides}
use Rattle.std.specs.Cmp.Lexicographic.{slice_cmp}
use Rattle.std.specs.List.{Contains}
use Rattle.std.specs.List.Sorted.{IsBinarySearchResult, IsPartitionPoint, IsPermutation, IsSearchInRange, IsSorted}
use Rattle.std.specs.Ordering.{nat_cmp}
use Rattle.std.specs.declared.cmp.Ordering.{Ordering}
use Rattle.std.specs.declared.cmp.Ordering.TheVariants.{Less, Equal, Greater}
use Rattle.std.proofs.lemmas.Bool.{cases_lt}
use Rattle.std.proofs.lemmas.Cmp.{nat_list_cmp_total, tied_itself}
use Rattle.std.proofs.lemmas.List.{get_or-map, length-map, length-take-le, take-append-drop}
use Rattle.std.proofs.Math.Seq.{drop-cons}
use Rattle.gix_ref_name.specs.NameGrammar.{full_error}
use Rattle.std.proofs.lemmas.List.Sorted.{Contains-permutation, IsPermutation-map, IsPermutation-sym, searchable_from_sorted}
use Rattle.std.proofs.lemmas.Map.Lookups.{exact_bytes}
use Rattle.gix_ref_edits.specs.RefEdits.{name_of}
use Rattle.gix_ref_edits.specs.declared.transaction.RefEdit.{RefEdit}
use Rattle.gix_ref_session.specs.Clashes.{AreNamesOf, IsFolderAt, lent_bytes}

module _ (names : List (Bor (List ℕ))) (name : Bor (List ℕ)) where
  here : (i : ℕ) → i < length names → slice_cmp nat_cmp (get_or names i name).now name.now ≡ Equal → Contains (map lent_bytes names) name.now
  here i lt equal = (i, subst (λ (n : ℕ). i < n) (sym (length-map names lent_bytes)) lt, get_or-map lent_bytes names i name name.now lt ∙ exact_bytes _ _ equal)

  equal_at : (k : ℕ) → k < length names → get_or (map lent_bytes names) k name.now ≡ name.now → slice_cmp nat_cmp (get_or names k name).now name.now ≡ Equal
  equal_at k lt is = ap (λ (x : List ℕ). slice_cmp nat_cmp x name.now) (sym (get_or-map lent_bytes names k name name.now lt) ∙ is) ∙ tied_itself nat_list_cmp_total name.now

  not_less : (o : Ordering) → o ≡ Equal → o ≡ Less → ⊥
  not_less o equal less = cc

  not_greater : (o : Ordering) → o ≡ Equal → o ≡ Greater → ⊥
  not_greater o equal greater = cc

  -- what a search for a name says
  pub searched : IsSorted (λ (a b : Bor (List ℕ)). slice_cmp nat_cmp a.now b.now) names → (r : Result ℕ ℕ) → IsSearchInRange r (length names) → IsBinarySearchResult (λ (y : Bor (List ℕ)). slice_cmp nat_cmp y.now name.now) names r → Decides (is_ok r) (Contains (map lent_bytes names) name.now)
  searched up (Ok i) range found = (λ _. here i range (found name), λ _. refl)
  searched up (Err i) range found = (λ is. no is, λ has. absurd (nowhere (found (searchable_from_sorted nat_list_cmp_total lent_bytes names name.now up)) has))
    where
      no : false ≡ true → Contains (map lent_bytes names) name.now
      no is = cc

      nowhere : IsPartitionPoint (λ (y : Bor (List ℕ)). slice_cmp nat_cmp y.now name.now ≡ Less) (λ (y : Bor (List ℕ)). slice_cmp nat_cmp y.now name.now ≡ Greater) names i → Contains (map lent_bytes names) name.now → ⊥
      nowhere parts (k, lt, is) =
          let within = subst (λ (n : ℕ). k < n) (length-map names lent_bytes) lt in
          elim (cases_lt k i) [
            | inl before ↦ not_less _ (equal_at k within is) (parts.0 k name (omega arith) before)
            | inr after ↦ not_greater _ (equal_at k within is) (parts.1 k name after within)
          ]

-- a name is among those of edits
pub edited_by : (edits : List RefEdit) (names : List (Bor (List ℕ))) (name : Bor (List ℕ)) → AreNamesOf edits names → (b : Bool) → Decides b (Contains (map lent_bytes names) name.now) → Decides b (Contains (map name_of edits) name.now)
edited_by edits names name are b is = (
  λ yes. Contains-permutation (map lent_bytes names) (map name_of edits) name.now (IsPermutation-sym (map name_of edits) (map lent_bytes names) are.reordered) (is.0 yes),
  λ has. is.1 (Contains-permutation (map name_of edits) (map lent_bytes names) name.now are.reordered has),
)

-- the names of edits, sorted
pub names_in_order : (edits : List RefEdit) (before names : List (Bor (List ℕ))) → map lent_bytes before ≡ map name_of edits → IsPermutation before names → IsSorted (λ (a b : Bor (List ℕ)). slice_cmp nat_cmp a.now b.now) names → AreNamesOf edits names
names_in_order edits before names are moved up = record {
  sorted = up;
  reordered = subst (λ (es : List (List ℕ)). IsPermutation es (map lent_bytes names)) are (IsPermutation-map lent_bytes before names moved);
}

-- a folder of a name
pub folder_at : (name folder : List ℕ) (at : ℕ) → at < length name → get_or name at 0 ≡ 47 → folder ≡ take at name → full_error (take at name) ≡ None → IsFolderAt at folder name
folder_at name folder at lt slash is full = (
  record {
    rest = drop (suc at) name;
    is = sym (take-append-drop at name) ∙ (ap (λ (xs : List ℕ). take at name ++ xs) (drop-cons name at 0 lt ∙ ap (λ (b : ℕ). b ∷ drop (suc at) name) slash) ∙ ap (λ (f : List ℕ). f ++ 47 ∷ drop (suc at) name) (sym is));
    full = ap full_error is ∙ full;
  },
  ap length is ∙ length-take-le at name (omega (arith, lt)),
)
