-- Names that more than one edit of a list has.
use Rattle.std.specs.Prelude.{◌≡◌, ℕ, ◌≤◌, List, Bool, false, bytes_eq, map}
use Rattle.std.specs.List.{count_by}
use Rattle.std.specs.Ordering.{nat_cmp, is_lt}
use Rattle.std.specs.Cmp.Lexicographic.{slice_cmp}
use Rattle.gix_ref_edits.specs.declared.transaction.RefEdit.{RefEdit}
use Rattle.gix_ref_edits.specs.RefEdits.{name_of}

-- the names of the edits of entries
abbrev pub entry_names : {T : Type 0} → (T → RefEdit) → List T → List (List ℕ)
entry_names edit_of = map (λ entry. name_of (edit_of entry))

-- the name occurs at least twice
abbrev pub IsDoubled : List (List ℕ) → List ℕ → Type 0
IsDoubled names name = 2 ≤ count_by (bytes_eq name) names

abbrev pub NoneDoubled : List (List ℕ) → Type 0
NoneDoubled names = (name : List ℕ) → ¬ IsDoubled names name

-- the first name comes before the second, by their bytes
abbrev pub is_below : List ℕ → List ℕ → Bool
is_below a b = is_lt (slice_cmp nat_cmp a b)

-- the name occurs twice, and none below it does
pub record IsLeastDoubled (names : List (List ℕ)) (name : List ℕ) : Type 0 where
  pub doubled : IsDoubled names name
  pub least : (other : List ℕ) → IsDoubled names other → is_below other name ≡ false
