-- Records that ascend are known by what each name has: so there is one list of merged records.
use Rattle.std.proofs.Common.{◌≡◌, ℕ, suc, List, [], ◌∷◌, Some, None, true, false, refl, sym, ap, ◌∙◌, inl, inr, ◌⊎◌, bytes_eq, arith}
use Rattle.std.specs.Prelude.{AllPairs}
use Rattle.std.specs.List.{All}
use Rattle.std.specs.Cmp.Lexicographic.{slice_cmp}
use Rattle.std.specs.Ordering.{nat_cmp, is_eq, ordering_reverse}
use Rattle.std.specs.declared.cmp.Ordering.{Ordering}
use Rattle.std.specs.declared.cmp.Ordering.TheVariants.{Less, Equal, Greater}
use Rattle.std.proofs.lemmas.Bool.{cond-true, cond-false, cases_Bool}
use Rattle.std.proofs.lemmas.Cmp.{nat_list_cmp_total}
use Rattle.std.proofs.lemmas.Map.Text.{is_eq-slice_cmp}
use Rattle.std.proofs.lemmas.List.Elements.{All-head, All-tail}
use Rattle.gix_ref_theory.proofs.Writes.{same, same_true}
use Rattle.gix_ref_target.specs.Layout.{below}
use Rattle.gix_ref_target.specs.PackedRecords.{Record, record_named}
use Rattle.gix_ref_theory.specs.Theorems.{MergedRecordsAreOne}

-- the name is below this one
abbrev IsBelow : List ℕ → Record → Type 0
IsBelow name r = slice_cmp nat_cmp name r.name ≡ Less

abbrev Ascends : List Record → Type 0
Ascends rs = AllPairs (λ (r later : Record). slice_cmp nat_cmp r.name later.name ≡ Less) rs

below_rest : (r : Record) (rs : List Record) → Ascends (r ∷ rs) → All (IsBelow r.name) rs
below_rest r rs up k d lt = up 0 (suc k) d (omega arith) (omega arith)

rest_ascends : (r : Record) (rs : List Record) → Ascends (r ∷ rs) → Ascends rs
rest_ascends r rs up i j d lt le = up (suc i) (suc j) d (omega arith) (omega arith)

apart_if_below : (name : List ℕ) (r : Record) → IsBelow name r → bytes_eq r.name name ≡ false
apart_if_below name r h = sym (is_eq-slice_cmp r.name name) ∙ ap is_eq (nat_list_cmp_total.antisymm r.name name ∙ ap ordering_reverse h)

-- a name below all has no record
none_below : (name : List ℕ) (rs : List Record) → All (IsBelow name) rs → record_named name rs ≡ None
none_below name [] h = refl
none_below name (r ∷ rs) h =
    cond-false (bytes_eq r.name name) (Some r) (record_named name rs) (apart_if_below name r (All-head (IsBelow name) r rs h))
    ∙ none_below name rs (All-tail (IsBelow name) r rs h)

first_named : (r : Record) (rs : List Record) → record_named r.name (r ∷ rs) ≡ Some r
first_named r rs = cond-true (bytes_eq r.name r.name) (Some r) (record_named r.name rs) (same_true r.name r.name refl)

none_is_some : (r : Record) → None ≡ Some r → ⊥
none_is_some r h = cc

-- a first record that is below another's has no like there
not_below : (x y : Record) (xs ys : List Record) → Ascends (y ∷ ys) → IsBelow x.name y → record_named x.name (x ∷ xs) ≡ record_named x.name (y ∷ ys) → ⊥
not_below x y xs ys up below alike =
    none_is_some x (sym (cond-false (bytes_eq y.name x.name) (Some y) (record_named x.name ys) (apart_if_below x.name y below) ∙ none_below x.name ys later) ∙ (sym alike ∙ first_named x xs))
  where
    later : All (IsBelow x.name) ys
    later k d lt = nat_list_cmp_total.trans x.name y.name _ below (below_rest y ys up k d lt)

-- ascending records that have the same record for each name are the same
one_list : (xs ys : List Record) → Ascends xs → Ascends ys → ((name : List ℕ) → record_named name xs ≡ record_named name ys) → xs ≡ ys
one_list [] [] up vp alike = refl
one_list [] (y ∷ ys) up vp alike = absurd (none_is_some y (alike y.name ∙ first_named y ys))
one_list (x ∷ xs) [] up vp alike = absurd (none_is_some x (sym (alike x.name) ∙ first_named x xs))
one_list (x ∷ xs) (y ∷ ys) up vp alike = by (slice_cmp nat_cmp x.name y.name) refl (one_list xs ys (rest_ascends x xs up) (rest_ascends y ys vp))
  where
    by : (o : Ordering) → slice_cmp nat_cmp x.name y.name ≡ o → (((name : List ℕ) → record_named name xs ≡ record_named name ys) → xs ≡ ys) → x ∷ xs ≡ y ∷ ys
    by Less is rest = absurd (not_below x y xs ys vp is (alike x.name))
    by Greater is rest =
        absurd (not_below y x ys xs up (nat_list_cmp_total.antisymm y.name x.name ∙ ap ordering_reverse is) (sym (alike y.name)))
    by Equal is rest =
        let name_is : x.name ≡ y.name = same x.name y.name (sym (is_eq-slice_cmp x.name y.name) ∙ ap is_eq is) in
        let some : Some x ≡ Some y = sym (first_named x xs) ∙ (alike x.name ∙ (ap (λ n. record_named n (y ∷ ys)) name_is ∙ first_named y ys)) in
        let first : x ≡ y = cc in
        ap (λ r. r ∷ xs) first ∙ ap (λ rs. y ∷ rs) (rest (λ name. behind name name_is (cases_Bool (bytes_eq x.name name))))
      where
        behind : (name : List ℕ) → x.name ≡ y.name → (bytes_eq x.name name ≡ true) ⊎ (bytes_eq x.name name ≡ false) → record_named name xs ≡ record_named name ys
        behind name name_is (inl here) =
            let is_x : name ≡ x.name = sym (same x.name name here) in
            ap (λ n. record_named n xs) is_x
            ∙ (none_below x.name xs (below_rest x xs up)
            ∙ (sym (none_below y.name ys (below_rest y ys vp)) ∙ ap (λ n. record_named n ys) (sym (is_x ∙ name_is))))
        behind name name_is (inr other) =
            sym (cond-false (bytes_eq x.name name) (Some x) (record_named name xs) other)
            ∙ (alike name ∙ cond-false (bytes_eq y.name name) (Some y) (record_named name ys) (ap (λ n. bytes_eq n name) (sym name_is) ∙ other))

-- two lists of merged records are one
pub merged_once : MergedRecordsAreOne
merged_once s mode edits old new other merged again =
    one_list new other merged.ascending again.ascending (λ key. merged.each key ∙ sym (again.each key))
