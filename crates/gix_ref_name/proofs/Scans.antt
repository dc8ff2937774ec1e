-- One step of the scan of a name: what is from an index on, against the next byte.
use Rattle.std.proofs.Common.{◌≡◌, ℕ, ◌+◌, ◌-◌, ◌<◌, ◌≤◌, Bool, true, false, ◌||◌, ◌&&◌, List, [], ◌∷◌, ◌++◌, length, get_or, take, drop, refl, ap, sym, ◌∙◌, subst, arith, Option, Some, eqb, eq-eqb, ne_eqb, cond}
use Rattle.std.specs.List.{All, list_any, find}
use Rattle.std.proofs.lemmas.List.{drop_more, drop-drop, take_all, take-append-drop, get_or-drop, length-drop}
use Rattle.std.proofs.lemmas.List.Elements.{All-more, All-nil}
use Rattle.std.proofs.lemmas.List.Splits.{slice_split_at, slice_split_none}
use Rattle.gix_ref_hash.specs.Bytes.{occurs, components}

-- no byte is a slash
abbrev pub NoSlash : List ℕ → Type 0
NoSlash = All (λ b. eqb b 47 ≡ false)

or_assoc : (a b c : Bool) → ((a || b) || c) ≡ (a || (b || c))
or_assoc true b c = refl
or_assoc false b c = refl

or_false : (a : Bool) → (a || false) ≡ a
or_false true = refl
or_false false = refl

and_true : (a : Bool) → (a && true) ≡ a
and_true true = refl
and_true false = refl

and_false : (a : Bool) → (a && false) ≡ false
and_false true = refl
and_false false = refl

-- a pair at the front, or further on
pair_front : (a b p x : ℕ) (xs : List ℕ) → occurs (a ∷ b ∷ []) (p ∷ x ∷ xs) ≡ ((eqb a p && eqb b x) || occurs (a ∷ b ∷ []) (x ∷ xs))
pair_front a b p x xs = ap (λ v. (eqb a p && v) || occurs (a ∷ b ∷ []) (x ∷ xs)) (and_true (eqb b x))

-- what was seen of a pair before an index, and what is from there on, after one more byte
pub pair_step : (a b p : ℕ) (n : List ℕ) (i : ℕ) (seen all : Bool) → i < length n → (seen || occurs (a ∷ b ∷ []) (p ∷ drop i n)) ≡ all → ((seen || (eqb a p && eqb b (get_or n i 0))) || occurs (a ∷ b ∷ []) (get_or n i 0 ∷ drop (i + 1) n)) ≡ all
pair_step a b p n i seen all within was =
    or_assoc seen _ _
    ∙ ap (λ v. seen || v) (sym (pair_front a b p (get_or n i 0) (drop (i + 1) n)))
    ∙ ap (λ v. seen || occurs (a ∷ b ∷ []) (p ∷ v)) (sym (drop_more n i 0 within))
    ∙ was

-- the component that ends at a slash, and those after it
split_at_slash : (n : List ℕ) (s i : ℕ) → s ≤ i → i < length n → NoSlash (take (i - s) (drop s n)) → get_or n i 0 ≡ 47 → components (drop s n) ≡ take (i - s) (drop s n) ∷ components (drop (i + 1) n)
split_at_slash n s i after within none slash =
    let rest : drop (i - s) (drop s n) ≡ 47 ∷ drop (i + 1) n =
    drop-drop (i - s) s n ∙ ap (λ k. drop k n) (omega arith) ∙ drop_more n i 0 within ∙ ap (λ b. b ∷ drop (i + 1) n) slash in
    let whole : drop s n ≡ take (i - s) (drop s n) ++ 47 ∷ drop (i + 1) n =
    sym (take-append-drop (i - s) (drop s n)) ∙ ap (λ r. take (i - s) (drop s n) ++ r) rest in
    ap components whole ∙ slice_split_at (λ b. eqb b 47) (take (i - s) (drop s n)) 47 (drop (i + 1) n) none refl

pub component_step : (P : List ℕ → Bool) (n : List ℕ) (s i : ℕ) (seen all : Bool) → s ≤ i → i < length n → NoSlash (take (i - s) (drop s n)) → get_or n i 0 ≡ 47 → (seen || list_any P (components (drop s n))) ≡ all → ((seen || P (take (i - s) (drop s n))) || list_any P (components (drop (i + 1) n))) ≡ all
component_step P n s i seen all after within none slash was =
    or_assoc seen _ _ ∙ ap (λ v. seen || list_any P v) (sym (split_at_slash n s i after within none slash)) ∙ was

-- the last component
pub component_end : (P : List ℕ → Bool) (n : List ℕ) (s i : ℕ) (seen all : Bool) → length n ≤ i → NoSlash (take (i - s) (drop s n)) → (seen || list_any P (components (drop s n))) ≡ all → (seen || P (drop s n)) ≡ all
component_end P n s i seen all past none was =
    let whole : take (i - s) (drop s n) ≡ drop s n = take_all (i - s) (drop s n) (omega (arith, length-drop s n)) in
    let one : components (drop s n) ≡ drop s n ∷ [] =
    slice_split_none (λ b. eqb b 47) (drop s n) (subst NoSlash whole none) in
    ap (λ v. seen || v) (sym (or_false (P (drop s n)))) ∙ ap (λ v. seen || list_any P v) (sym one) ∙ was

-- no slash yet in the component that is being read
pub open_more : (n : List ℕ) (s i : ℕ) → s ≤ i → i < length n → NoSlash (take (i - s) (drop s n)) → eqb (get_or n i 0) 47 ≡ false → NoSlash (take (i + 1 - s) (drop s n))
open_more n s i after within none other =
    let at : get_or (drop s n) (i - s) 0 ≡ get_or n i 0 = get_or-drop s n (i - s) 0 ∙ ap (λ k. get_or n k 0) (omega arith) in
    let inside : i - s < length (drop s n) = omega (arith, length-drop s n) in
    let next : NoSlash (take (i - s + 1) (drop s n)) = All-more (λ b. (eqb b 47) ≡ false) (drop s n) (i - s) 0 inside none (ap (λ b. eqb b 47) at ∙ other) in
    subst (λ (k : ℕ). NoSlash (take k (drop s n))) (omega arith) next

pub open_none : (n : List ℕ) (s : ℕ) → NoSlash (take (s - s) (drop s n))
open_none n s =
    let none : 0 ≡ s - s = omega arith in
    subst (λ (k : ℕ). NoSlash (take k (drop s n))) none (All-nil (λ b. (eqb b 47) ≡ false))

-- the search for a byte of a kind goes on after one that is not of it
pub find_step : (p : ℕ → Bool) (n : List ℕ) (i : ℕ) (all : Option ℕ) → i < length n → p (get_or n i 0) ≡ false → find p (drop i n) ≡ all → find p (drop (i + 1) n) ≡ all
find_step p n i all within other was =
    sym (ap (find p) (drop_more n i 0 within) ∙ ap (λ v. cond v (Some (get_or n i 0)) (find p (drop (i + 1) n))) other) ∙ was

-- a byte that is not the second of a pair makes no pair
pub pair_none : (a b p : ℕ) (n : List ℕ) (i : ℕ) (seen all : Bool) → i < length n → eqb b (get_or n i 0) ≡ false → (seen || occurs (a ∷ b ∷ []) (p ∷ drop i n)) ≡ all → (seen || occurs (a ∷ b ∷ []) (get_or n i 0 ∷ drop (i + 1) n)) ≡ all
pair_none a b p n i seen all within other was =
    ap (λ v. v || occurs (a ∷ b ∷ []) (get_or n i 0 ∷ drop (i + 1) n)) (sym (ap (λ v. seen || (eqb a p && v)) other ∙ ap (λ v. seen || v) (and_false (eqb a p)) ∙ or_false seen))
    ∙ pair_step a b p n i seen all within was

pub no_slash_here : (x : ℕ) → eqb 47 x ≡ false → eqb x 47 ≡ false
no_slash_here x other = ne_eqb x 47 (λ same. let yes : eqb 47 x ≡ true = eq-eqb 47 x (sym same) in absurd cc)
