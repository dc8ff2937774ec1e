-- In a list of names that ascends, a name that occurs twice has two neighbours.
use Rattle.std.proofs.Common.{◌≡◌, ◌≢◌, ℕ, zero, suc, ◌+◌, ◌<◌, ◌≤◌, refl, sym, ap, subst, ◌∙◌, List, [], ◌∷◌, length, get_or, map, arith, Bool, true, false, cond, bytes_eq}
use Rattle.std.specs.List.{count_by}
use Rattle.std.specs.Ordering.{nat_cmp, is_eq, ordering_index}
use Rattle.std.specs.Cmp.Lexicographic.{slice_cmp, bytes_decides}
use Rattle.std.specs.List.Sorted.{IsSortedBy, IsPermutation}
use Rattle.std.specs.declared.cmp.Ordering.{Ordering}
use Rattle.std.specs.declared.cmp.Ordering.TheVariants.{Less, Equal, Greater}
use Rattle.std.proofs.lemmas.Cmp.{nat_list_cmp_total}
use Rattle.std.proofs.lemmas.Map.Text.{is_eq-slice_cmp}
use Rattle.std.proofs.lemmas.List.Recursion.{is_count_by}
use Rattle.std.proofs.lemmas.List.Sorted.{searchable_from_sorted, sorted_far, ranks_by, sum_by-IsPermutation, IsPermutation-map}
use Rattle.gix_ref_edits.specs.DoubledNames.{IsDoubled, NoneDoubled, IsLeastDoubled, is_below}

-- `count_by`, by recursion
tally : {X : Type 0} → (X → Bool) → List X → ℕ
tally p [] = 0
tally p (x ∷ xs) = cond (p x) (1 + tally p xs) (tally p xs)

tally_is : {X : Type 0} (p : X → Bool) (xs : List X) → tally p xs ≡ count_by p xs
unfolding tally
tally_is p xs = is_count_by (tally p) p refl (λ x rest. refl) xs

tally-map : {X Y : Type 0} (p : Y → Bool) (f : X → Y) (xs : List X) → tally p (map f xs) ≡ tally (λ x. p (f x)) xs
unfolding tally
tally-map p f [] = refl
tally-map p f (x ∷ xs) = ap (λ n. cond (p (f x)) (1 + n) n) (tally-map p f xs)

record Place {X : Type 0} (p : X → Bool) (xs : List X) (d : X) : Type 0 where
  at : ℕ
  within : at < length xs
  is : p (get_or xs at d) ≡ true

record TwoPlaces {X : Type 0} (p : X → Bool) (xs : List X) (d : X) : Type 0 where
  low : ℕ
  high : ℕ
  apart : low < high
  within : high < length xs
  is_low : p (get_or xs low d) ≡ true
  is_high : p (get_or xs high d) ≡ true

module _ {X : Type 0} (p : X → Bool) (d : X) where
  one_here : (x : X) (xs : List X) (b : Bool) → p x ≡ b → (1 ≤ tally p xs → Place p xs d) → 1 ≤ cond b (1 + tally p xs) (tally p xs) → Place p (x ∷ xs) d
  one_here x xs true is rest some = record { at = 0; within = omega arith; is = is }
  one_here x xs false is rest some = let there = rest some in record { at = suc there.at; within = omega (arith, there.within); is = there.is }

  one_place : (xs : List X) → 1 ≤ tally p xs → Place p xs d
  unfolding tally
  one_place [] some = absurd (omega (arith, some))
  one_place (x ∷ xs) some = one_here x xs (p x) refl (one_place xs) some

  two_here : (x : X) (xs : List X) (b : Bool) → p x ≡ b → (2 ≤ tally p xs → TwoPlaces p xs d) → 2 ≤ cond b (1 + tally p xs) (tally p xs) → TwoPlaces p (x ∷ xs) d
  two_here x xs true is rest some =
      let there = one_place xs (omega (arith, some)) in
      record { low = 0; high = suc there.at; apart = omega arith; within = omega (arith, there.within); is_low = is; is_high = there.is }
  two_here x xs false is rest some =
      let there = rest some in
      record { low = suc there.low; high = suc there.high; apart = omega (arith, there.apart); within = omega (arith, there.within); is_low = there.is_low; is_high = there.is_high }

  two_places : (xs : List X) → 2 ≤ tally p xs → TwoPlaces p xs d
  unfolding tally
  two_places [] some = absurd (omega (arith, some))
  two_places (x ∷ xs) some = two_here x xs (p x) refl (two_places xs) some

  counted_one : (xs : List X) (k : ℕ) → k < length xs → p (get_or xs k d) ≡ true → 1 ≤ tally p xs
  unfolding tally
  counted_one [] k lt is = absurd (omega (arith, lt))
  counted_one (x ∷ xs) zero lt is = rw is (omega arith)
  counted_one (x ∷ xs) (suc k) lt is = more (p x) (counted_one xs k (omega (arith, lt)) is)
    where
      more : (b : Bool) → 1 ≤ tally p xs → 1 ≤ cond b (1 + tally p xs) (tally p xs)
      more true h = omega (arith, h)
      more false h = h

  counted_two : (xs : List X) (k : ℕ) → k + 1 < length xs → p (get_or xs k d) ≡ true → p (get_or xs (k + 1) d) ≡ true → 2 ≤ tally p xs
  unfolding tally
  counted_two [] k lt here next = absurd (omega (arith, lt))
  counted_two (x ∷ xs) zero lt here next = rw here (let rest = counted_one xs 0 (omega (arith, lt)) next in omega (arith, rest))
  counted_two (x ∷ xs) (suc k) lt here next = more (p x) (counted_two xs k (omega (arith, lt)) here (subst (λ n. p (get_or (x ∷ xs) n d) ≡ true) after next))
    where
      after : suc k + 1 ≡ suc (k + 1)
      after = omega arith

      more : (b : Bool) → 2 ≤ tally p xs → 2 ≤ cond b (1 + tally p xs) (tally p xs)
      more true h = omega (arith, h)
      more false h = h

le_of_not : (a b : ℕ) → (b < a → ⊥) → a ≤ b
le_of_not a b h = omega (arith, h)

index_of_equal : (r : Ordering) → is_eq r ≡ true → ordering_index r ≡ 1
index_of_equal Less h = absurd (cc)
index_of_equal Equal h = refl
index_of_equal Greater h = absurd (cc)

equal_of_index : (r : Ordering) → ordering_index r ≡ 1 → is_eq r ≡ true
equal_of_index Less h = absurd (omega (arith, h))
equal_of_index Equal h = refl
equal_of_index Greater h = absurd (omega (arith, h))

module _ {X : Type 0} (key : X → List ℕ) (xs : List X) (sorted : IsSortedBy (λ x y. is_below (key x) (key y)) xs) where
  abbrev Named : List ℕ → X → Bool
  Named name x = bytes_eq name (key x)

  index_at : (name : List ℕ) (x : X) → Named name x ≡ true → ordering_index (slice_cmp nat_cmp (key x) name) ≡ 1
  index_at name x is =
      let same : name ≡ key x = (bytes_decides name (key x)).0 is in
      index_of_equal (slice_cmp nat_cmp (key x) name) (is_eq-slice_cmp (key x) name ∙ (bytes_decides (key x) name).1 (sym same))

  next_named : (name : List ℕ) (d : X) (places : TwoPlaces (Named name) xs d) → key (get_or xs (places.low + 1) d) ≡ name
  next_named name d places =
      let rising = searchable_from_sorted nat_list_cmp_total key xs name sorted in
      let low = index_at name (get_or xs places.low d) places.is_low in
      let high = index_at name (get_or xs places.high d) places.is_high in
      let next = get_or xs (places.low + 1) d in
      let up = rising places.low (places.low + 1) d (omega arith) (omega (arith, places.apart, places.within)) in
      let down = rising (places.low + 1) places.high d (omega (arith, places.apart)) places.within in
      let equal = equal_of_index (slice_cmp nat_cmp (key next) name) (omega (arith, up, down, low, high)) in
      (bytes_decides (key next) name).0 (sym (is_eq-slice_cmp (key next) name) ∙ equal)

  places_of : (name : List ℕ) (d : X) → IsDoubled (map key xs) name → TwoPlaces (Named name) xs d
  places_of name d doubled = two_places (Named name) d xs
      (subst (λ n. 2 ≤ n) (sym (tally_is (bytes_eq name) (map key xs)) ∙ tally-map (bytes_eq name) key xs) doubled)

  here_named : (name : List ℕ) (d : X) (places : TwoPlaces (Named name) xs d) → name ≡ key (get_or xs places.low d)
  here_named name d places = (bytes_decides name (key (get_or xs places.low d))).0 places.is_low

  pub none_doubled : (d : X) → ((k : ℕ) (e : X) → k + 1 < length xs → key (get_or xs k e) ≢ key (get_or xs (k + 1) e)) → NoneDoubled (map key xs)
  none_doubled d differ name doubled =
      let places = places_of name d doubled in
      differ places.low d (omega (arith, places.apart, places.within)) (sym (here_named name d places) ∙ sym (next_named name d places))

  pub least_doubled : (k : ℕ) (d : X) → k + 1 < length xs → ((j : ℕ) (e : X) → j < k → key (get_or xs j e) ≢ key (get_or xs (j + 1) e))
      → key (get_or xs k d) ≡ key (get_or xs (k + 1) d) → IsLeastDoubled (map key xs) (key (get_or xs (k + 1) d))
  least_doubled k d lt differ same = record {
    doubled =
        let name = key (get_or xs (k + 1) d) in
        let two = counted_two (Named name) d xs k lt ((bytes_decides name (key (get_or xs k d))).1 (sym same)) ((bytes_decides name name).1 refl) in
        subst (λ n. 2 ≤ n) (sym (tally-map (bytes_eq name) key xs) ∙ tally_is (bytes_eq name) (map key xs)) two;
    least = λ other doubled.
        let places = places_of other d doubled in
        let here = here_named other d places in
        let next = next_named other d places in
        let later : k ≤ places.low = le_of_not k places.low (λ before. differ places.low d before (sym here ∙ sym next)) in
        let below = sorted_far (λ x y. is_below (key x) (key y)) (ranks_by nat_list_cmp_total key) xs sorted k places.low d later (omega (arith, places.apart, places.within)) in
        ap (λ n. is_below n (key (get_or xs (k + 1) d))) here ∙ ap (λ n. is_below (key (get_or xs places.low d)) n) (sym same) ∙ below;
  }

pub all_differ : {X : Type 0} (key : X → List ℕ) (xs : List X) → IsSortedBy (λ x y. is_below (key x) (key y)) xs
    → ((k : ℕ) (e : X) → k + 1 < length xs → key (get_or xs k e) ≢ key (get_or xs (k + 1) e)) → NoneDoubled (map key xs)
all_differ key [] sorted differ name doubled = absurd (omega (arith, doubled))
all_differ key (x ∷ xs) sorted differ name doubled = none_doubled key (x ∷ xs) sorted x differ name doubled

-- names in another order
module _ {X : Type 0} (key : X → List ℕ) (xs ys sorted : List X) (names : List (List ℕ)) (are : map key xs ≡ names) (moved : IsPermutation xs ys) (read : sorted ≡ ys) where
  same_times : (name : List ℕ) → count_by (bytes_eq name) (map key sorted) ≡ count_by (bytes_eq name) names
  same_times name =
      ap (λ l. count_by (bytes_eq name) (map key l)) read
      ∙ sum_by-IsPermutation (λ n. cond (bytes_eq name n) 1 0) (map key xs) (map key ys) (IsPermutation-map key xs ys moved)
      ∙ ap (count_by (bytes_eq name)) are

  pub none_of_sorted : NoneDoubled (map key sorted) → NoneDoubled names
  none_of_sorted none name doubled = none name (subst (λ n. 2 ≤ n) (sym (same_times name)) doubled)

  pub least_of_sorted : (name : List ℕ) → IsLeastDoubled (map key sorted) name → IsLeastDoubled names name
  least_of_sorted name first = record {
    doubled = subst (λ n. 2 ≤ n) (same_times name) first.doubled;
    least = λ other doubled. first.least other (subst (λ n. 2 ≤ n) (sym (same_times other)) doubled);
  }
