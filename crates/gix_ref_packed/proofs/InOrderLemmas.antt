-- A list in the order of its names has its elements, never falls, keeps those that tie in their order, and is the only one so.
use Rattle.std.proofs.Common.{◌≡◌, ℕ, suc, Bool, true, false, cond, not, ◌&&◌, List, [], ◌∷◌, map, refl, sym, ◌∙◌, ap, arith, is_lt, if◌then◌else◌}
use Rattle.std.specs.List.{All, Contains, filter}
use Rattle.std.specs.List.Sorted.{IsPermutation, ties}
use Rattle.std.specs.Cmp.{IsStrictWeakOrder}
use Rattle.std.specs.Cmp.Lexicographic.{slice_cmp}
use Rattle.std.specs.Ordering.{nat_cmp}
use Rattle.std.specs.declared.cmp.Ordering.{Ordering}
use Rattle.std.specs.declared.cmp.Ordering.TheVariants.{Less, Equal, Greater}
use Rattle.std.proofs.lemmas.Cmp.{nat_list_cmp_total, tied_itself}
use Rattle.std.proofs.lemmas.List.Elements.{All-head, All-tail, All-cons, All-nil, All-weaker}
use Rattle.std.proofs.lemmas.List.Sorted.{IsPermutation-refl, IsPermutation-cons, IsPermutation-trans, IsPermutation-middle, All-permutation, ranks_by}
use Rattle.gix_ref_packed.specs.InOrder.{insert_by, sorted_by}

-- the order of names, as a test
abbrev pub is_lower_by : {X : Type 0} → (X → List ℕ) → X → X → Bool
is_lower_by name x y = is_lt (slice_cmp nat_cmp (name x) (name y))

-- no name is below an earlier one, but names may be equal
abbrev pub NeverFalls : {X : Type 0} → (X → List ℕ) → List X → Type 0
NeverFalls name [] = Unit {0}
NeverFalls name (x ∷ xs) = All (λ y. (slice_cmp nat_cmp (name y) (name x) ≡ Less) → ⊥) xs × NeverFalls name xs

-- where the answer is not `Less`, the test says no
says_no : (o : Ordering) → (o ≡ Less → ⊥) → is_lt o ≡ false
says_no Less high = absurd (high refl)
says_no Equal high = refl
says_no Greater high = refl

-- where the test says no, the answer is not `Less`
not_less : (o : Ordering) → is_lt o ≡ false → o ≡ Less → ⊥
not_less o high less = let bad : false ≡ true = sym high ∙ ap is_lt less in cc

module _ {X : Type 0} (name : X → List ℕ) where
  -- y is not below x
  abbrev NotBelow : X → X → Type 0
  NotBelow x y = (slice_cmp nat_cmp (name y) (name x) ≡ Less) → ⊥

  -- the elements that tie with p
  abbrev tied : X → List X → List X
  tied p xs = filter (ties (is_lower_by name) p) xs

  -- the test by names is an order
  ranks : IsStrictWeakOrder (is_lower_by name)
  ranks = ranks_by nat_list_cmp_total name

  -- the same of two names: the test says no just where the one is not below the other
  not_below : (x y : X) → is_lower_by name y x ≡ false → NotBelow x y
  not_below x y high = not_less (slice_cmp nat_cmp (name y) (name x)) high

  not_lower : (x y : X) → NotBelow x y → is_lower_by name y x ≡ false
  not_lower x y high = says_no (slice_cmp nat_cmp (name y) (name x)) high

  -- no name is below itself
  lower_itself : (x : X) → is_lower_by name x x ≡ false
  lower_itself x = ap is_lt (tied_itself nat_list_cmp_total (name x))

  -- an insertion only moves elements
  insert_moves : (x : X) (ys : List X) → IsPermutation (x ∷ ys) (insert_by name x ys)
  insert_moves x [] = IsPermutation-refl (x ∷ [])
  insert_moves x (y ∷ ys) = go (is_lower_by name y x) (insert_moves x ys)
    where
      go : (b : Bool) → IsPermutation (x ∷ ys) (insert_by name x ys) → IsPermutation (x ∷ y ∷ ys) (if b then y ∷ insert_by name x ys else x ∷ y ∷ ys)
      go true more = IsPermutation-trans (x ∷ y ∷ ys) (y ∷ x ∷ ys) (y ∷ insert_by name x ys) (IsPermutation-middle (x ∷ []) y ys) (IsPermutation-cons y (x ∷ ys) (insert_by name x ys) more)
      go false more = IsPermutation-refl (x ∷ y ∷ ys)

  -- sorting only moves elements
  pub sorted_moves : (xs : List X) → IsPermutation xs (sorted_by name xs)
  sorted_moves [] = IsPermutation-refl []
  sorted_moves (x ∷ xs) = IsPermutation-trans (x ∷ xs) (x ∷ sorted_by name xs) (sorted_by name (x ∷ xs)) (IsPermutation-cons x xs (sorted_by name xs) (sorted_moves xs)) (insert_moves x (sorted_by name xs))

  -- an insertion keeps the order
  insert_never_falls : (x : X) (ys : List X) → NeverFalls name ys → NeverFalls name (insert_by name x ys)
  insert_never_falls x [] up = (All-nil (NotBelow x), tt)
  insert_never_falls x (y ∷ ys) up = go (is_lower_by name y x) refl (insert_never_falls x ys up.1)
    where
      go : (b : Bool) → is_lower_by name y x ≡ b → NeverFalls name (insert_by name x ys) → NeverFalls name (if b then y ∷ insert_by name x ys else x ∷ y ∷ ys)
      go true low more =
          let above : NotBelow y x = not_below y x (ranks.one_way y x low) in
          (All-permutation (NotBelow y) (x ∷ ys) (insert_by name x ys) (insert_moves x ys) (All-cons (NotBelow y) x ys above up.0), more)
      go false high more =
          let rest : All (NotBelow x) ys = All-weaker (NotBelow y) (NotBelow x) (λ z above. not_below x z (ranks.chain z y x (not_lower y z above) high)) ys up.0 in
          (All-cons (NotBelow x) y ys (not_below x y high) rest, up)

  -- no name of a sorted list is below an earlier one
  pub sorted_never_falls : (xs : List X) → NeverFalls name (sorted_by name xs)
  sorted_never_falls [] = tt
  sorted_never_falls (x ∷ xs) = insert_never_falls x (sorted_by name xs) (sorted_never_falls xs)

  -- of two elements that tie with one, neither is below the other
  none_lower : (p x y : X) → ties (is_lower_by name) p x ≡ true → ties (is_lower_by name) p y ≡ true → is_lower_by name y x ≡ false
  none_lower p x y a b = ranks.chain y p x (both_false (is_lower_by name p y) (is_lower_by name y p) b).1 (both_false (is_lower_by name p x) (is_lower_by name x p) a).0
    where
      both_false : (c d : Bool) → (not c && not d) ≡ true → (c ≡ false) × (d ≡ false)
      both_false true d e = absurd (cc)
      both_false false true e = absurd (cc)
      both_false false false e = (refl, refl)

  -- an insertion puts the element before those that tie with it
  insert_stable : (x : X) (ys : List X) (p : X) → tied p (insert_by name x ys) ≡ tied p (x ∷ ys)
  insert_stable x [] p = refl
  insert_stable x (y ∷ ys) p = go (is_lower_by name y x) refl (insert_stable x ys p)
    where
      -- what passes two tests one after the other, in the one order and in the other
      either_order : (b c : Bool) → ties (is_lower_by name) p x ≡ b → ties (is_lower_by name) p y ≡ c → is_lower_by name y x ≡ true
          → cond c (y ∷ cond b (x ∷ tied p ys) (tied p ys)) (cond b (x ∷ tied p ys) (tied p ys)) ≡ cond b (x ∷ cond c (y ∷ tied p ys) (tied p ys)) (cond c (y ∷ tied p ys) (tied p ys))
      either_order true true ties_x ties_y low = let bad : true ≡ false = sym low ∙ none_lower p x y ties_x ties_y in absurd (cc)
      either_order true false ties_x ties_y low = refl
      either_order false c ties_x ties_y low = refl

      go : (b : Bool) → is_lower_by name y x ≡ b → tied p (insert_by name x ys) ≡ tied p (x ∷ ys) → tied p (if b then y ∷ insert_by name x ys else x ∷ y ∷ ys) ≡ tied p (x ∷ y ∷ ys)
      go true low more = ap (λ zs. cond (ties (is_lower_by name) p y) (y ∷ zs) zs) more ∙ either_order (ties (is_lower_by name) p x) (ties (is_lower_by name) p y) refl refl low
      go false high more = refl

  -- elements that tie stay in their order
  pub sorted_stable : (xs : List X) (p : X) → filter (ties (is_lower_by name) p) (sorted_by name xs) ≡ filter (ties (is_lower_by name) p) xs
  sorted_stable [] p = refl
  sorted_stable (x ∷ xs) p = insert_stable x (sorted_by name xs) p ∙ ap (λ zs. cond (ties (is_lower_by name) p x) (x ∷ zs) zs) (sorted_stable xs p)

  -- each element ties with itself
  ties_itself : (x : X) → ties (is_lower_by name) x x ≡ true
  ties_itself x = ap (λ b. not b && not b) (lower_itself x)

  -- the first of a list is the first of those that tie with it
  tied_first : (x : X) (xs : List X) → tied x (x ∷ xs) ≡ x ∷ tied x xs
  tied_first x xs = ap (λ b. cond b (x ∷ tied x xs) (tied x xs)) (ties_itself x)

  -- where no element of a list is below y, and one ties with x, x is not below y
  not_lower_tied : (x y : X) (zs us : List X) (u : X) → All (λ z. is_lower_by name z y ≡ false) zs → tied x zs ≡ u ∷ us → is_lower_by name x y ≡ false
  not_lower_tied x y [] us u all some = absurd (cc)
  not_lower_tied x y (z ∷ zs) us u all some = go (ties (is_lower_by name) x z) refl some (not_lower_tied x y zs us u (All-tail (λ z. is_lower_by name z y ≡ false) z zs all))
    where
      go : (b : Bool) → ties (is_lower_by name) x z ≡ b → cond b (z ∷ tied x zs) (tied x zs) ≡ u ∷ us → (tied x zs ≡ u ∷ us → is_lower_by name x y ≡ false) → is_lower_by name x y ≡ false
      go true is some more = ranks.chain x z y (none_lower x z x is (ties_itself x)) (All-head (λ z. is_lower_by name z y ≡ false) z zs all)
      go false is some more = more some

  -- where one element of a list that never falls ties with x, x is not below the first
  not_lower_first : (x y u : X) (ys us : List X) → NeverFalls name (y ∷ ys) → tied x (y ∷ ys) ≡ u ∷ us → is_lower_by name x y ≡ false
  not_lower_first x y u ys us up = not_lower_tied x y (y ∷ ys) us u (All-cons (λ z. is_lower_by name z y ≡ false) y ys (lower_itself y) (All-weaker (NotBelow y) (λ z. is_lower_by name z y ≡ false) (not_lower y) ys up.0))

  -- two lists that never fall begin with one element, if they have the same elements that tie with either's first
  same_first : (x y : X) (xs ys : List X) → NeverFalls name (x ∷ xs) → NeverFalls name (y ∷ ys) → tied x (x ∷ xs) ≡ tied x (y ∷ ys) → tied y (x ∷ xs) ≡ tied y (y ∷ ys) → x ≡ y
  same_first x y xs ys up rise by_x by_y =
      let not_x = not_lower_first x y x ys (tied x xs) rise (sym by_x ∙ tied_first x xs) in
      let not_y = not_lower_first y x y xs (tied y ys) up (by_y ∙ tied_first y ys) in
      let tie : ties (is_lower_by name) x y ≡ true = ap (λ b. not b && not (is_lower_by name y x)) not_x ∙ ap not not_y in
      let first : x ∷ tied x xs ≡ y ∷ tied x ys = sym (tied_first x xs) ∙ by_x ∙ ap (λ b. cond b (y ∷ tied x ys) (tied x ys)) tie in cc

  -- two lists that never fall are the same, if for each of their elements they have the same elements that tie with it, in the same order
  pub sorts_once : (a b : List X) → NeverFalls name a → NeverFalls name b
      → ((p : X) → Contains a p → filter (ties (is_lower_by name) p) a ≡ filter (ties (is_lower_by name) p) b)
      → ((p : X) → Contains b p → filter (ties (is_lower_by name) p) a ≡ filter (ties (is_lower_by name) p) b) → a ≡ b
  sorts_once [] [] up rise of_a of_b = refl
  sorts_once [] (y ∷ ys) up rise of_a of_b = let bad : [] ≡ y ∷ tied y ys = of_b y (0, omega arith, refl) ∙ tied_first y ys in absurd (cc)
  sorts_once (x ∷ xs) [] up rise of_a of_b = let bad : [] ≡ x ∷ tied x xs = sym (of_a x (0, omega arith, refl)) ∙ tied_first x xs in absurd (cc)
  sorts_once (x ∷ xs) (y ∷ ys) up rise of_a of_b =
      let same = same_first x y xs ys up rise (of_a x (0, omega arith, refl)) (of_b y (0, omega arith, refl)) in
      let rest : (p : X) → tied p (x ∷ xs) ≡ tied p (y ∷ ys) → tied p xs ≡ tied p ys = λ p all.
      drop_first (ties (is_lower_by name) p x) (tied p xs) (tied p ys) (all ∙ ap (λ z. cond (ties (is_lower_by name) p z) (z ∷ tied p ys) (tied p ys)) (sym same)) in
      let more = sorts_once xs ys up.1 rise.1 (λ p has. rest p (of_a p (suc has.0, let within = has.1 in omega arith, has.2))) (λ p has. rest p (of_b p (suc has.0, let within = has.1 in omega arith, has.2))) in cc
    where
      drop_first : (b : Bool) (us vs : List X) → cond b (x ∷ us) us ≡ cond b (x ∷ vs) vs → us ≡ vs
      drop_first true us vs e = cc
      drop_first false us vs e = e

-- an insertion among images is the image of the insertion
insert_images : {A B : Type 0} (name : B → List ℕ) (f : A → B) (x : A) (ys : List A) → insert_by name (f x) (map f ys) ≡ map f (insert_by (λ a. name (f a)) x ys)
insert_images name f x [] = refl
insert_images name f x (y ∷ ys) = go (is_lower_by name (f y) (f x)) (insert_images name f x ys)
  where
    go : (b : Bool) → insert_by name (f x) (map f ys) ≡ map f (insert_by (λ a. name (f a)) x ys) → (if b then f y ∷ insert_by name (f x) (map f ys) else f x ∷ f y ∷ map f ys) ≡ map f (if b then y ∷ insert_by (λ a. name (f a)) x ys else x ∷ y ∷ ys)
    go true more = ap (λ zs. f y ∷ zs) more
    go false more = refl

-- images are sorted as the elements are by the names of their images
pub sorted_images : {A B : Type 0} (name : B → List ℕ) (f : A → B) (xs : List A) → sorted_by name (map f xs) ≡ map f (sorted_by (λ x. name (f x)) xs)
sorted_images name f [] = refl
sorted_images name f (x ∷ xs) = ap (insert_by name (f x)) (sorted_images name f xs) ∙ insert_images name f x (sorted_by (λ a. name (f a)) xs)

-- where two namings agree on the elements, they insert at one place
insert_same : {X : Type 0} (g h : X → List ℕ) (x : X) (ys : List X) → g x ≡ h x → All (λ y. g y ≡ h y) ys → insert_by g x ys ≡ insert_by h x ys
insert_same g h x [] same all = refl
insert_same g h x (y ∷ ys) same all =
    ap (λ zs. if is_lower_by g y x then y ∷ zs else x ∷ y ∷ ys) (insert_same g h x ys same (All-tail (λ y. g y ≡ h y) y ys all))
    ∙ ap (λ n. if is_lt (slice_cmp nat_cmp (g y) n) then y ∷ insert_by h x ys else x ∷ y ∷ ys) same
    ∙ ap (λ n. if is_lt (slice_cmp nat_cmp n (h x)) then y ∷ insert_by h x ys else x ∷ y ∷ ys) (All-head (λ y. g y ≡ h y) y ys all)

-- where two namings agree on the elements, they sort alike
pub sorted_same : {X : Type 0} (g h : X → List ℕ) (xs : List X) → All (λ x. g x ≡ h x) xs → sorted_by g xs ≡ sorted_by h xs
sorted_same g h [] all = refl
sorted_same g h (x ∷ xs) all =
    let rest = All-tail (λ x. g x ≡ h x) x xs all in
    ap (insert_by g x) (sorted_same g h xs rest)
    ∙ insert_same g h x (sorted_by h xs) (All-head (λ x. g x ≡ h x) x xs all) (All-permutation (λ x. g x ≡ h x) xs (sorted_by h xs) (sorted_moves h xs) rest)
