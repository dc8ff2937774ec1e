-- Locks that a transaction adds to a tree.
use Rattle.std.proofs.Common.{◌≡◌, ◌<◌, ◌⊎◌, inl, inr, ⊎_elim, ℕ, zero, suc, length, get_or, arith, List, [], ◌∷◌, ◌++◌, Bool, true, false, Option, Some, None, refl, sym, ◌∙◌, ap, subst}
use Rattle.std.specs.Prelude.{bytes_eq, ◌||◌}
use Rattle.std.specs.List.{list_any}
use Rattle.std.proofs.lemmas.Slice.Eq.{bytes_eq-Decides}
use Rattle.gix_ref_files.specs.Tree.{Tree, Path, Content, fronts, is_file}
use Rattle.gix_ref_files.specs.Tree.Content.{File, Folder}
use Rattle.gix_ref_transaction.specs.OwnLocks.{is_in, leads_to, IsOurs, AddsLocks, RemovesLocks}

pub false_is_true : {X : Type 0} → false ≡ true → X
false_is_true e = cc

-- what is not so is false
pub is_false : (b : Bool) → (b ≡ true → ⊥) → b ≡ false
is_false true h = absurd (h refl)
is_false false h = refl

pub clash : {X : Type 0} {b : Bool} → b ≡ true → b ≡ false → X
clash so not_so = false_is_true (sym not_so ∙ so)

-- one way or the other
pub either_way : {X : Type 0} (b : Bool) → (b ≡ true → X) → (b ≡ false → X) → X
either_way true so not_so = so refl
either_way false so not_so = not_so refl

pub or_cases : (a b : Bool) → (a || b) ≡ true → (a ≡ true) ⊎ (b ≡ true)
or_cases true b h = inl refl
or_cases false b h = inr h

or_left : (a b : Bool) → a ≡ true → (a || b) ≡ true
or_left true b h = refl
or_left false b h = false_is_true h

or_right : (a b : Bool) → b ≡ true → (a || b) ≡ true
or_right true b h = refl
or_right false b h = h

pub same_path : (p q : Path) → bytes_eq p q ≡ true → p ≡ q
same_path p q h = (bytes_eq-Decides p q).0 h

pub is_same_path : (p q : Path) → p ≡ q → bytes_eq p q ≡ true
is_same_path p q h = (bytes_eq-Decides p q).1 h

module _ {A : Type 0} (test : A → Bool) where
  pub any_left : (xs ys : List A) → list_any test xs ≡ true → list_any test (xs ++ ys) ≡ true
  any_left [] ys h = false_is_true h
  any_left (x ∷ xs) ys h = ⊎_elim (λ here. or_left (test x) (list_any test (xs ++ ys)) here) (λ there. or_right (test x) (list_any test (xs ++ ys)) (any_left xs ys there)) (or_cases (test x) (list_any test xs) h)

  pub any_right : (xs ys : List A) → list_any test ys ≡ true → list_any test (xs ++ ys) ≡ true
  any_right [] ys h = h
  any_right (x ∷ xs) ys h = or_right (test x) (list_any test (xs ++ ys)) (any_right xs ys h)

  pub any_cases : (xs ys : List A) → list_any test (xs ++ ys) ≡ true → (list_any test xs ≡ true) ⊎ (list_any test ys ≡ true)
  any_cases [] ys h = inr h
  any_cases (x ∷ xs) ys h = ⊎_elim (λ here. inl (or_left (test x) (list_any test xs) here)) (λ there. ⊎_elim (λ left. inl (or_right (test x) (list_any test xs) left)) (λ right. inr right) (any_cases xs ys there)) (or_cases (test x) (list_any test (xs ++ ys)) h)

pub in_one : (p q : Path) → is_in (p ∷ []) q ≡ true → p ≡ q
in_one p q h = ⊎_elim (λ here. same_path p q here) (λ none. false_is_true none) (or_cases (bytes_eq p q) false h)

pub in_here : (p q : Path) (ps : List Path) → p ≡ q → is_in (p ∷ ps) q ≡ true
in_here p q ps e = or_left (bytes_eq p q) (is_in ps q) (is_same_path p q e)

-- what is at an index of a list is in it
pub in_at : (ps : List Path) (k : ℕ) (d : Path) → k < length ps → is_in ps (get_or ps k d) ≡ true
in_at [] k d lt = absurd (omega (arith, lt))
in_at (p ∷ ps) zero d lt = in_here p p ps refl
in_at (p ∷ ps) (suc k) d lt = or_right (bytes_eq p (get_or ps k d)) (is_in ps (get_or ps k d)) (in_at ps k d (omega (arith, lt)))

-- two tests that agree at each path of a list
pub any_same : (P Q : Path → Bool) (ps : List Path) → ((p : Path) → is_in ps p ≡ true → P p ≡ Q p) → list_any P ps ≡ list_any Q ps
any_same P Q [] agree = refl
any_same P Q (p ∷ ps) agree =
    ap (λ b. b || list_any P ps) (agree p (in_here p p ps refl))
    ∙ ap (λ b. Q p || b) (any_same P Q ps (λ q h. agree q (or_right (bytes_eq p q) (is_in ps q) h)))

-- what leads to one of a list leads to the list
pub leads_in : (ls : List Path) (l q : Path) → is_in ls l ≡ true → is_in (fronts l) q ≡ true → leads_to ls q ≡ true
leads_in [] l q within way = false_is_true within
leads_in (p ∷ ls) l q within way =
    ⊎_elim
    (λ here. or_left (is_in (fronts p) q) (leads_to ls q) (subst (λ (x : Path). is_in (fronts x) q ≡ true) (sym (same_path p l here)) way))
    (λ there. or_right (is_in (fronts p) q) (leads_to ls q) (leads_in ls l q there way))
    (or_cases (bytes_eq p l) (is_in ls l) within)

pub leads_one : (l q : Path) → leads_to (l ∷ []) q ≡ true → is_in (fronts l) q ≡ true
leads_one l q h = ⊎_elim (λ here. here) (λ none. false_is_true none) (or_cases (is_in (fronts l) q) false h)

-- where no path of a list has q on its way
pub no_way : (ls : List Path) (q : Path) → ((l : Path) → is_in ls l ≡ true → is_in (fronts l) q ≡ false) → leads_to ls q ≡ false
no_way [] q apart = refl
no_way (l ∷ ls) q apart =
    is_false (leads_to (l ∷ ls) q)
    (λ h. ⊎_elim (λ here. clash here (apart l (in_here l l ls refl))) (λ there. clash there (no_way ls q (λ p within. apart p (or_right (bytes_eq l p) (is_in ls p) within)))) (or_cases (is_in (fronts l) q) (leads_to ls q) h))

-- what is one transaction's is a wider one's
pub ours_wider : (xs ys some all : List Path) (q : Path) (content : Option Content) → (is_in xs q ≡ true → is_in ys q ≡ true) → (leads_to some q ≡ true → leads_to all q ≡ true) → IsOurs xs some q content → IsOurs ys all q content
ours_wider xs ys some all q (Some (File bytes)) at ways h = at h
ours_wider xs ys some all q (Some Folder) at ways h = ways h
ours_wider xs ys some all q None at ways h = h

pub adds_wider : (xs ys some all : List Path) (S T : Tree) → ((q : Path) → is_in xs q ≡ true → is_in ys q ≡ true) → ((q : Path) → leads_to some q ≡ true → leads_to all q ≡ true) → AddsLocks xs some S T → AddsLocks ys all S T
adds_wider xs ys some all S T at ways adds q =
    ⊎_elim (λ same. inl same) (λ new. inr (new.0, ours_wider xs ys some all q (T q) (at q) (ways q) new.1)) (adds q)

-- one after the other
pub adds_then : (xs ys all : List Path) (S T U : Tree) → ((q : Path) → is_in xs q ≡ true → is_in ys q ≡ true) → AddsLocks xs all S T → AddsLocks ys all T U → AddsLocks ys all S U
adds_then xs ys all S T U wider first second q =
    ⊎_elim
    (λ same. ⊎_elim (λ old. inl (same ∙ old)) (λ new. inr (new.0, subst (λ content. IsOurs ys all q content) (sym same) (ours_wider xs ys all all q (T q) (wider q) (λ w. w) new.1))) (first q))
    (λ new. ⊎_elim (λ old. inr (sym old ∙ new.0, new.1)) (λ was. absurd (subst (λ content. IsOurs xs all q content) new.0 was.1)) (first q))
    (second q)

-- where the path is no lock that was taken, a test that gives the same for a folder and for nothing gives the same as before
pub same_view : {X : Type 0} (view : Option Content → X) → view (Some Folder) ≡ view None → (taken all : List Path) (S T : Tree) (q : Path) → AddsLocks taken all S T → is_in taken q ≡ false → view (T q) ≡ view (S q)
same_view {X} view folder taken all S T q adds not_taken = ⊎_elim (λ same. ap view same) (λ new. by_node (T q) new.1 ∙ ap view (sym new.0)) (adds q)
  where
    by_node : (content : Option Content) → IsOurs taken all q content → view content ≡ view None
    by_node (Some (File bytes)) ours = clash ours not_taken
    by_node (Some Folder) ours = folder
    by_node None ours = absurd ours

-- a lock that was not taken, and is on the way to no other, is as it was
pub same_lock : (taken all : List Path) (S T : Tree) (q : Path) → AddsLocks taken all S T → is_in taken q ≡ false → leads_to all q ≡ false → T q ≡ S q
same_lock taken all S T q adds not_taken no_folder = ⊎_elim (λ same. same) (λ new. by_node (T q) new.1) (adds q)
  where
    by_node : (content : Option Content) → IsOurs taken all q content → T q ≡ S q
    by_node (Some (File bytes)) ours = clash ours not_taken
    by_node (Some Folder) ours = clash ours no_folder
    by_node None ours = absurd ours

-- some locks gone again
pub adds_less : (locks all : List Path) (S T U : Tree) → ((q : Path) → is_in locks q ≡ true → S q ≡ None) → AddsLocks locks all S T → RemovesLocks locks T U → AddsLocks locks all S U
adds_less locks all S T U free adds removes q =
    ⊎_elim
    (λ same. ⊎_elim (λ old. inl (same ∙ old)) (λ new. inr (new.0, subst (λ content. IsOurs locks all q content) (sym same) new.1)) (adds q))
    (λ gone. inl (gone.1 ∙ sym (free q gone.0)))
    (removes q)

-- all locks gone again but those that are left
pub adds_left : (locks left all : List Path) (S T U : Tree) → ((q : Path) → is_in locks q ≡ true → S q ≡ None) → AddsLocks locks all S T → RemovesLocks locks T U → ((q : Path) → is_in locks q ≡ true → is_in left q ≡ false → is_file (U q) ≡ false) → AddsLocks left all S U
adds_left locks left all S T U free adds removes gone q =
    ⊎_elim (λ same. inl same) (λ new. by_node new.0 (U q) refl new.1) (adds_less locks all S T U free adds removes q)
  where
    by_node : S q ≡ None → (content : Option Content) → U q ≡ content → IsOurs locks all q content → (U q ≡ S q) ⊎ ((S q ≡ None) × IsOurs left all q (U q))
    by_node none (Some (File bytes)) is ours =
        either_way (is_in left q)
        (λ named. inr (none, subst (λ n. IsOurs left all q n) (sym is) named))
        (λ unnamed. clash (ap is_file is) (gone q ours unnamed))
    by_node none (Some Folder) is ours = inr (none, subst (λ n. IsOurs left all q n) (sym is) ours)
    by_node none None is ours = absurd ours
