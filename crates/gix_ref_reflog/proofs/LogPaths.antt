-- Sets of paths.
use Rattle.std.proofs.Common.{◌≡◌, ℕ, List, [], ◌∷◌, ◌++◌, map, Bool, true, false, not, refl, sym, subst, ◌∙◌, ap}
use Rattle.std.specs.Prelude.{◌||◌, bytes_eq, Vec}
use Rattle.std.specs.List.{list_any}
use Rattle.std.proofs.lemmas.List.Folds.{list_any-append}
use Rattle.std.specs.Prelude.{MatchBool}
use Rattle.std.specs.List.Sorted.{IsPermutation}
use Rattle.std.proofs.lemmas.List.Sorted.{list_any-IsPermutation}
use Rattle.std.specs.declared.alloc.Global.{Global}
use Rattle.std.proofs.lemmas.Slice.Eq.{bytes_eq-Decides}
use Rattle.gix_ref_files.specs.Tree.{Path}
use Rattle.gix_ref_transaction.specs.OwnLocks.{is_in}

-- tests that decide the same
same_test : (a b : Bool) → (a ≡ true → b ≡ true) → (b ≡ true → a ≡ true) → a ≡ b
same_test true true there back = refl
same_test true false there back = sym (there refl)
same_test false true there back = back refl
same_test false false there back = refl

pub bytes_eq_swaps : (p q : Path) → bytes_eq p q ≡ bytes_eq q p
bytes_eq_swaps p q = same_test (bytes_eq p q) (bytes_eq q p)
    (λ is. (bytes_eq-Decides q p).1 (sym ((bytes_eq-Decides p q).0 is)))
    (λ is. (bytes_eq-Decides p q).1 (sym ((bytes_eq-Decides q p).0 is)))

-- whether a path is a key of a set
pub key_found : (q : Path) (ks : List (Vec ℕ Global)) → list_any (λ (k : Vec ℕ Global). bytes_eq q k.items) ks ≡ is_in (map (λ (k : Vec ℕ Global). k.items) ks) q
key_found q [] = refl
key_found q (k ∷ ks) =
    ap (λ (b : Bool). b || list_any (λ (k : Vec ℕ Global). bytes_eq q k.items) ks) (bytes_eq_swaps q k.items)
    ∙ ap (λ (b : Bool). bytes_eq k.items q || b) (key_found q ks)

-- And after one is put there: its keys are exchanged, with one more where it was none of them.
pub key_added : (q : Path) (k : Vec ℕ Global) (ks now : List (Vec ℕ Global)) (added : Bool) → added ≡ not (list_any (λ (x : Vec ℕ Global). bytes_eq k.items x.items) ks) →
    MatchBool added (IsPermutation (k ∷ ks) now) (now ≡ ks) → is_in (map (λ (x : Vec ℕ Global). x.items) now) q ≡ (bytes_eq k.items q || is_in (map (λ (x : Vec ℕ Global). x.items) ks) q)
key_added q k ks now true is moved =
    sym (key_found q now)
    ∙ (sym (list_any-IsPermutation (λ (x : Vec ℕ Global). bytes_eq q x.items) (k ∷ ks) now moved) ∙ key_found q (k ∷ ks))
key_added q k ks now false is same =
    ap (λ (l : List (Vec ℕ Global)). is_in (map (λ (x : Vec ℕ Global). x.items) l) q) same ∙ held (bytes_eq k.items q) refl
  where
    there : is_in (map (λ (x : Vec ℕ Global). x.items) ks) k.items ≡ true
    there = sym (key_found k.items ks) ∙ only (list_any (λ (x : Vec ℕ Global). bytes_eq k.items x.items) ks) is
      where
        only : (b : Bool) → false ≡ not b → b ≡ true
        only true e = refl
        only false e = cc

    held : (b : Bool) → bytes_eq k.items q ≡ b → is_in (map (λ (x : Vec ℕ Global). x.items) ks) q ≡ (b || is_in (map (λ (x : Vec ℕ Global). x.items) ks) q)
    held true e = subst (λ (p : Path). is_in (map (λ (x : Vec ℕ Global). x.items) ks) p ≡ true) ((bytes_eq-Decides k.items q).0 e) there
    held false e = refl

-- a path is the last or one of the earlier ones
pub among_both : (q : Path) (l ks : List Path) (now before : Bool) → now ≡ is_in l q → before ≡ is_in ks q → (now || before) ≡ is_in (l ++ ks) q
among_both q l ks now before first rest =
    ap (λ (b : Bool). b || before) first ∙ (ap (λ (b : Bool). is_in l q || b) rest ∙ sym (list_any-append (λ (p : Path). bytes_eq p q) l ks))
