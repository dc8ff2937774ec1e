-- The lock of `packed-refs` lies below no lock of a reference.
use Rattle.std.proofs.Common.{◌≡◌, ◌≢◌, inl, inr, ℕ, List, [], ◌∷◌, ◌++◌, Some, true, codes, refl, sym, ap, ◌∙◌, append_assoc, ◌==◌}
use Rattle.std.proofs.lemmas.Bool.{false≢true, or_right}
use Rattle.gix_ref_files.specs.Lock.{lock_of}
use Rattle.gix_ref_target.specs.Layout.{Layout, IsLayout, below, packed_refs}
use Rattle.gix_ref_target.proofs.LocationLemmas.{has_slash}
use Rattle.gix_ref_theory.specs.ConcreteStore.{Options, store_of}
use Rattle.gix_ref_theory.proofs.PlaceLaws.{Lies, cancel_below, has_place, known, laid, nowhere, place_at, place_path, row_by, spot_is}

-- what follows a place where its lock is a folder
abbrev after_lock : List ℕ → List ℕ
after_lock rest = codes ".lock" ++ 47 ∷ rest

slash_in : (a rest : List ℕ) → has_slash (a ++ 47 ∷ rest) ≡ true
slash_in [] rest = refl
slash_in (x ∷ a) rest = or_right (x == 47) (has_slash (a ++ 47 ∷ rest)) (slash_in a rest)

-- one component has no slash
one_component : (a rest : List ℕ) → a ++ after_lock rest ≡ codes "packed-refs" ++ codes ".lock" → ⊥
one_component a rest e =
    let whole = sym (append_assoc a (codes ".lock") (47 ∷ rest)) in
    false≢true (sym (ap has_slash e) ∙ (ap has_slash whole ∙ slash_in (a ++ codes ".lock") rest))

not_inside : (f : Layout) (p a rest : List ℕ) → Lies f p a → p ++ after_lock rest ≡ lock_of (packed_refs f) → ⊥
not_inside f p a rest (inl here) e =
    one_component a rest (cancel_below f.common (a ++ after_lock rest) (codes "packed-refs" ++ codes ".lock")
    (sym (append_assoc f.common (47 ∷ a) (after_lock rest)) ∙ (ap (λ x. x ++ after_lock rest) (sym here) ∙ (e ∙ append_assoc f.common (47 ∷ codes "packed-refs") (codes ".lock")))))
not_inside f p a rest (inr there) e =
    nowhere f there.0 (a ++ after_lock rest) (codes "packed-refs" ++ codes ".lock")
    (sym (append_assoc f.git (47 ∷ a) (after_lock rest)) ∙ (ap (λ x. x ++ after_lock rest) (sym there.1) ∙ (e ∙ append_assoc f.common (47 ∷ codes "packed-refs") (codes ".lock"))))

pub no_packed_below : (f : Layout) (o : Options) → IsLayout f → (m rest : List ℕ) → (store_of f o).is_reference m ≡ true → lock_of (packed_refs f) ≢ below (lock_of ((store_of f o).place m)) rest
no_packed_below f o folders m rest hm e =
    let x = known f o m hm in
    let p = has_place f (laid f folders) x.spotted.0 (spot_is f o m x) in
    not_inside f (place_at f (Some x.spotted.0)) (place_path f.namespace p.0) rest p.2
    (ap (λ q. q ++ after_lock rest) (sym (ap (λ r. r.place) (row_by f o m x))) ∙ (sym (append_assoc ((store_of f o).place m) (codes ".lock") (47 ∷ rest)) ∙ sym e))
