-- Two namespaces in the same folders have no place and no key in common.
use Rattle.std.proofs.Common.{◌≡◌, ◌≢◌, ◌⊎◌, inl, inr, ℕ, true, false, List, [], ◌∷◌, ◌++◌, refl, sym, ◌∙◌, ap, subst, Some, codes, arith}
use Rattle.std.specs.Prelude.{unwrap_or}
use Rattle.gix_ref_hash.specs.Bytes.{BeginsWith}
use Rattle.gix_ref_target.specs.Layout.{IsLayout, Layout, below, packed_refs}
use Rattle.gix_ref_target.specs.Locations.{location}
use Rattle.gix_ref_target.specs.Locations.Location.{Common}
use Rattle.gix_ref_target.proofs.LocationLemmas.{has_slash, head, no_slash_test}
use Rattle.gix_ref_theory.specs.ConcreteStore.{Options, store_of}
use Rattle.gix_ref_theory.proofs.PlaceLaws.{IsLaid, cancel, cancel_below, cancel_slash, inside, laid, laws_hold, nowhere}
use Rattle.gix_ref_theory.proofs.Roots.{in_namespace}
use Rattle.gix_ref_read_back.specs.Outside.{IsFolderOf, IsKeyInside, IsLock, IsLogInside, IsOutside, IsPlaceInside, OtherNamespacesStay, with_namespace}
use Rattle.gix_ref_read_back.proofs.OutsideLemmas.{keys_inside, readings_stay}

-- of two fronts of one text one begins with the other
fronts_meet : (a b x y : List ℕ) → a ++ x ≡ b ++ y → BeginsWith a b ⊎ BeginsWith b a
fronts_meet [] b x y h = inr (b, refl)
fronts_meet (c ∷ a) [] x y h = inl (c ∷ a, refl)
fronts_meet (c ∷ a) (d ∷ b) x y h =
    let same : c ≡ d = cc in
    let rest : a ++ x ≡ b ++ y = cc in
    elim (fronts_meet a b x y rest) [
      | inl r ↦ inl (r.0, ap (λ z. z ∷ a) same ∙ ap (λ z. d ∷ z) r.1)
      | inr r ↦ inr (r.0, ap (λ z. z ∷ b) (sym same) ∙ ap (λ z. c ∷ z) r.1)
    ]

-- a namespace that is there begins as a name below `refs/`
starts_as_ref : (n x : List ℕ) → (n ≡ []) ⊎ BeginsWith n (codes "refs/namespaces/") → n ≢ [] → head (n ++ x) ≡ 114
starts_as_ref n x (inl none) some = absurd (some none)
starts_as_ref n x (inr begins) some = ap (λ z. head (z ++ x)) begins.1

module _ (f : Layout) (is_laid : IsLaid f) where
  -- one path below both folders goes on alike, unless it leads to linked worktrees
  one_rest : (x y : List ℕ) → head y ≢ 119 → below f.git x ≡ below f.common y → x ≡ y
  one_rest x y apart e = by is_laid
    where
      by : IsLaid f → x ≡ y
      by (inl same) = cancel_below f.common x y (sym (ap (λ d. below d x) same) ∙ e)
      by (inr (inl w)) =
          absurd (apart (sym (ap head (cancel_below f.common (codes "worktrees/" ++ (w.0 ++ 47 ∷ x)) y (sym (ap (λ d. below d x) w.2 ∙ inside f.common w.0 x) ∙ e)))))
      by (inr (inr out)) = absurd (nowhere f out x y e)

  rest_in : (p d x y : List ℕ) → IsFolderOf f d → IsFolderOf f p → head x ≢ 119 → head y ≢ 119 → below p x ≡ below d y → x ≡ y
  rest_in p d x y (inl hd) (inl hp) hx hy e = cancel_below f.common x y (sym (ap (λ z. below z x) hp) ∙ (e ∙ ap (λ z. below z y) hd))
  rest_in p d x y (inr hd) (inr hp) hx hy e = cancel_below f.git x y (sym (ap (λ z. below z x) hp) ∙ (e ∙ ap (λ z. below z y) hd))
  rest_in p d x y (inl hd) (inr hp) hx hy e = one_rest x y hy (sym (ap (λ z. below z x) hp) ∙ (e ∙ ap (λ z. below z y) hd))
  rest_in p d x y (inr hd) (inl hp) hx hy e = sym (one_rest y x hx (sym (ap (λ z. below z y) hd) ∙ (sym e ∙ ap (λ z. below z x) hp)))

  -- nor is it a log of a linked worktree
  no_linked : (p x w y : List ℕ) → IsFolderOf f p → head x ≡ 114 → has_slash w ≡ false → below p x ≢ below f.common (codes "worktrees/" ++ (w ++ 47 ∷ (codes "logs/" ++ y)))
  no_linked p x w y where_is hx none e = by where_is is_laid
    where
      in_common : below f.common x ≡ below f.common (codes "worktrees/" ++ (w ++ 47 ∷ (codes "logs/" ++ y))) → ⊥
      in_common same = let heads : head x ≡ 119 = ap head (cancel_below f.common x (codes "worktrees/" ++ (w ++ 47 ∷ (codes "logs/" ++ y))) same) in absurd (omega arith)

      by : IsFolderOf f p → IsLaid f → ⊥
      by (inl hp) l = in_common (sym (ap (λ z. below z x) hp) ∙ e)
      by (inr hp) (inl same) = in_common (sym (ap (λ z. below z x) (hp ∙ same)) ∙ e)
      by (inr hp) (inr (inl v)) =
          let cut = cancel (codes "worktrees/") (v.0 ++ 47 ∷ x) (w ++ 47 ∷ (codes "logs/" ++ y))
          (cancel_below f.common (codes "worktrees/" ++ (v.0 ++ 47 ∷ x)) (codes "worktrees/" ++ (w ++ 47 ∷ (codes "logs/" ++ y))) (sym (ap (λ z. below z x) (hp ∙ v.2) ∙ inside f.common v.0 x) ∙ e)) in
          let heads : head x ≡ 108 = ap head (cancel_slash v.0 w x (codes "logs/" ++ y) v.1 none cut) in absurd (omega arith)
      by (inr hp) (inr (inr out)) = nowhere f out x (codes "worktrees/" ++ (w ++ 47 ∷ (codes "logs/" ++ y))) (sym (ap (λ z. below z x) hp) ∙ e)

module _ (f : Layout) (other : List ℕ) (o : Options) (is_layout : IsLayout f) (is_other : IsLayout (with_namespace f other)) (no_front : BeginsWith other f.namespace → ⊥) (no_behind : BeginsWith f.namespace other → ⊥) where
  abbrev g : Layout
  g = with_namespace f other

  own_starts : (x : List ℕ) → head (f.namespace ++ x) ≡ 114
  own_starts x = starts_as_ref f.namespace x is_layout.1 (λ none. no_front (other, ap (λ z. z ++ other) (sym none)))

  other_starts : (x : List ℕ) → head (other ++ x) ≡ 114
  other_starts x = starts_as_ref other x is_other.1 (λ none. no_behind (f.namespace, ap (λ z. z ++ f.namespace) (sym none)))

  no_meeting : (x y : List ℕ) → other ++ x ≢ f.namespace ++ y
  no_meeting x y e = elim (fronts_meet other f.namespace x y e) [ inl h ↦ no_front h | inr h ↦ no_behind h ]

  as_ref : (n : ℕ) → n ≡ 114 → n ≢ 119
  as_ref n e h = absurd (omega arith)

  module _ (folder x : List ℕ) (where_is : IsFolderOf f folder) where
    no_place : IsPlaceInside f (below folder (other ++ x)) → ⊥
    no_place (d, y, is_folder, e) =
        no_meeting x y (rest_in f (laid f is_layout) folder d (other ++ x) (f.namespace ++ y) is_folder where_is (as_ref (head (other ++ x)) (other_starts x)) (as_ref (head (f.namespace ++ y)) (own_starts y)) e)

    no_log : IsLogInside f (below folder (other ++ x)) → ⊥
    no_log (inl (d, y, is_folder, e)) =
        let same = rest_in f (laid f is_layout) folder d (other ++ x) (codes "logs/" ++ (f.namespace ++ y)) is_folder where_is (as_ref (head (other ++ x)) (other_starts x)) (λ (h : ◌≡◌ {A = ℕ} 108 119). absurd (omega arith)) e in
        let heads : ◌≡◌ {A = ℕ} 114 108 = sym (other_starts x) ∙ ap head same in absurd (omega arith)
    no_log (inr (w, y, none, e)) = no_linked f (laid f is_layout) folder (other ++ x) w (f.namespace ++ y) where_is (other_starts x) (no_slash_test w none) e

    not_packed : packed_refs f ≢ below folder (other ++ x)
    not_packed e =
        let same = rest_in f (laid f is_layout) folder f.common (other ++ x) (codes "packed-refs") (inl refl) where_is (as_ref (head (other ++ x)) (other_starts x)) (λ (h : ◌≡◌ {A = ℕ} 112 119). absurd (omega arith)) (sym e) in
        let heads : ◌≡◌ {A = ℕ} 114 112 = sym (other_starts x) ∙ ap head same in absurd (omega arith)

  place_outside : (name : List ℕ) → (store_of g o).is_reference name ≡ true → IsOutside f IsLock ((store_of g o).place name)
  place_outside name is =
      let at = in_namespace g (unwrap_or (location name) (Common name)) in record {
        no_place = λ h. no_place at.0 at.1 at.2 (subst (IsPlaceInside f) at.3 h);
        no_log = λ h. no_log at.0 at.1 at.2 (subst (IsLogInside f) at.3 h);
        not_packed = λ e. not_packed at.0 at.1 at.2 (e ∙ at.3);
        not_excepted = λ lock. (laws_hold g o is_other).place_is_no_lock name lock.0 is lock.1;
      }

  key_outside : (name key : List ℕ) → (store_of g o).key name ≡ Some key → IsKeyInside f key → ⊥
  key_outside name key has own = let theirs = keys_inside g o name key has in no_meeting theirs.0 own.0 (sym theirs.1 ∙ own.1)

pub others_stay : OtherNamespacesStay
others_stay f other o before T is_layout is_other no_front no_behind outside name is =
    readings_stay f (with_namespace f other) o before T refl outside name
    (place_outside f other o is_layout is_other no_front no_behind name is) (key_outside f other o is_layout is_other no_front no_behind name)
