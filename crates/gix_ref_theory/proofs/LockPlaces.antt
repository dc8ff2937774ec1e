-- No lock lies below another one: by the shapes of places.
use Rattle.std.proofs.Common.{◌≡◌, ◌≢◌, inl, inr, ℕ, List, [], ◌∷◌, ◌++◌, Some, true, false, codes, refl, sym, ap, ◌∙◌, append_assoc, arith, ◌==◌}
use Rattle.std.proofs.lemmas.Bool.{false≢true, or_right}
use Rattle.std.proofs.lemmas.List.{append_cancel_right}
use Rattle.gix_ref_files.specs.Lock.{lock_of}
use Rattle.gix_ref_target.specs.Layout.{Layout, IsLayout, below, packed_refs}
use Rattle.gix_ref_target.specs.Locations.{Location}
use Rattle.gix_ref_target.proofs.LocationLemmas.{head, has_slash, short, has_spot}
use Rattle.gix_ref_theory.specs.ConcreteStore.{Options, store_of}
use Rattle.gix_ref_theory.specs.LockPlaces.{NoLockIsBelowAnother, NoLockIsBelowThatOfPackedRefs}
use Rattle.gix_ref_theory.proofs.PlaceLaws.{PlaceShape, Plain, Within, Named, IsPlaceShape, IsStart, IsNamespace, IsLaid, IsSpot, Lies, end_of, place_path, place_at, has_place, ends_as, start_below, cancel, cancel_below, cancel_slash, nowhere, laid, known, row_by, spot_is, spot_ends, ends_compare, no_lock_inside}

-- what follows a place that a lock of it is in the way of
abbrev behind : List ℕ → List ℕ
behind rest = codes ".lock" ++ 47 ∷ rest

-- the first byte of a lock in the way is not that of `worktrees`
no_w : (k rest : List ℕ) → IsStart (head k) → head (k ++ behind rest) ≢ 119
no_w [] rest h e = absurd (omega (arith, first e))
  where
    first : head (behind rest) ≡ 119 → ◌≡◌ {A = ℕ} 46 119
    first is = is
no_w (x ∷ k) rest h e = h.2 e

no_w_in : (n k rest : List ℕ) → IsNamespace n → IsStart (head k) → head ((n ++ k) ++ behind rest) ≢ 119
no_w_in n k rest (inl none) h e = no_w k rest h (ap (λ x. head ((x ++ k) ++ behind rest)) (sym none) ∙ e)
no_w_in n k rest (inr some) h e =
    let e' : ◌≡◌ {A = ℕ} 114 119 = ap (λ x. head ((x ++ k) ++ behind rest)) (sym some.1) ∙ e in absurd (omega arith)

-- after the same worktree
in_worktree : (w v x y rest : List ℕ) → has_slash w ≡ false → has_slash v ≡ false → codes "worktrees/" ++ (w ++ 47 ∷ x) ≡ (codes "worktrees/" ++ (v ++ 47 ∷ y)) ++ behind rest → x ≡ y ++ behind rest
in_worktree w v x y rest a b e =
    cancel_slash w v x (y ++ behind rest) a b
    (cancel (codes "worktrees/") (w ++ 47 ∷ x) ((v ++ 47 ∷ y) ++ behind rest) e ∙ append_assoc v (47 ∷ y) (behind rest))

-- where a place lies below a lock, its name has a component that ends with `.lock`
shapes_below : (n : List ℕ) → IsNamespace n → (x y : PlaceShape) → IsPlaceShape x → IsPlaceShape y → (rest : List ℕ) → place_path n x ≡ place_path n y ++ behind rest →
    (front : List ℕ) × (end_of x ≡ front ++ behind rest)
shapes_below n ns (Plain k) (Plain j) hx hy rest e = (j, cancel n k (j ++ behind rest) (e ∙ append_assoc n j (behind rest)))
shapes_below n ns (Plain k) (Within v j) hx hy rest e = absurd ((start_below n k ns hx).2 (ap head e))
shapes_below n ns (Plain k) (Named v j) hx hy rest e =
    absurd (hx.2 (ap head (cancel n k ((codes "worktrees/" ++ (v ++ 47 ∷ j)) ++ behind rest) (e ∙ append_assoc n (codes "worktrees/" ++ (v ++ 47 ∷ j)) (behind rest)))))
shapes_below n ns (Within w k) (Plain j) hx hy rest e = absurd (no_w_in n j rest ns hy (ap head (sym e)))
shapes_below n ns (Within w k) (Within v j) hx hy rest e =
    (j, cancel n k (j ++ behind rest) (in_worktree w v (n ++ k) (n ++ j) rest hx.0 hy.0 e ∙ append_assoc n j (behind rest)))
shapes_below n (inl none) (Within w k) (Named v j) hx hy rest e =
    (j, ap (λ x. x ++ k) (sym none) ∙ in_worktree w v (n ++ k) j rest hx.0 hy.0 (e ∙ ap (λ x. (x ++ (codes "worktrees/" ++ (v ++ 47 ∷ j))) ++ behind rest) none))
shapes_below n (inr some) (Within w k) (Named v j) hx hy rest e =
    let e' : ◌≡◌ {A = ℕ} 119 114 = ap head e ∙ ap (λ x. head ((x ++ (codes "worktrees/" ++ (v ++ 47 ∷ j))) ++ behind rest)) some.1 in absurd (omega arith)
shapes_below n ns (Named w k) (Plain j) hx hy rest e =
    absurd (no_w j rest hy (ap head (sym (cancel n (codes "worktrees/" ++ (w ++ 47 ∷ k)) (j ++ behind rest) (e ∙ append_assoc n j (behind rest))))))
shapes_below n (inl none) (Named w k) (Within v j) hx hy rest e =
    (n ++ j, in_worktree w v k (n ++ j) rest hx.0 hy.0 (ap (λ x. x ++ (codes "worktrees/" ++ (w ++ 47 ∷ k))) (sym none) ∙ e))
shapes_below n (inr some) (Named w k) (Within v j) hx hy rest e =
    let e' : ◌≡◌ {A = ℕ} 114 119 = ap (λ x. head (x ++ (codes "worktrees/" ++ (w ++ 47 ∷ k)))) (sym some.1) ∙ ap head e in absurd (omega arith)
shapes_below n ns (Named w k) (Named v j) hx hy rest e = (
  j,
  in_worktree w v k j rest hx.0 hy.0
      (cancel n (codes "worktrees/" ++ (w ++ 47 ∷ k)) ((codes "worktrees/" ++ (v ++ 47 ∷ j)) ++ behind rest) (e ∙ append_assoc n (codes "worktrees/" ++ (v ++ 47 ∷ j)) (behind rest))),
)

module _ (f : Layout) where
  -- what lies below a lock has the folder of its place
  below_same : (folder a b rest : List ℕ) → below folder a ≡ below folder b ++ behind rest → a ≡ b ++ behind rest
  below_same folder a b rest e = cancel_below folder a (b ++ behind rest) (e ∙ append_assoc folder (47 ∷ b) (behind rest))

  one_folder : (p q a b rest : List ℕ) → Lies f p a → Lies f q b → p ≡ q ++ behind rest → a ≡ b ++ behind rest
  one_folder p q a b rest (inl hp) (inl hq) e = below_same f.common a b rest (sym hp ∙ (e ∙ ap (λ x. x ++ behind rest) hq))
  one_folder p q a b rest (inl hp) (inr hq) e =
      absurd (nowhere f hq.0 (b ++ behind rest) a (sym (append_assoc f.git (47 ∷ b) (behind rest)) ∙ (ap (λ x. x ++ behind rest) (sym hq.1) ∙ (sym e ∙ hp))))
  one_folder p q a b rest (inr hp) (inl hq) e =
      absurd (nowhere f hp.0 a (b ++ behind rest) (sym hp.1 ∙ (e ∙ (ap (λ x. x ++ behind rest) hq ∙ append_assoc f.common (47 ∷ b) (behind rest)))))
  one_folder p q a b rest (inr hp) (inr hq) e = below_same f.git a b rest (sym hp.1 ∙ (e ∙ ap (λ x. x ++ behind rest) hq.1))

  spots_below : IsLaid f → IsNamespace f.namespace → (x y : Location) → IsSpot x → IsSpot y → (rest : List ℕ) → place_at f (Some x) ≡ place_at f (Some y) ++ behind rest →
      (front : List ℕ) × (short x ≡ front ++ behind rest)
  spots_below folders ns x y hx hy rest e =
      let p = has_place f folders x hx in
      let q = has_place f folders y hy in
      let found = shapes_below f.namespace ns p.0 q.0 p.1 q.1 rest (one_folder (place_at f (Some x)) (place_at f (Some y)) (place_path f.namespace p.0) (place_path f.namespace q.0) rest p.2 q.2 e) in
      (found.0, sym (ends_as f folders x hx) ∙ found.1)

-- no place lies below the lock of another
no_place_below : (f : Layout) (o : Options) → IsLayout f → (m n rest : List ℕ) → (store_of f o).is_reference m ≡ true → (store_of f o).is_reference n ≡ true →
    (store_of f o).place m ≢ (store_of f o).place n ++ behind rest
no_place_below f o folders m n rest hm hn e =
    let x = known f o m hm in
    let y = known f o n hn in
    let at = spots_below f (laid f folders) folders.1 x.spotted.0 y.spotted.0 (spot_is f o m x) (spot_is f o n y) rest
    (sym (ap (λ r. r.place) (row_by f o m x)) ∙ (e ∙ ap (λ r. r.place ++ behind rest) (row_by f o n y))) in
    let ends = spot_ends m x.spotted.0 (has_spot m x.spotted.0 x.spotted.1) in
    no_lock_inside m (ends.0 ++ at.0) rest x.valid (ends.1 ∙ (ap (λ k. ends.0 ++ k) at.1 ∙ sym (append_assoc ends.0 at.0 (behind rest))))

slash_inside : (a rest : List ℕ) → has_slash (a ++ 47 ∷ rest) ≡ true
slash_inside [] rest = refl
slash_inside (x ∷ a) rest = or_right (x == 47) (has_slash (a ++ 47 ∷ rest)) (slash_inside a rest)

-- where a place lies below the lock of `packed-refs`, its name has such a component too
shape_below_packed : (n : List ℕ) → IsNamespace n → (x : PlaceShape) → IsPlaceShape x → (rest : List ℕ) → place_path n x ≡ codes "packed-refs" ++ behind rest → (front : List ℕ) × (end_of x ≡ front ++ behind rest)
shape_below_packed n (inl none) (Plain k) hx rest e = (codes "packed-refs", ap (λ x. x ++ k) (sym none) ∙ e)
shape_below_packed n (inr some) (Plain k) hx rest e =
    let e' : ◌≡◌ {A = ℕ} 114 112 = ap (λ x. head (x ++ k)) (sym some.1) ∙ ap head e in absurd (omega arith)
shape_below_packed n ns (Within w k) hx rest e =
    let e' : ◌≡◌ {A = ℕ} 119 112 = ap head e in absurd (omega arith)
shape_below_packed n (inl none) (Named w k) hx rest e =
    let e' : ◌≡◌ {A = ℕ} 119 112 = ap (λ x. head (x ++ (codes "worktrees/" ++ (w ++ 47 ∷ k)))) (sym none) ∙ ap head e in absurd (omega arith)
shape_below_packed n (inr some) (Named w k) hx rest e =
    let e' : ◌≡◌ {A = ℕ} 114 112 = ap (λ x. head (x ++ (codes "worktrees/" ++ (w ++ 47 ∷ k)))) (sym some.1) ∙ ap head e in absurd (omega arith)

in_packed : (f : Layout) (p a rest : List ℕ) → Lies f p a → p ≡ packed_refs f ++ behind rest → a ≡ codes "packed-refs" ++ behind rest
in_packed f p a rest (inl hp) e =
    cancel_below f.common a (codes "packed-refs" ++ behind rest) (sym hp ∙ (e ∙ append_assoc f.common (47 ∷ codes "packed-refs") (behind rest)))
in_packed f p a rest (inr hp) e =
    absurd (nowhere f hp.0 a (codes "packed-refs" ++ behind rest) (sym hp.1 ∙ (e ∙ append_assoc f.common (47 ∷ codes "packed-refs") (behind rest))))

no_place_below_packed : (f : Layout) (o : Options) → IsLayout f → (m rest : List ℕ) → (store_of f o).is_reference m ≡ true → (store_of f o).place m ≢ packed_refs f ++ behind rest
no_place_below_packed f o folders m rest hm e =
    let x = known f o m hm in
    let p = has_place f (laid f folders) x.spotted.0 (spot_is f o m x) in
    let at = shape_below_packed f.namespace folders.1 p.0 p.1 rest (in_packed f (place_at f (Some x.spotted.0)) (place_path f.namespace p.0) rest p.2 (sym (ap (λ r. r.place) (row_by f o m x)) ∙ e)) in
    let ends = spot_ends m x.spotted.0 (has_spot m x.spotted.0 x.spotted.1) in
    no_lock_inside m (ends.0 ++ at.0) rest x.valid
    (ends.1 ∙ (ap (λ k. ends.0 ++ k) (sym (ends_as f (laid f folders) x.spotted.0 (spot_is f o m x)) ∙ at.1) ∙ sym (append_assoc ends.0 at.0 (behind rest))))

-- a path whose lock is below the lock of another is below that lock
below_lock : (place other rest : List ℕ) → lock_of place ≡ lock_of other ++ 47 ∷ rest → (front : List ℕ) × (place ≡ other ++ behind front)
below_lock place other rest e = elim (ends_compare place (codes ".lock") (lock_of other) (47 ∷ rest) e) [
  | inl k ↦ absurd (false≢true (ap has_slash k.1 ∙ slash_inside k.0 rest))
  | inr k ↦
      let ends : rest ≡ k.1 ++ codes ".lock" = last k.0 (k.1 ++ codes ".lock") k.2 in (
        k.1,
        append_cancel_right place (other ++ behind k.1) (codes ".lock")
            (e ∙ (ap (λ r. lock_of other ++ 47 ∷ r) ends ∙ (sym (append_assoc (lock_of other) (47 ∷ k.1) (codes ".lock")) ∙ ap (λ p. p ++ codes ".lock") (append_assoc other (codes ".lock") (47 ∷ k.1))))),
      )
]
  where
    last : (c : ℕ) (z : List ℕ) → 47 ∷ rest ≡ c ∷ z → rest ≡ z
    last c z h = cc

pub no_lock_below : NoLockIsBelowAnother
no_lock_below f o folders m n rest hm hn e =
    let under = below_lock ((store_of f o).place m) ((store_of f o).place n) rest e in no_place_below f o folders m n under.0 hm hn under.1

pub no_lock_below_packed : NoLockIsBelowThatOfPackedRefs
no_lock_below_packed f o folders m rest hm e =
    let under = below_lock ((store_of f o).place m) (packed_refs f) rest e in no_place_below_packed f o folders m under.0 hm under.1
