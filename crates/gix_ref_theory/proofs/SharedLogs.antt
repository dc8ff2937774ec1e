-- Which names share a log though they have two places.
use Rattle.std.proofs.Common.{◌≡◌, ℕ, List, [], ◌∷◌, ◌++◌, true, false, refl, sym, ap, ◌∙◌, inl, inr, ◌⊎◌, codes, arith}
use Rattle.gix_ref_target.proofs.LocationLemmas.{head, has_slash, HasSpot, has_spot}
use Rattle.gix_ref_theory.proofs.PlaceLaws.{Known, IsSpot, IsNamespace, IsOutside, IsLaid, PlaceShape, Plain, Within, Named, PlainLog, LinkedLog, place_path, log_path, log_of_shape, IsPlaceShape, cancel, cancel_below, cancel_slash, nowhere, inside, start_r, start_private, known, row_by, spot_is, laid, same_front}
use Rattle.gix_ref_target.specs.Layout.{IsLayout, Layout, below}
use Rattle.gix_ref_target.specs.Locations.{Location, row_of}
use Rattle.gix_ref_target.specs.Locations.Location.{ThisWorktree, LinkedWorktree, MainWorktree, Common}
use Rattle.gix_ref_theory.specs.ConcreteStore.{Options, store_of}
use Rattle.gix_ref_theory.specs.Theorems.{SharesLog}

-- a name whose location is private to this worktree is its short name, and one with a linked location is after its worktree's
here_name : (name k : List ℕ) → HasSpot name (ThisWorktree k) → name ≡ k
here_name name k (inl (inl h)) = let e : ThisWorktree name ≡ ThisWorktree k = h.1 in cc
here_name name k (inl (inr (inl h))) = let e : ThisWorktree name ≡ ThisWorktree k = h.2 in cc
here_name name k (inl (inr (inr h))) = let e : Common name ≡ ThisWorktree k = h.2 in cc
here_name name k (inr (inl (s, e, inl h))) = let f : MainWorktree s ≡ ThisWorktree k = h.1 in cc
here_name name k (inr (inl (s, e, inr (inl h)))) = let f : MainWorktree s ≡ ThisWorktree k = h.2 in cc
here_name name k (inr (inl (s, e, inr (inr h)))) = let f : Common s ≡ ThisWorktree k = h.2 in cc
here_name name k (inr (inr (w, s, e, none, inl h))) = let f : LinkedWorktree w s ≡ ThisWorktree k = h.1 in cc
here_name name k (inr (inr (w, s, e, none, inr (inl h)))) = let f : LinkedWorktree w s ≡ ThisWorktree k = h.2 in cc
here_name name k (inr (inr (w, s, e, none, inr (inr h)))) = let f : Common s ≡ ThisWorktree k = h.2 in cc

same_linked : (name w s v k : List ℕ) → name ≡ codes "worktrees/" ++ (w ++ 47 ∷ s) → LinkedWorktree w s ≡ LinkedWorktree v k → name ≡ codes "worktrees/" ++ (v ++ 47 ∷ k)
same_linked name w s v k e h =
    let first : w ≡ v = cc in
    let last : s ≡ k = cc in
    e ∙ (ap (λ z. codes "worktrees/" ++ (z ++ 47 ∷ s)) first ∙ ap (λ z. codes "worktrees/" ++ (v ++ 47 ∷ z)) last)

linked_name : (name v k : List ℕ) → HasSpot name (LinkedWorktree v k) → name ≡ codes "worktrees/" ++ (v ++ 47 ∷ k)
linked_name name v k (inl (inl h)) = let e : ThisWorktree name ≡ LinkedWorktree v k = h.1 in cc
linked_name name v k (inl (inr (inl h))) = let e : ThisWorktree name ≡ LinkedWorktree v k = h.2 in cc
linked_name name v k (inl (inr (inr h))) = let e : Common name ≡ LinkedWorktree v k = h.2 in cc
linked_name name v k (inr (inl (s, e, inl h))) = let f : MainWorktree s ≡ LinkedWorktree v k = h.1 in cc
linked_name name v k (inr (inl (s, e, inr (inl h)))) = let f : MainWorktree s ≡ LinkedWorktree v k = h.2 in cc
linked_name name v k (inr (inl (s, e, inr (inr h)))) = let f : Common s ≡ LinkedWorktree v k = h.2 in cc
linked_name name v k (inr (inr (w, s, e, none, inl h))) = same_linked name w s v k e h.1
linked_name name v k (inr (inr (w, s, e, none, inr (inl h)))) = same_linked name w s v k e h.2
linked_name name v k (inr (inr (w, s, e, none, inr (inr h)))) = let f : Common s ≡ LinkedWorktree v k = h.2 in cc

-- what the shape of its place says of a name
abbrev Tie : Layout → List ℕ → PlaceShape → Type 0
Tie f name (Plain k) = Unit {0}
Tie f name (Within w k) = (name ≡ k) × (f.git ≡ below f.common (codes "worktrees/" ++ w))
Tie f name (Named w k) = name ≡ codes "worktrees/" ++ (w ++ 47 ∷ k)

-- a place and its log lie below one folder
abbrev Lie : Layout → List ℕ → Location → PlaceShape → Type 0
Lie f folder x shape = ((row_of f x).place ≡ below folder (place_path f.namespace shape)) × ((row_of f x).log ≡ below folder (log_path f.namespace (log_of_shape shape)))

record Tied (f : Layout) (name : List ℕ) (x : Location) : Type 0 where
  shape : PlaceShape
  sound : IsPlaceShape shape
  tie : Tie f name shape
  lie : Lie f f.common x shape ⊎ (IsOutside f × Lie f f.git x shape)

tied_here : (f : Layout) → IsLaid f → (name k : List ℕ) → IsSpot (ThisWorktree k) → HasSpot name (ThisWorktree k) → Tied f name (ThisWorktree k)
tied_here f (inl alike) name k h has = record {
  shape = Plain k;
  sound = start_private k h;
  tie = tt;
  lie = inl (ap (λ g. below g (f.namespace ++ k)) alike, ap (λ g. below g (codes "logs/" ++ (f.namespace ++ k))) alike);
}
tied_here f (inr (inl r)) name k h has = record {
  shape = Within r.0 k;
  sound = (r.1, start_private k h);
  tie = (here_name name k has, r.2);
  lie = inl (
    ap (λ g. below g (f.namespace ++ k)) r.2 ∙ inside f.common r.0 (f.namespace ++ k),
    ap (λ g. below g (codes "logs/" ++ (f.namespace ++ k))) r.2 ∙ inside f.common r.0 (codes "logs/" ++ (f.namespace ++ k)),
  );
}
tied_here f (inr (inr r)) name k h has = record { shape = Plain k; sound = start_private k h; tie = tt; lie = inr (r, (refl, refl)) }

tied : (f : Layout) → IsLaid f → (name : List ℕ) (x : Location) → IsSpot x → HasSpot name x → Tied f name x
tied f folders name (Common k) h has = record { shape = Plain k; sound = start_r (head k) h.0; tie = tt; lie = inl (refl, refl) }
tied f folders name (ThisWorktree k) h has = tied_here f folders name k h has
tied f folders name (MainWorktree k) h has = record { shape = Plain k; sound = start_private k h; tie = tt; lie = inl (refl, refl) }
tied f folders name (LinkedWorktree w k) h has = record { shape = Named w k; sound = (h.0, start_private k h.1); tie = linked_name name w k has; lie = inl (refl, refl) }

-- one log below one folder: one place, or the shapes of this worktree and of its name after `worktrees/`
abbrev Meet : List ℕ → PlaceShape → PlaceShape → Type 0
Meet n (Within w k) (Named v j) = (w ≡ v) × (k ≡ j)
Meet n (Plain k) y = ⊥
Meet n (Within w k) (Plain j) = ⊥
Meet n (Within w k) (Within v j) = ⊥
Meet n (Named w k) y = ⊥

linked_logs : (n w v k j : List ℕ) → has_slash w ≡ false → has_slash v ≡ false → log_path n (LinkedLog w k) ≡ log_path n (LinkedLog v j) → (w ≡ v) × (k ≡ j)
linked_logs n w v k j hw hv e =
    let t = cancel (codes "worktrees/") (w ++ 47 ∷ (codes "logs/" ++ (n ++ k))) (v ++ 47 ∷ (codes "logs/" ++ (n ++ j))) e in (
      same_front w v (codes "logs/" ++ (n ++ k)) (codes "logs/" ++ (n ++ j)) hw hv t,
      cancel n k j (cancel (codes "logs/") (n ++ k) (n ++ j) (cancel_slash w v (codes "logs/" ++ (n ++ k)) (codes "logs/" ++ (n ++ j)) hw hv t)),
    )

not_plain : (n k v j : List ℕ) → log_path n (PlainLog k) ≡ log_path n (LinkedLog v j) → ⊥
not_plain n k v j e = let heads : ◌≡◌ {A = ℕ} 108 119 = ap head e in absurd (omega arith)

shapes_of_log : (n : List ℕ) (x y : PlaceShape) → IsPlaceShape x → IsPlaceShape y → log_path n (log_of_shape x) ≡ log_path n (log_of_shape y) →
    (place_path n x ≡ place_path n y) ⊎ (Meet n x y ⊎ Meet n y x)
shapes_of_log n (Plain k) (Plain j) hx hy e = inl (cancel (codes "logs/") (n ++ k) (n ++ j) e)
shapes_of_log n (Plain k) (Within v j) hx hy e = absurd (not_plain n k v j e)
shapes_of_log n (Plain k) (Named v j) hx hy e = absurd (not_plain n k v j e)
shapes_of_log n (Within w k) (Plain j) hx hy e = absurd (not_plain n j w k (sym e))
shapes_of_log n (Named w k) (Plain j) hx hy e = absurd (not_plain n j w k (sym e))
shapes_of_log n (Within w k) (Within v j) hx hy e =
    let q = linked_logs n w v k j hx.0 hy.0 e in
    inl (ap (λ z. place_path n (Within z k)) q.0 ∙ ap (λ z. place_path n (Within v z)) q.1)
shapes_of_log n (Named w k) (Named v j) hx hy e =
    let q = linked_logs n w v k j hx.0 hy.0 e in
    inl (ap (λ z. place_path n (Named z k)) q.0 ∙ ap (λ z. place_path n (Named v z)) q.1)
shapes_of_log n (Within w k) (Named v j) hx hy e = inr (inl (linked_logs n w v k j hx.0 hy.0 e))
shapes_of_log n (Named w k) (Within v j) hx hy e = inr (inr (linked_logs n v w j k hy.0 hx.0 (sym e)))

-- without a namespace these shapes are one place
bare_place : (n w v k j : List ℕ) → n ≡ [] → w ≡ v → k ≡ j → place_path n (Within w k) ≡ place_path n (Named v j)
bare_place n w v k j none first last =
    ap (λ z. place_path z (Within w k)) none
    ∙ (ap (λ z. codes "worktrees/" ++ (z ++ 47 ∷ k)) first ∙ (ap (λ z. codes "worktrees/" ++ (v ++ 47 ∷ z)) last ∙ sym (ap (λ z. place_path z (Named v j)) none)))

meets : (f : Layout) → IsNamespace f.namespace → (m n : List ℕ) (x y : PlaceShape) → Tie f m x → Tie f n y → Meet f.namespace x y →
    (place_path f.namespace x ≡ place_path f.namespace y) ⊎ SharesLog f m n
meets f (inl none) m n (Within w k) (Named v j) tx ty q = inl (bare_place f.namespace w v k j none q.0 q.1)
meets f (inr some) m n (Within w k) (Named v j) tx ty q = inr (record {
  worktree = w;
  git_is = tx.1;
  long_is = ty ∙ (ap (λ z. codes "worktrees/" ++ (z ++ 47 ∷ j)) (sym q.0) ∙ ap (λ z. codes "worktrees/" ++ (w ++ 47 ∷ z)) (sym (tx.0 ∙ q.1)));
  in_namespace = λ e. never (sym some.1 ∙ e);
})
  where
    never : codes "refs/namespaces/" ++ some.0 ≡ [] → ⊥
    never h = cc
meets f ns m n (Plain k) y tx ty q = absurd q
meets f ns m n (Within w k) (Plain j) tx ty q = absurd q
meets f ns m n (Within w k) (Within v j) tx ty q = absurd q
meets f ns m n (Named w k) y tx ty q = absurd q

-- references of one log have one place, or they are such a pair
pub shared_logs : (f : Layout) (o : Options) → IsLayout f → (m n : List ℕ) → (store_of f o).is_reference m ≡ true → (store_of f o).is_reference n ≡ true →
    (store_of f o).log m ≡ (store_of f o).log n → ((store_of f o).place m ≡ (store_of f o).place n) ⊎ (SharesLog f m n ⊎ SharesLog f n m)
shared_logs f o folders m n hm hn e = by tm.lie tn.lie
  where
    km : Known f o m
    km = known f o m hm

    kn : Known f o n
    kn = known f o n hn

    tm : Tied f m km.spotted.0
    tm = tied f (laid f folders) m km.spotted.0 (spot_is f o m km) (has_spot m km.spotted.0 km.spotted.1)

    tn : Tied f n kn.spotted.0
    tn = tied f (laid f folders) n kn.spotted.0 (spot_is f o n kn) (has_spot n kn.spotted.0 kn.spotted.1)

    logs : (row_of f km.spotted.0).log ≡ (row_of f kn.spotted.0).log
    logs = sym (ap (λ r. r.log) (row_by f o m km)) ∙ (e ∙ ap (λ r. r.log) (row_by f o n kn))

    below_one : (folder : List ℕ) → Lie f folder km.spotted.0 tm.shape → Lie f folder kn.spotted.0 tn.shape →
        ((store_of f o).place m ≡ (store_of f o).place n) ⊎ (SharesLog f m n ⊎ SharesLog f n m)
    below_one folder p q =
        let places : place_path f.namespace tm.shape ≡ place_path f.namespace tn.shape → (store_of f o).place m ≡ (store_of f o).place n =
        λ h. ap (λ r. r.place) (row_by f o m km) ∙ (p.0 ∙ (ap (below folder) h ∙ (sym q.0 ∙ sym (ap (λ r. r.place) (row_by f o n kn))))) in
        elim (shapes_of_log f.namespace tm.shape tn.shape tm.sound tn.sound (cancel_below folder (log_path f.namespace (log_of_shape tm.shape)) (log_path f.namespace (log_of_shape tn.shape)) (sym p.1 ∙ (logs ∙ q.1)))) [
          | inl h ↦ inl (places h)
          | inr r ↦ elim r [
            | inl h ↦ elim (meets f folders.1 m n tm.shape tn.shape tm.tie tn.tie h) [ inl s ↦ inl (places s) | inr s ↦ inr (inl s) ]
            | inr h ↦ elim (meets f folders.1 n m tn.shape tm.shape tn.tie tm.tie h) [ inl s ↦ inl (places (sym s)) | inr s ↦ inr (inr s) ]
          ]
        ]

    by : Lie f f.common km.spotted.0 tm.shape ⊎ (IsOutside f × Lie f f.git km.spotted.0 tm.shape) → Lie f f.common kn.spotted.0 tn.shape ⊎ (IsOutside f × Lie f f.git kn.spotted.0 tn.shape) →
        ((store_of f o).place m ≡ (store_of f o).place n) ⊎ (SharesLog f m n ⊎ SharesLog f n m)
    by (inl p) (inl q) = below_one f.common p q
    by (inr p) (inr q) = below_one f.git p.1 q.1
    by (inl p) (inr q) =
        absurd (nowhere f q.0 (log_path f.namespace (log_of_shape tn.shape)) (log_path f.namespace (log_of_shape tm.shape)) (sym q.1.1 ∙ (sym logs ∙ p.1)))
    by (inr p) (inl q) =
        absurd (nowhere f p.0 (log_path f.namespace (log_of_shape tm.shape)) (log_path f.namespace (log_of_shape tn.shape)) (sym p.1.1 ∙ (logs ∙ q.1)))
