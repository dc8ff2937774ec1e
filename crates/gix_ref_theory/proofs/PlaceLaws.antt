-- The places of the table keep the laws: by the shapes of paths below a folder.
use Rattle.std.proofs.Common.{◌≡◌, ◌≢◌, ℕ, ◌≤◌, ◌<◌, List, [], ◌∷◌, ◌++◌, Option, Some, None, true, false, ◌||◌, ◌&&◌, refl, sym, ap, ◌∙◌, subst, inl, inr, ◌⊎◌, is_some, nat_eq, nat_le, codes, append_assoc, arith, ◌==◌}
use Rattle.std.specs.List.{list_all, ends_with}
use Rattle.std.specs.Option.{unwrap_or, is_none}
use Rattle.std.proofs.lemmas.Bool.{false≢true, true≢false, cases_Bool, and_parts, or_cases, or_parts, eqb-true, eq-eqb, leb-true}
use Rattle.std.proofs.lemmas.Bool.Decides.{Decides-eqb}
use Rattle.std.proofs.lemmas.List.{append-nil}
use Rattle.std.proofs.lemmas.Slice.Eq.{ends_is}
use Rattle.gix_ref_hash.specs.Bytes.{BeginsWith, NoByte, is_empty}
use Rattle.gix_ref_name.specs.NameGrammar.{is_pseudo_byte, is_locked, partial_error, IsPartialName}
use Rattle.gix_ref_hash.proofs.ByteLemmas.{apart}
use Rattle.gix_ref_name.proofs.PartialNames.{IsPath, IsComponent, rules_of, first_component, last_component}
use Rattle.gix_ref_theory.proofs.Writes.{same}
use Rattle.gix_ref_target.proofs.LocationLemmas.{head, has_slash, EndsIn, ends_after, short, no_slash_test, test_no_slash, IsBy, HasSpot, has_spot}
use Rattle.gix_ref_target.specs.Layout.{IsLayout, Layout, LiesIn, below, is_private_ref, packed_refs}
use Rattle.gix_ref_theory.specs.Readings.{HasLaws}
use Rattle.gix_ref_target.specs.Locations.{Location, is_safe, paths_at, row_of, location}
use Rattle.gix_ref_target.specs.Locations.Location.{ThisWorktree, LinkedWorktree, MainWorktree, Common}
use Rattle.gix_ref_theory.specs.ConcreteStore.{Options, store_of}
use Rattle.gix_ref_files.specs.Lock.{lock_of}

-- the first byte of a pseudo name
abbrev pub IsPseudoHead : ℕ → Type 0
IsPseudoHead x = ((65 ≤ x) × (x ≤ 90)) ⊎ (x ≡ 95)

abbrev pub IsPrivateName : List ℕ → Type 0
IsPrivateName name = ((head name ≡ 114) × (is_private_ref name ≡ true)) ⊎ IsPseudoHead (head name)

abbrev pub IsSpot : Location → Type 0
IsSpot (Common name) = (head name ≡ 114) × (is_private_ref name ≡ false)
IsSpot (ThisWorktree name) = IsPrivateName name
IsSpot (MainWorktree name) = IsPrivateName name
IsSpot (LinkedWorktree w name) = (has_slash w ≡ false) × IsPrivateName name

pseudo_head : (name : List ℕ) → is_empty name ≡ false → list_all is_pseudo_byte name ≡ true → IsPseudoHead (head name)
pseudo_head [] some h = absurd (true≢false some)
pseudo_head (x ∷ name) some h = elim (or_cases (nat_le 65 x && nat_le x 90) (x == 95) (and_parts (is_pseudo_byte x) (list_all is_pseudo_byte name) h).0) [
  | inl r ↦ let q = and_parts (nat_le 65 x) (nat_le x 90) r in inl (leb-true 65 x q.0, leb-true x 90 q.1)
  | inr r ↦ inr (eqb-true x 95 r)
]

-- A valid name ends neither with a slash nor with `.lock`.

no_slash_end : (name front : List ℕ) → IsPartialName name → name ≢ front ++ codes "/"
no_slash_end name front valid e =
    false≢true (sym (rules_of name valid).0.end ∙ (ends_is Decides-eqb name (codes "/") (ends_with nat_eq name (codes "/")) refl).1 front e)

lock_end : (c : List ℕ) → is_locked (c ++ codes ".lock") ≡ true
lock_end c = (ends_is Decides-eqb (c ++ codes ".lock") (codes ".lock") (is_locked (c ++ codes ".lock")) refl).1 c refl

-- what ends with `.lock` and comes before such a rest of a path is no component
no_lock_before : (rest : List ℕ) → ((c : List ℕ) → NoByte 47 c → IsPath (c ++ rest) → IsComponent c) → (name front : List ℕ) → IsPath name → name ≢ front ++ (codes ".lock" ++ rest)
no_lock_before rest whole name front path e = go [] front (λ k (lt : k < 0). absurd (omega arith)) (subst IsPath e path)
  where
    slashless : (c : List ℕ) (x : ℕ) → has_slash c ≡ false → (x == 47) ≡ false → has_slash (c ++ x ∷ []) ≡ false
    slashless [] x h k = ap (λ b. b || false) k
    slashless (y ∷ c) x h k = let parts = or_parts (y == 47) (has_slash c) h in ap (λ b. b || has_slash (c ++ x ∷ [])) parts.0 ∙ slashless c x parts.1 k

    locked : (c : List ℕ) → has_slash c ≡ false → has_slash (c ++ codes ".lock") ≡ false
    locked [] h = refl
    locked (y ∷ c) h = let parts = or_parts (y == 47) (has_slash c) h in ap (λ b. b || has_slash (c ++ codes ".lock")) parts.0 ∙ locked c parts.1

    go : (c z : List ℕ) → NoByte 47 c → IsPath (c ++ (z ++ (codes ".lock" ++ rest))) → ⊥
    go c [] none path =
        let last = whole (c ++ codes ".lock") (test_no_slash (c ++ codes ".lock") (locked c (no_slash_test c none))) (subst IsPath (sym (append_assoc c (codes ".lock") rest)) path) in
        false≢true (sym last.locked ∙ lock_end c)
    go c (x ∷ z) none path = elim (cases_Bool (x == 47)) [
      | inl slash ↦
          let cut : IsPath (c ++ 47 ∷ (z ++ (codes ".lock" ++ rest))) = subst (λ y. IsPath (c ++ y ∷ (z ++ (codes ".lock" ++ rest)))) (eqb-true x 47 slash) path in
          go [] z (λ k (lt : k < 0). absurd (omega arith)) (first_component c (z ++ (codes ".lock" ++ rest)) none cut).1
      | inr other ↦
          go (c ++ x ∷ []) z (test_no_slash (c ++ x ∷ []) (slashless c x (no_slash_test c none) other))
          (subst IsPath (sym (append_assoc c (x ∷ []) (z ++ (codes ".lock" ++ rest)))) path)
    ]

pub no_lock_end : (name front : List ℕ) → IsPartialName name → name ≢ front ++ codes ".lock"
no_lock_end name front valid =
    no_lock_before [] (λ c none path. last_component c none (subst IsPath (append-nil c) path)) name front (rules_of name valid).0

-- nor does a component in front of a slash
pub no_lock_inside : (name front rest : List ℕ) → IsPartialName name → name ≢ front ++ (codes ".lock" ++ 47 ∷ rest)
no_lock_inside name front rest valid =
    no_lock_before (47 ∷ rest) (λ c none path. (first_component c rest none path).0) name front (rules_of name valid).0

-- each location that a valid name has is sound

some_short : (name front s : List ℕ) → IsPartialName name → name ≡ front ++ (47 ∷ s) → is_empty s ≡ false
some_short name front [] valid e = absurd (no_slash_end name front valid e)
some_short name front (x ∷ s) valid e = refl

private_spot : (private : List ℕ → Location) → ((k : List ℕ) → IsPrivateName k → IsSpot (private k)) → (s : List ℕ) (x : Location) → is_empty s ≡ false → IsBy private s x → IsSpot x
private_spot private sound s x some (inl h) = subst IsSpot h.1 (sound s (inr (pseudo_head s some h.0)))
private_spot private sound s x some (inr (inl h)) = subst IsSpot h.2 (sound s (inl (ap head h.0.1, h.1)))
private_spot private sound s x some (inr (inr h)) = subst IsSpot h.2 (ap head h.0.1, h.1)

pub sound : (name : List ℕ) (x : Location) → IsPartialName name → HasSpot name x → IsSpot x
sound name x valid (inl h) = private_spot ThisWorktree (λ k q. q) name x (rules_of name valid).0.some h
sound name x valid (inr (inl (s, e, h))) = private_spot MainWorktree (λ k q. q) s x (some_short name (codes "main-worktree") s valid e) h
sound name x valid (inr (inr (w, s, e, none, h))) =
    private_spot (LinkedWorktree w) (λ k q. (none, q)) s x (some_short name (codes "worktrees/" ++ w) s valid (e ∙ sym (append_assoc (codes "worktrees/") w (47 ∷ s)))) h

-- and ends the name

by_ends : (private : List ℕ → Location) → ((k : List ℕ) → short (private k) ≡ k) → (s : List ℕ) (x : Location) → IsBy private s x → short x ≡ s
by_ends private is s x (inl h) = ap short (sym h.1) ∙ is s
by_ends private is s x (inr (inl h)) = ap short (sym h.2) ∙ is s
by_ends private is s x (inr (inr h)) = ap short (sym h.2)

pub spot_ends : (name : List ℕ) (x : Location) → HasSpot name x → EndsIn (short x) name
spot_ends name x (inl h) = ([], sym (by_ends ThisWorktree (λ k. refl) name x h))
spot_ends name x (inr (inl (s, e, h))) = (codes "main-worktree/", e ∙ ap (λ z. codes "main-worktree/" ++ z) (sym (by_ends MainWorktree (λ k. refl) s x h)))
spot_ends name x (inr (inr (w, s, e, none, h))) =
    subst (λ z. EndsIn z name) (sym (by_ends (LinkedWorktree w) (λ k. refl) s x h))
    (subst (EndsIn s) (sym e) (ends_after s (w ++ 47 ∷ s) (codes "worktrees/") (ends_after s (47 ∷ s) w (47 ∷ [], refl))))

abbrev pub IsNamespace : List ℕ → Type 0
IsNamespace n = (n ≡ []) ⊎ BeginsWith n (codes "refs/namespaces/")

-- neither folder is the other, or lies in it
abbrev pub IsOutside : Layout → Type 0
IsOutside f = (f.git ≢ f.common) × (LiesIn f.git f.common → ⊥) × (LiesIn f.common f.git → ⊥)

-- how the folders lie, in the words of the lemmas
abbrev pub IsLaid : Layout → Type 0
IsLaid f = (f.git ≡ f.common) ⊎ (((w : List ℕ) × (has_slash w ≡ false) × (f.git ≡ below f.common (codes "worktrees/" ++ w))) ⊎ IsOutside f)

abbrev pub place_at : Layout → Option Location → List ℕ
place_at f o = (row_of f (unwrap_or o (Common []))).place

abbrev pub log_at : Layout → Option Location → List ℕ
log_at f o = (row_of f (unwrap_or o (Common []))).log

abbrev pub key_at : Layout → Option Location → Option (List ℕ)
key_at f o = (row_of f (unwrap_or o (Common []))).key

-- Paths below a folder.

pub cancel : (a x y : List ℕ) → a ++ x ≡ a ++ y → x ≡ y
cancel [] x y h = h
cancel (c ∷ a) x y h = let t : a ++ x ≡ a ++ y = cc in cancel a x y t

pub tail_is : (c : ℕ) (x y : List ℕ) → c ∷ x ≡ c ∷ y → x ≡ y
tail_is c x y h = cc

pub cancel_below : (folder x y : List ℕ) → below folder x ≡ below folder y → x ≡ y
cancel_below folder x y h = tail_is 47 x y (cancel folder (47 ∷ x) (47 ∷ y) h)

pub cancel_slash : (w v x y : List ℕ) → has_slash w ≡ false → has_slash v ≡ false → w ++ 47 ∷ x ≡ v ++ 47 ∷ y → x ≡ y
cancel_slash [] [] x y a b h = tail_is 47 x y h
cancel_slash [] (c ∷ v) x y a b h =
    let e : c ≡ 47 = cc in absurd (false≢true (sym (or_parts (c == 47) (has_slash v) b).0 ∙ eq-eqb c 47 e))
cancel_slash (c ∷ w) [] x y a b h =
    let e : c ≡ 47 = cc in absurd (false≢true (sym (or_parts (c == 47) (has_slash w) a).0 ∙ eq-eqb c 47 e))
cancel_slash (c ∷ w) (d ∷ v) x y a b h =
    let t : w ++ 47 ∷ x ≡ v ++ 47 ∷ y = cc in
    cancel_slash w v x y (or_parts (c == 47) (has_slash w) a).1 (or_parts (d == 47) (has_slash v) b).1 t

-- folders with a common path below them are the same, or one lies in the other
meet : (g c x y : List ℕ) → below g x ≡ below c y → (g ≡ c) ⊎ (LiesIn g c ⊎ LiesIn c g)
meet [] [] x y h = inl refl
meet [] (b ∷ c) x y h = let e : b ≡ 47 = cc in inr (inr (c, ap (λ z. z ∷ c) e))
meet (a ∷ g) [] x y h = let e : a ≡ 47 = cc in inr (inl (g, ap (λ z. z ∷ g) e))
meet (a ∷ g) (b ∷ c) x y h =
    let e : a ≡ b = cc in
    let t : below g x ≡ below c y = cc in
    elim (meet g c x y t) [
      | inl same ↦ inl (ap (λ z. z ∷ g) e ∙ ap (λ z. b ∷ z) same)
      | inr r ↦ elim r [
        | inl i ↦ inr (inl (i.0, ap (λ z. z ∷ g) e ∙ ap (λ z. b ∷ z) i.1))
        | inr i ↦ inr (inr (i.0, ap (λ z. z ∷ c) (sym e) ∙ ap (λ z. a ∷ z) i.1))
      ]
    ]

-- The first bytes.

-- the first byte of a place that isn't a linked worktree's: not that of `logs`, `packed-refs` or `worktrees`
abbrev pub IsStart : ℕ → Type 0
IsStart x = (x ≢ 108) × (x ≢ 112) × (x ≢ 119)

pub start_r : (x : ℕ) → x ≡ 114 → IsStart x
start_r x h = (λ e. absurd (omega arith), λ e. absurd (omega arith), λ e. absurd (omega arith))

start_pseudo : (x : ℕ) → IsPseudoHead x → IsStart x
start_pseudo x (inl h) = (λ e. absurd (omega arith), λ e. absurd (omega arith), λ e. absurd (omega arith))
start_pseudo x (inr h) = (λ e. absurd (omega arith), λ e. absurd (omega arith), λ e. absurd (omega arith))

pub start_private : (name : List ℕ) → IsPrivateName name → IsStart (head name)
start_private name (inl h) = start_r (head name) h.0
start_private name (inr h) = start_pseudo (head name) h

pub start_below : (n name : List ℕ) → IsNamespace n → IsStart (head name) → IsStart (head (n ++ name))
start_below n name (inl e) h = subst (λ x. IsStart (head (x ++ name))) (sym e) h
start_below n name (inr e) h = subst (λ x. IsStart (head (x ++ name))) (sym e.1) (start_r 114 refl)

-- The shapes of places and logs below a folder.

pub data PlaceShape : Type 0 where
  Plain : List ℕ → PlaceShape
  Within : List ℕ → List ℕ → PlaceShape
  Named : List ℕ → List ℕ → PlaceShape

pub data LogShape : Type 0 where
  PlainLog : List ℕ → LogShape
  LinkedLog : List ℕ → List ℕ → LogShape

abbrev pub place_path : List ℕ → PlaceShape → List ℕ
place_path n (Plain k) = n ++ k
place_path n (Within w k) = codes "worktrees/" ++ (w ++ 47 ∷ (n ++ k))
place_path n (Named w k) = n ++ (codes "worktrees/" ++ (w ++ 47 ∷ k))

-- the end of a place that is the end of its name
abbrev pub end_of : PlaceShape → List ℕ
end_of (Plain k) = k
end_of (Within w k) = k
end_of (Named w k) = k

abbrev pub log_path : List ℕ → LogShape → List ℕ
log_path n (PlainLog k) = codes "logs/" ++ (n ++ k)
log_path n (LinkedLog w k) = codes "worktrees/" ++ (w ++ 47 ∷ (codes "logs/" ++ (n ++ k)))

abbrev pub IsPlaceShape : PlaceShape → Type 0
IsPlaceShape (Plain k) = IsStart (head k)
IsPlaceShape (Within w k) = (has_slash w ≡ false) × IsStart (head k)
IsPlaceShape (Named w k) = (has_slash w ≡ false) × IsStart (head k)

abbrev pub IsPrivateShape : PlaceShape → Type 0
IsPrivateShape (Plain k) = IsPrivateName k
IsPrivateShape (Within w k) = (has_slash w ≡ false) × IsPrivateName k
IsPrivateShape (Named w k) = (has_slash w ≡ false) × IsPrivateName k

abbrev pub IsLogShape : LogShape → Type 0
IsLogShape (PlainLog k) = Unit {0}
IsLogShape (LinkedLog w k) = has_slash w ≡ false

private_is_place : (x : PlaceShape) → IsPrivateShape x → IsPlaceShape x
private_is_place (Plain k) h = start_private k h
private_is_place (Within w k) h = (h.0, start_private k h.1)
private_is_place (Named w k) h = (h.0, start_private k h.1)

named_head : (n x : List ℕ) → IsNamespace n → (head (n ++ (codes "worktrees/" ++ x)) ≡ 119) ⊎ (head (n ++ (codes "worktrees/" ++ x)) ≡ 114)
named_head n x (inl e) = inl (ap (λ y. head (y ++ (codes "worktrees/" ++ x))) e)
named_head n x (inr e) = inr (ap (λ y. head (y ++ (codes "worktrees/" ++ x))) e.1)

apart_119_108 : ◌≢◌ {A = ℕ} 119 108
apart_119_108 e = absurd (omega arith)

shapes_apart : (n : List ℕ) → IsNamespace n → (x : PlaceShape) (y : LogShape) → IsPlaceShape x → IsLogShape y → place_path n x ≢ log_path n y
shapes_apart n ns (Plain k) (PlainLog j) hx hy e = (start_below n k ns hx).0 (ap head e)
shapes_apart n ns (Plain k) (LinkedLog v j) hx hy e = (start_below n k ns hx).2 (ap head e)
shapes_apart n ns (Within w k) (PlainLog j) hx hy e = apart_119_108 (ap head e)
shapes_apart n ns (Within w k) (LinkedLog v j) hx hy e =
    (start_below n k ns hx.1).0 (ap head (cancel_slash w v (n ++ k) (codes "logs/" ++ (n ++ j)) hx.0 hy
    (cancel (codes "worktrees/") (w ++ 47 ∷ (n ++ k)) (v ++ 47 ∷ (codes "logs/" ++ (n ++ j))) e)))
shapes_apart n ns (Named w k) (PlainLog j) hx hy e =
    let e' : head (n ++ (codes "worktrees/" ++ (w ++ 47 ∷ k))) ≡ 108 = ap head e in
    elim (named_head n (w ++ 47 ∷ k) ns) [ inl h ↦ absurd (omega arith) | inr h ↦ absurd (omega arith) ]
shapes_apart n (inl none) (Named w k) (LinkedLog v j) hx hy e =
    hx.1.0 (ap head (cancel_slash w v k (codes "logs/" ++ (n ++ j)) hx.0 hy
    (cancel (codes "worktrees/") (w ++ 47 ∷ k) (v ++ 47 ∷ (codes "logs/" ++ (n ++ j)))
    (ap (λ y. y ++ (codes "worktrees/" ++ (w ++ 47 ∷ k))) (sym none) ∙ e))))
shapes_apart n (inr some) (Named w k) (LinkedLog v j) hx hy e =
    let e' : ◌≡◌ {A = ℕ} 114 119 = ap (λ y. head (y ++ (codes "worktrees/" ++ (w ++ 47 ∷ k)))) (sym some.1) ∙ ap head e in absurd (omega arith)

place_not_packed : (n : List ℕ) → IsNamespace n → (x : PlaceShape) → IsPlaceShape x → place_path n x ≢ codes "packed-refs"
place_not_packed n ns (Plain k) hx e = (start_below n k ns hx).1 (ap head e)
place_not_packed n ns (Within w k) hx e = let e' : ◌≡◌ {A = ℕ} 119 112 = ap head e in absurd (omega arith)
place_not_packed n ns (Named w k) hx e =
    let e' : head (n ++ (codes "worktrees/" ++ (w ++ 47 ∷ k))) ≡ 112 = ap head e in
    elim (named_head n (w ++ 47 ∷ k) ns) [ inl h ↦ absurd (omega arith) | inr h ↦ absurd (omega arith) ]

log_not_packed : (n : List ℕ) → (y : LogShape) → log_path n y ≢ codes "packed-refs"
log_not_packed n (PlainLog k) e = let e' : ◌≡◌ {A = ℕ} 108 112 = ap head e in absurd (omega arith)
log_not_packed n (LinkedLog w k) e = let e' : ◌≡◌ {A = ℕ} 119 112 = ap head e in absurd (omega arith)

-- what has a key is nowhere private
shared_apart : (n k : List ℕ) → IsNamespace n → head k ≡ 114 → is_private_ref k ≡ false → (x : PlaceShape) → IsPrivateShape x → n ++ k ≢ place_path n x
shared_apart n k ns hk pk (Plain j) (inl h) e = false≢true (sym pk ∙ (ap is_private_ref (cancel n k j e) ∙ h.1))
shared_apart n k ns hk pk (Plain j) (inr (inl h)) e =
    let e' : head j ≡ 114 = sym (ap head (cancel n k j e)) ∙ hk in
    let b : head j ≤ 90 = h.1 in absurd (omega arith)
shared_apart n k ns hk pk (Plain j) (inr (inr h)) e =
    let e' : head j ≡ 114 = sym (ap head (cancel n k j e)) ∙ hk in absurd (omega arith)
shared_apart n k ns hk pk (Within w j) h e = (start_below n k ns (start_r (head k) hk)).2 (ap head e)
shared_apart n k ns hk pk (Named w j) h e =
    let e' : head k ≡ 119 = ap head (cancel n k (codes "worktrees/" ++ (w ++ 47 ∷ j)) e) in absurd (omega arith)

-- Where a path lies: below the common folder, or below a git folder apart from it.

abbrev pub Lies : Layout → List ℕ → List ℕ → Type 0
Lies f path relative = (path ≡ below f.common relative) ⊎ (IsOutside f × (path ≡ below f.git relative))

pub nowhere : (f : Layout) → IsOutside f → (x y : List ℕ) → below f.git x ≢ below f.common y
nowhere f apart x y e = elim (meet f.git f.common x y e) [
  | inl h ↦ apart.0 h
  | inr r ↦ elim r [ inl h ↦ apart.1 h | inr h ↦ apart.2 h ]
]

disjoint : (f : Layout) (p q a b : List ℕ) → Lies f p a → Lies f q b → a ≢ b → p ≢ q
disjoint f p q a b (inl hp) (inl hq) n e = n (cancel_below f.common a b (sym hp ∙ (e ∙ hq)))
disjoint f p q a b (inl hp) (inr hq) n e = nowhere f hq.0 b a (sym hq.1 ∙ (sym e ∙ hp))
disjoint f p q a b (inr hp) (inl hq) n e = nowhere f hp.0 a b (sym hp.1 ∙ (e ∙ hq))
disjoint f p q a b (inr hp) (inr hq) n e = n (cancel_below f.git a b (sym hp.1 ∙ (e ∙ hq.1)))

pub inside : (common w x : List ℕ) → below (below common (codes "worktrees/" ++ w)) x ≡ below common (codes "worktrees/" ++ (w ++ 47 ∷ x))
inside common w x =
    append_assoc common (47 ∷ (codes "worktrees/" ++ w)) (47 ∷ x)
    ∙ ap (λ y. common ++ (47 ∷ y)) (append_assoc (codes "worktrees/") w (47 ∷ x))

abbrev HasPrivatePlace : Layout → Location → Type 0
HasPrivatePlace f x = (shape : PlaceShape) × IsPrivateShape shape × Lies f (place_at f (Some x)) (place_path f.namespace shape)

here_place : (f : Layout) → IsLaid f → (k : List ℕ) → IsPrivateName k → HasPrivatePlace f (ThisWorktree k)
here_place f (inl same) k h = (Plain k, h, inl (ap (λ g. below g (f.namespace ++ k)) same))
here_place f (inr (inl r)) k h = (Within r.0 k, (r.1, h), inl (ap (λ g. below g (f.namespace ++ k)) r.2 ∙ inside f.common r.0 (f.namespace ++ k)))
here_place f (inr (inr r)) k h = (Plain k, h, inr (r, refl))

abbrev pub HasPlace : Layout → Location → Type 0
HasPlace f x = (shape : PlaceShape) × IsPlaceShape shape × Lies f (place_at f (Some x)) (place_path f.namespace shape)

pub has_place : (f : Layout) → IsLaid f → (x : Location) → IsSpot x → HasPlace f x
has_place f folders (Common k) h = (Plain k, start_r (head k) h.0, inl refl)
has_place f folders (ThisWorktree k) h = let p = here_place f folders k h in (p.0, private_is_place p.0 p.1, p.2)
has_place f folders (MainWorktree k) h = (Plain k, start_private k h, inl refl)
has_place f folders (LinkedWorktree w k) h = (Named w k, (h.0, start_private k h.1), inl refl)

pub ends_as : (f : Layout) (folders : IsLaid f) (x : Location) (h : IsSpot x) → end_of (has_place f folders x h).0 ≡ short x
unfolding has_place here_place
ends_as f folders (Common k) h = refl
ends_as f (inl one) (ThisWorktree k) h = refl
ends_as f (inr (inl r)) (ThisWorktree k) h = refl
ends_as f (inr (inr r)) (ThisWorktree k) h = refl
ends_as f folders (MainWorktree k) h = refl
ends_as f folders (LinkedWorktree w k) h = refl

abbrev HasLog : Layout → Location → Type 0
HasLog f x = (shape : LogShape) × IsLogShape shape × Lies f (log_at f (Some x)) (log_path f.namespace shape)

here_log : (f : Layout) → IsLaid f → (k : List ℕ) → HasLog f (ThisWorktree k)
here_log f (inl same) k = (PlainLog k, tt, inl (ap (λ g. below g (codes "logs/" ++ (f.namespace ++ k))) same))
here_log f (inr (inl r)) k =
    (LinkedLog r.0 k, r.1, inl (ap (λ g. below g (codes "logs/" ++ (f.namespace ++ k))) r.2 ∙ inside f.common r.0 (codes "logs/" ++ (f.namespace ++ k))))
here_log f (inr (inr r)) k = (PlainLog k, tt, inr (r, refl))

has_log : (f : Layout) → IsLaid f → (x : Location) → IsSpot x → HasLog f x
has_log f folders (Common k) h = (PlainLog k, tt, inl refl)
has_log f folders (ThisWorktree k) h = here_log f folders k
has_log f folders (MainWorktree k) h = (PlainLog k, tt, inl refl)
has_log f folders (LinkedWorktree w k) h = (LinkedLog w k, h.0, inl refl)

-- The laws, of locations.

spot_place_no_log : (f : Layout) → IsLaid f → IsNamespace f.namespace → (x y : Location) → IsSpot x → IsSpot y → place_at f (Some x) ≢ log_at f (Some y)
spot_place_no_log f folders ns x y hx hy =
    let p = has_place f folders x hx in
    let q = has_log f folders y hy in
    disjoint f (place_at f (Some x)) (log_at f (Some y)) (place_path f.namespace p.0) (log_path f.namespace q.0) p.2 q.2 (shapes_apart f.namespace ns p.0 q.0 p.1 q.1)

spot_place_not_packed : (f : Layout) → IsLaid f → IsNamespace f.namespace → (x : Location) → IsSpot x → place_at f (Some x) ≢ packed_refs f
spot_place_not_packed f folders ns x hx =
    let p = has_place f folders x hx in
    disjoint f (place_at f (Some x)) (packed_refs f) (place_path f.namespace p.0) (codes "packed-refs") p.2 (inl refl) (place_not_packed f.namespace ns p.0 p.1)

spot_log_not_packed : (f : Layout) → IsLaid f → (x : Location) → IsSpot x → log_at f (Some x) ≢ packed_refs f
spot_log_not_packed f folders x hx =
    let p = has_log f folders x hx in
    disjoint f (log_at f (Some x)) (packed_refs f) (log_path f.namespace p.0) (codes "packed-refs") p.2 (inl refl) (log_not_packed f.namespace p.0)

keyless : (f : Layout) → IsLaid f → IsNamespace f.namespace → (k : List ℕ) → IsSpot (Common k) → (x : Location) → HasPrivatePlace f x → place_at f (Some (Common k)) ≢ place_at f (Some x)
keyless f folders ns k hk x p =
    disjoint f (place_at f (Some (Common k))) (place_at f (Some x)) (f.namespace ++ k) (place_path f.namespace p.0) (inl refl) p.2 (shared_apart f.namespace k ns hk.0 hk.1 p.0 p.1)

spot_one_key : (f : Layout) → IsLaid f → IsNamespace f.namespace → (x y : Location) → IsSpot x → IsSpot y → place_at f (Some x) ≡ place_at f (Some y) → key_at f (Some x) ≡ key_at f (Some y)
spot_one_key f folders ns (Common k) (Common j) hx hy e = ap Some (cancel_below f.common (f.namespace ++ k) (f.namespace ++ j) e)
spot_one_key f folders ns (Common k) (ThisWorktree j) hx hy e = absurd (keyless f folders ns k hx (ThisWorktree j) (here_place f folders j hy) e)
spot_one_key f folders ns (Common k) (MainWorktree j) hx hy e = absurd (keyless f folders ns k hx (MainWorktree j) (Plain j, hy, inl refl) e)
spot_one_key f folders ns (Common k) (LinkedWorktree w j) hx hy e = absurd (keyless f folders ns k hx (LinkedWorktree w j) (Named w j, hy, inl refl) e)
spot_one_key f folders ns (ThisWorktree j) (Common k) hx hy e = absurd (keyless f folders ns k hy (ThisWorktree j) (here_place f folders j hx) (sym e))
spot_one_key f folders ns (MainWorktree j) (Common k) hx hy e = absurd (keyless f folders ns k hy (MainWorktree j) (Plain j, hx, inl refl) (sym e))
spot_one_key f folders ns (LinkedWorktree w j) (Common k) hx hy e = absurd (keyless f folders ns k hy (LinkedWorktree w j) (Named w j, hx, inl refl) (sym e))
spot_one_key f folders ns (ThisWorktree j) (ThisWorktree k) hx hy e = refl
spot_one_key f folders ns (ThisWorktree j) (MainWorktree k) hx hy e = refl
spot_one_key f folders ns (ThisWorktree j) (LinkedWorktree w k) hx hy e = refl
spot_one_key f folders ns (MainWorktree j) (ThisWorktree k) hx hy e = refl
spot_one_key f folders ns (MainWorktree j) (MainWorktree k) hx hy e = refl
spot_one_key f folders ns (MainWorktree j) (LinkedWorktree w k) hx hy e = refl
spot_one_key f folders ns (LinkedWorktree v j) (ThisWorktree k) hx hy e = refl
spot_one_key f folders ns (LinkedWorktree v j) (MainWorktree k) hx hy e = refl
spot_one_key f folders ns (LinkedWorktree v j) (LinkedWorktree w k) hx hy e = refl

-- a place with a key is the key below the common folder
place_of_key : (f : Layout) (x : Location) (k : List ℕ) → key_at f (Some x) ≡ Some k → place_at f (Some x) ≡ below f.common k
place_of_key f (Common j) k e = let e' : f.namespace ++ j ≡ k = cc in ap (below f.common) e'
place_of_key f (ThisWorktree j) k e = cc
place_of_key f (MainWorktree j) k e = cc
place_of_key f (LinkedWorktree w j) k e = cc

pub is_spot : (o : Option Location) → is_some o ≡ true → (x : Location) × (o ≡ Some x)
is_spot None h = absurd (false≢true h)
is_spot (Some x) h = (x, refl)

-- No lock.

ends_below : (folder k path : List ℕ) → EndsIn k path → EndsIn k (below folder path)
ends_below folder k path e = ends_after k (47 ∷ path) folder (ends_after k path (47 ∷ []) e)

place_ends : (f : Layout) (x : Location) → EndsIn (short x) (place_at f (Some x))
place_ends f (Common k) = ends_below f.common k (f.namespace ++ k) (f.namespace, refl)
place_ends f (ThisWorktree k) = ends_below f.git k (f.namespace ++ k) (f.namespace, refl)
place_ends f (MainWorktree k) = ends_below f.common k (f.namespace ++ k) (f.namespace, refl)
place_ends f (LinkedWorktree w k) =
    ends_below f.common k (f.namespace ++ (codes "worktrees/" ++ (w ++ 47 ∷ k)))
    (ends_after k (codes "worktrees/" ++ (w ++ 47 ∷ k)) f.namespace (ends_after k (w ++ 47 ∷ k) (codes "worktrees/") (ends_after k (47 ∷ k) w (47 ∷ [], refl))))

log_ends : (f : Layout) (x : Location) → EndsIn (short x) (log_at f (Some x))
log_ends f (Common k) = ends_below f.common k (codes "logs/" ++ (f.namespace ++ k)) (ends_after k (f.namespace ++ k) (codes "logs/") (f.namespace, refl))
log_ends f (ThisWorktree k) = ends_below f.git k (codes "logs/" ++ (f.namespace ++ k)) (ends_after k (f.namespace ++ k) (codes "logs/") (f.namespace, refl))
log_ends f (MainWorktree k) = ends_below f.common k (codes "logs/" ++ (f.namespace ++ k)) (ends_after k (f.namespace ++ k) (codes "logs/") (f.namespace, refl))
log_ends f (LinkedWorktree w k) =
    ends_below f.common k (codes "worktrees/" ++ (w ++ 47 ∷ (codes "logs/" ++ (f.namespace ++ k))))
    (ends_after k (w ++ 47 ∷ (codes "logs/" ++ (f.namespace ++ k))) (codes "worktrees/")
    (ends_after k (47 ∷ (codes "logs/" ++ (f.namespace ++ k))) w
    (ends_after k (codes "logs/" ++ (f.namespace ++ k)) (47 ∷ []) (ends_after k (f.namespace ++ k) (codes "logs/") (f.namespace, refl)))))

-- of two ends of one text, one ends in the other
pub ends_compare : (a k b l : List ℕ) → a ++ k ≡ b ++ l → EndsIn l k ⊎ ((c : ℕ) × (z : List ℕ) × (l ≡ c ∷ z ++ k))
ends_compare [] k b l h = inl (b, h)
ends_compare (x ∷ a) k [] l h = inr (x, a, sym h)
ends_compare (x ∷ a) k (y ∷ b) l h = let t : a ++ k ≡ b ++ l = cc in ends_compare a k b l t

-- the first byte of a short name
abbrev IsNameHead : ℕ → Type 0
IsNameHead x = (x ≡ 114) ⊎ IsPseudoHead x

name_head : (x : Location) → IsSpot x → IsNameHead (head (short x))
name_head (Common k) h = inl h.0
name_head (ThisWorktree k) (inl h) = inl h.0
name_head (ThisWorktree k) (inr h) = inr h
name_head (MainWorktree k) (inl h) = inl h.0
name_head (MainWorktree k) (inr h) = inr h
name_head (LinkedWorktree w k) (h, inl p) = inl p.0
name_head (LinkedWorktree w k) (h, inr p) = inr p

abbrev IsLockByte : ℕ → Type 0
IsLockByte x = (x ≡ 108) ⊎ ((x ≡ 111) ⊎ ((x ≡ 99) ⊎ ((x ≡ 107) ⊎ (x ≡ 0))))

no_lock_byte : (x : ℕ) → IsNameHead x → IsLockByte x → ⊥
no_lock_byte x (inl h) l = absurd (omega arith)
no_lock_byte x (inr (inl h)) l = absurd (omega arith)
no_lock_byte x (inr (inr h)) l = absurd (omega arith)

abbrev drop1 : List ℕ → List ℕ
drop1 [] = []
drop1 (x ∷ xs) = xs

lock_bytes : (c : ℕ) (z k : List ℕ) → codes ".lock" ≡ c ∷ (z ++ k) → IsLockByte (head k)
lock_bytes c [] k h = inl (ap (λ x. head (drop1 x)) (sym h))
lock_bytes c (z ∷ []) k h = inr (inl (ap (λ x. head (drop1 (drop1 x))) (sym h)))
lock_bytes c (z ∷ y ∷ []) k h = inr (inr (inl (ap (λ x. head (drop1 (drop1 (drop1 x)))) (sym h))))
lock_bytes c (z ∷ y ∷ w ∷ []) k h = inr (inr (inr (inl (ap (λ x. head (drop1 (drop1 (drop1 (drop1 x))))) (sym h)))))
lock_bytes c (z ∷ y ∷ w ∷ v ∷ []) k h = inr (inr (inr (inr (ap (λ x. head (drop1 (drop1 (drop1 (drop1 (drop1 x)))))) (sym h)))))
lock_bytes c (z ∷ y ∷ w ∷ v ∷ u ∷ zs) k h =
    let e : u ∷ (zs ++ k) ≡ [] = ap (λ x. drop1 (drop1 (drop1 (drop1 (drop1 x))))) (sym h) in absurd (cons_is_nil u (zs ++ k) e)
  where
    cons_is_nil : (x : ℕ) (xs : List ℕ) → x ∷ xs ≡ [] → ⊥
    cons_is_nil x xs e = cc

no_lock : (x : Location) (name path q : List ℕ) → IsSpot x → EndsIn (short x) name → IsPartialName name → EndsIn (short x) path → path ≢ lock_of q
no_lock x name path q hx n valid p e = elim (ends_compare p.0 (short x) q (codes ".lock") (sym p.1 ∙ e)) [
  | inl k ↦ no_lock_end name (n.0 ++ k.0) valid (n.1 ∙ (ap (λ y. n.0 ++ y) k.1 ∙ sym (append_assoc n.0 k.0 (codes ".lock"))))
  | inr k ↦ no_lock_byte (head (short x)) (name_head x hx) (lock_bytes k.0 k.1 (short x) k.2)
]

packed_no_lock : (f : Layout) (q : List ℕ) → packed_refs f ≢ lock_of q
packed_no_lock f q e =
    elim (ends_compare (f.common ++ 47 ∷ []) (codes "packed-refs") q (codes ".lock") (append_assoc f.common (47 ∷ []) (codes "packed-refs") ∙ e)) [
      | inl k ↦
          let ends : is_locked (codes "packed-refs") ≡ true = (ends_is Decides-eqb (codes "packed-refs") (codes ".lock") (is_locked (codes "packed-refs")) refl).1 k.0 k.1 in
          false≢true ends
      | inr k ↦ no_p (lock_bytes k.0 k.1 (codes "packed-refs") k.2)
    ]
  where
    no_p : IsLockByte 112 → ⊥
    no_p (inl e) = absurd (omega arith)
    no_p (inr (inl e)) = absurd (omega arith)
    no_p (inr (inr (inl e))) = absurd (omega arith)
    no_p (inr (inr (inr (inl e)))) = absurd (omega arith)
    no_p (inr (inr (inr (inr e)))) = absurd (omega arith)

-- The store.

pub laid : (f : Layout) → IsLayout f → IsLaid f
laid f (inl same, namespace) = inl same
laid f (inr (inl r), namespace) = inr (inl (r.0, no_slash_test r.0 r.1, r.2))
laid f (inr (inr a), namespace) = inr (inr (a.differ, a.left_outside, a.right_outside))

-- what is known of a name of the store
pub record Known (f : Layout) (o : Options) (name : List ℕ) : Type 0 where
  pub valid : IsPartialName name
  pub spotted : (x : Location) × (location name ≡ Some x)

none_is : {A : Type 0} (o : Option A) → is_none o ≡ true → o ≡ None
none_is None h = refl
none_is (Some x) h = absurd (false≢true h)

pub known : (f : Layout) (o : Options) (name : List ℕ) → (store_of f o).is_reference name ≡ true → Known f o name
known f o name h =
    let parts = and_parts (is_none (partial_error name)) (is_safe name) h in
    record { valid = none_is (partial_error name) parts.0; spotted = is_spot (location name) parts.1 }

-- the row of a name by its location
pub row_by : (f : Layout) (o : Options) (name : List ℕ) → (k : Known f o name) → paths_at f name ≡ row_of f k.spotted.0
row_by f o name k = ap (λ z. row_of f (unwrap_or z (Common name))) k.spotted.1

pub spot_is : (f : Layout) (o : Options) (name : List ℕ) → (k : Known f o name) → IsSpot k.spotted.0
spot_is f o name k = sound name k.spotted.0 k.valid (has_spot name k.spotted.0 k.spotted.1)

-- the places of the table keep the laws
pub laws_hold : (f : Layout) (o : Options) → IsLayout f → HasLaws (store_of f o)
laws_hold f o folders = record {
  one_key = λ m n hm hn e.
      let x = known f o m hm in
      let y = known f o n hn in
      ap (λ r. r.key) (row_by f o m x)
      ∙ (spot_one_key f (laid f folders) folders.1 x.spotted.0 y.spotted.0 (spot_is f o m x) (spot_is f o n y)
      (sym (ap (λ r. r.place) (row_by f o m x)) ∙ (e ∙ ap (λ r. r.place) (row_by f o n y)))
      ∙ sym (ap (λ r. r.key) (row_by f o n y)));
  one_place = λ m n k hm hn em en.
      let x = known f o m hm in
      let y = known f o n hn in
      let at_m = sym (ap (λ r. r.key) (row_by f o m x)) ∙ em in
      let at_n = sym (ap (λ r. r.key) (row_by f o n y)) ∙ en in
      ap (λ r. r.place) (row_by f o m x)
      ∙ (place_of_key f x.spotted.0 k at_m ∙ (sym (place_of_key f y.spotted.0 k at_n) ∙ sym (ap (λ r. r.place) (row_by f o n y))));
  place_is_no_log = λ m n hm hn e.
      let x = known f o m hm in
      let y = known f o n hn in
      spot_place_no_log f (laid f folders) folders.1 x.spotted.0 y.spotted.0 (spot_is f o m x) (spot_is f o n y)
      (sym (ap (λ r. r.place) (row_by f o m x)) ∙ (e ∙ ap (λ r. r.log) (row_by f o n y)));
  place_is_not_packed = λ n hn e.
      let x = known f o n hn in
      spot_place_not_packed f (laid f folders) folders.1 x.spotted.0 (spot_is f o n x) (sym (ap (λ r. r.place) (row_by f o n x)) ∙ e);
  log_is_not_packed = λ n hn e.
      let x = known f o n hn in
      spot_log_not_packed f (laid f folders) x.spotted.0 (spot_is f o n x) (sym (ap (λ r. r.log) (row_by f o n x)) ∙ e);
  place_is_no_lock = λ n q hn e.
      let x = known f o n hn in
      no_lock x.spotted.0 n (place_at f (Some x.spotted.0)) q (spot_is f o n x) (spot_ends n x.spotted.0 (has_spot n x.spotted.0 x.spotted.1)) x.valid (place_ends f x.spotted.0)
      (sym (ap (λ r. r.place) (row_by f o n x)) ∙ e);
  log_is_no_lock = λ n q hn e.
      let x = known f o n hn in
      no_lock x.spotted.0 n (log_at f (Some x.spotted.0)) q (spot_is f o n x) (spot_ends n x.spotted.0 (has_spot n x.spotted.0 x.spotted.1)) x.valid (log_ends f x.spotted.0)
      (sym (ap (λ r. r.log) (row_by f o n x)) ∙ e);
  packed_is_no_lock = packed_no_lock f;
}

-- Names of one place have one log.

abbrev pub log_of_shape : PlaceShape → LogShape
log_of_shape (Plain k) = PlainLog k
log_of_shape (Within w k) = LinkedLog w k
log_of_shape (Named w k) = LinkedLog w k

pub same_front : (w v x y : List ℕ) → has_slash w ≡ false → has_slash v ≡ false → w ++ 47 ∷ x ≡ v ++ 47 ∷ y → w ≡ v
same_front [] [] x y a b h = refl
same_front [] (c ∷ v) x y a b h =
    let e : c ≡ 47 = cc in absurd (false≢true (sym (or_parts (c == 47) (has_slash v) b).0 ∙ eq-eqb c 47 e))
same_front (c ∷ w) [] x y a b h =
    let e : c ≡ 47 = cc in absurd (false≢true (sym (or_parts (c == 47) (has_slash w) a).0 ∙ eq-eqb c 47 e))
same_front (c ∷ w) (d ∷ v) x y a b h =
    let e : c ≡ d = cc in
    let t : w ++ 47 ∷ x ≡ v ++ 47 ∷ y = cc in
    ap (λ z. z ∷ w) e ∙ ap (λ z. d ∷ z) (same_front w v x y (or_parts (c == 47) (has_slash w) a).1 (or_parts (d == 47) (has_slash v) b).1 t)

pub linked_log_same : (n w v k j : List ℕ) → w ≡ v → n ++ k ≡ n ++ j → log_path n (LinkedLog w k) ≡ log_path n (LinkedLog v j)
linked_log_same n w v k j e h =
    ap (λ z. codes "worktrees/" ++ (z ++ 47 ∷ (codes "logs/" ++ (n ++ k)))) e ∙ ap (λ z. codes "worktrees/" ++ (v ++ 47 ∷ (codes "logs/" ++ z))) h

within_named : (n w v k j : List ℕ) → IsNamespace n → has_slash w ≡ false → has_slash v ≡ false → place_path n (Within w k) ≡ place_path n (Named v j) →
    log_path n (LinkedLog w k) ≡ log_path n (LinkedLog v j)
within_named n w v k j (inl none) a b e =
    let t = cancel (codes "worktrees/") (w ++ 47 ∷ (n ++ k)) (v ++ 47 ∷ j) (e ∙ ap (λ y. y ++ (codes "worktrees/" ++ (v ++ 47 ∷ j))) none) in
    linked_log_same n w v k j (same_front w v (n ++ k) j a b t) (cancel_slash w v (n ++ k) j a b t ∙ ap (λ y. y ++ j) (sym none))
within_named n w v k j (inr some) a b e =
    let e' : ◌≡◌ {A = ℕ} 119 114 = ap head e ∙ ap (λ y. head (y ++ (codes "worktrees/" ++ (v ++ 47 ∷ j)))) some.1 in absurd (omega arith)

plain_named : (n k v j : List ℕ) → IsStart (head k) → n ++ k ≡ place_path n (Named v j) → ⊥
plain_named n k v j h e = h.2 (ap head (cancel n k (codes "worktrees/" ++ (v ++ 47 ∷ j)) e))

shapes_one_log : (n : List ℕ) → IsNamespace n → (x y : PlaceShape) → IsPlaceShape x → IsPlaceShape y → place_path n x ≡ place_path n y → log_path n (log_of_shape x) ≡ log_path n (log_of_shape y)
shapes_one_log n ns (Plain k) (Plain j) hx hy e = ap (λ z. codes "logs/" ++ z) e
shapes_one_log n ns (Plain k) (Within v j) hx hy e = absurd ((start_below n k ns hx).2 (ap head e))
shapes_one_log n ns (Plain k) (Named v j) hx hy e = absurd (plain_named n k v j hx e)
shapes_one_log n ns (Within w k) (Plain j) hx hy e = absurd ((start_below n j ns hy).2 (ap head (sym e)))
shapes_one_log n ns (Within w k) (Within v j) hx hy e =
    let t = cancel (codes "worktrees/") (w ++ 47 ∷ (n ++ k)) (v ++ 47 ∷ (n ++ j)) e in
    linked_log_same n w v k j (same_front w v (n ++ k) (n ++ j) hx.0 hy.0 t) (cancel_slash w v (n ++ k) (n ++ j) hx.0 hy.0 t)
shapes_one_log n ns (Within w k) (Named v j) hx hy e = within_named n w v k j ns hx.0 hy.0 e
shapes_one_log n ns (Named w k) (Plain j) hx hy e = absurd (plain_named n j w k hy (sym e))
shapes_one_log n ns (Named w k) (Within v j) hx hy e = sym (within_named n v w j k ns hy.0 hx.0 (sym e))
shapes_one_log n ns (Named w k) (Named v j) hx hy e =
    let t = cancel (codes "worktrees/") (w ++ 47 ∷ k) (v ++ 47 ∷ j) (cancel n (codes "worktrees/" ++ (w ++ 47 ∷ k)) (codes "worktrees/" ++ (v ++ 47 ∷ j)) e) in
    linked_log_same n w v k j (same_front w v k j hx.0 hy.0 t) (ap (λ z. n ++ z) (cancel_slash w v k j hx.0 hy.0 t))

-- a place and its log lie below one folder, in shapes that fit
abbrev HasBoth : Layout → Location → Type 0
HasBoth f x =
    (shape : PlaceShape) × IsPlaceShape shape
    × (((place_at f (Some x) ≡ below f.common (place_path f.namespace shape)) × (log_at f (Some x) ≡ below f.common (log_path f.namespace (log_of_shape shape))))
    ⊎ (IsOutside f × ((place_at f (Some x) ≡ below f.git (place_path f.namespace shape)) × (log_at f (Some x) ≡ below f.git (log_path f.namespace (log_of_shape shape))))))

here_both : (f : Layout) → IsLaid f → (k : List ℕ) → IsPrivateName k → HasBoth f (ThisWorktree k)
here_both f (inl same) k h =
    (Plain k, start_private k h, inl (ap (λ g. below g (f.namespace ++ k)) same, ap (λ g. below g (codes "logs/" ++ (f.namespace ++ k))) same))
here_both f (inr (inl r)) k h = (
  Within r.0 k,
  (r.1, start_private k h),
  inl (
    ap (λ g. below g (f.namespace ++ k)) r.2 ∙ inside f.common r.0 (f.namespace ++ k),
    ap (λ g. below g (codes "logs/" ++ (f.namespace ++ k))) r.2 ∙ inside f.common r.0 (codes "logs/" ++ (f.namespace ++ k)),
  ),
)
here_both f (inr (inr r)) k h = (Plain k, start_private k h, inr (r, (refl, refl)))

has_both : (f : Layout) → IsLaid f → (x : Location) → IsSpot x → HasBoth f x
has_both f folders (Common k) h = (Plain k, start_r (head k) h.0, inl (refl, refl))
has_both f folders (ThisWorktree k) h = here_both f folders k h
has_both f folders (MainWorktree k) h = (Plain k, start_private k h, inl (refl, refl))
has_both f folders (LinkedWorktree w k) h = (Named w k, (h.0, start_private k h.1), inl (refl, refl))

both_one_log : (f : Layout) → IsNamespace f.namespace → (x y : Location) → HasBoth f x → HasBoth f y → place_at f (Some x) ≡ place_at f (Some y) → log_at f (Some x) ≡ log_at f (Some y)
both_one_log f ns x y (sx, hx, inl p) (sy, hy, inl q) e =
    p.1 ∙ (ap (below f.common) (shapes_one_log f.namespace ns sx sy hx hy (cancel_below f.common (place_path f.namespace sx) (place_path f.namespace sy) (sym p.0 ∙ (e ∙ q.0)))) ∙ sym q.1)
both_one_log f ns x y (sx, hx, inl p) (sy, hy, inr q) e =
    absurd (nowhere f q.0 (place_path f.namespace sy) (place_path f.namespace sx) (sym q.1.0 ∙ (sym e ∙ p.0)))
both_one_log f ns x y (sx, hx, inr p) (sy, hy, inl q) e =
    absurd (nowhere f p.0 (place_path f.namespace sx) (place_path f.namespace sy) (sym p.1.0 ∙ (e ∙ q.0)))
both_one_log f ns x y (sx, hx, inr p) (sy, hy, inr q) e =
    p.1.1 ∙ (ap (below f.git) (shapes_one_log f.namespace ns sx sy hx hy (cancel_below f.git (place_path f.namespace sx) (place_path f.namespace sy) (sym p.1.0 ∙ (e ∙ q.1.0)))) ∙ sym q.1.1)

-- names of one place have one log
pub one_log : (f : Layout) (o : Options) → IsLayout f → (m n : List ℕ) → (store_of f o).is_reference m ≡ true → (store_of f o).is_reference n ≡ true →
    (store_of f o).place m ≡ (store_of f o).place n → (store_of f o).log m ≡ (store_of f o).log n
one_log f o folders m n hm hn e =
    let x = known f o m hm in
    let y = known f o n hn in
    ap (λ r. r.log) (row_by f o m x)
    ∙ (both_one_log f folders.1 x.spotted.0 y.spotted.0 (has_both f (laid f folders) x.spotted.0 (spot_is f o m x)) (has_both f (laid f folders) y.spotted.0 (spot_is f o n y))
    (sym (ap (λ r. r.place) (row_by f o m x)) ∙ (e ∙ ap (λ r. r.place) (row_by f o n y)))
    ∙ sym (ap (λ r. r.log) (row_by f o n y)))
