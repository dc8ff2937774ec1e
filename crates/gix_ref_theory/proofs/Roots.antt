-- A place is settled up to its root.
use Rattle.std.proofs.Common.{◌≡◌, ◌⊎◌, inl, inr, ℕ, ◌<◌, ◌≤◌, List, [], ◌∷◌, ◌++◌, length, take, get_or, Bool, true, false, codes, nat_eq, refl, sym, ◌∙◌, ap, subst, arith, drop, append_assoc}
use Rattle.std.specs.Prelude.{unwrap_or, if◌then◌else◌}
use Rattle.std.specs.List.{starts_with}
use Rattle.std.proofs.lemmas.Bool.{true≢false}
use Rattle.std.proofs.lemmas.Bool.Decides.{Decides-eqb}
use Rattle.std.proofs.lemmas.Slice.Eq.{starts_is}
use Rattle.gix_ref_files.specs.Tree.{Path, fronts}
use Rattle.gix_ref_files.specs.Settled.{IsIn, AreIn, SettlesPath, climb}
use Rattle.gix_ref_files.proofs.Climbing.{climbs}
use Rattle.gix_ref_target.specs.Layout.{Layout, LiesIn, below, packed_refs}
use Rattle.gix_ref_target.specs.Locations.{Location, location, row_of}
use Rattle.gix_ref_target.specs.Locations.Location.{Common, ThisWorktree, MainWorktree, LinkedWorktree}
use Rattle.gix_ref_name.proofs.FrontLemmas.{begins_true, begins_false}
use Rattle.gix_ref_theory.specs.ConcreteStore.{store_of}
use Rattle.gix_ref_theory.specs.Roots.{root_of, roots, LogsSettle, PackedSettles, PlacesSettle}

-- each place lies in the git folder or in the common one, and in the namespace
pub in_namespace : (f : Layout) (x : Location) → (folder rest : Path) × ((folder ≡ f.common) ⊎ (folder ≡ f.git)) × ((row_of f x).place ≡ below folder (f.namespace ++ rest))
in_namespace f (Common n) = (f.common, n, inl refl, refl)
in_namespace f (ThisWorktree n) = (f.git, n, inr refl, refl)
in_namespace f (MainWorktree n) = (f.common, n, inl refl, refl)
in_namespace f (LinkedWorktree w n) = (f.common, codes "worktrees/" ++ (w ++ 47 ∷ n), inl refl, refl)

in_left : (p : Path) (xs ys : List Path) → IsIn p xs → IsIn p (xs ++ ys)
in_left p [] ys h = absurd h
in_left p (x ∷ xs) ys (inl h) = inl h
in_left p (x ∷ xs) ys (inr h) = inr (in_left p xs ys h)

in_right : (p : Path) (xs ys : List Path) → IsIn p ys → IsIn p (xs ++ ys)
in_right p [] ys h = h
in_right p (x ∷ xs) ys h = inr (in_right p xs ys h)

all_in : (ps qs : List Path) → ((p : Path) → IsIn p ps → IsIn p qs) → AreIn ps qs
all_in [] qs each = tt
all_in (p ∷ ps) qs each = (each p (inl refl), all_in ps qs (λ q h. each q (inr h)))

-- a path below a folder, cut at the folder
cut : (folder rest : List ℕ) → take (length folder) (below folder rest) ≡ folder
cut [] rest = refl
cut (c ∷ folder) rest = ap (λ (l : List ℕ). c ∷ l) (cut folder rest)

slash_there : (folder rest : List ℕ) → get_or (below folder rest) (length folder) 0 ≡ 47
slash_there [] rest = refl
slash_there (c ∷ folder) rest = slash_there folder rest

longer : (folder rest : List ℕ) → length folder < length (below folder rest)
longer [] rest = omega arith
longer (c ∷ folder) rest = omega (arith, longer folder rest)

-- it is settled up to that folder
below_settles : (staying : List Path) (folder rest : List ℕ) → 1 ≤ length folder → AreIn (fronts folder ++ folder ∷ []) staying → SettlesPath staying (below folder rest) (climb (below folder rest) (length folder))
below_settles staying folder rest some stay =
    climbs staying (below folder rest) (length folder) some (longer folder rest) (slash_there folder rest)
    (subst (λ (p : Path). AreIn (fronts p ++ p ∷ []) staying) (sym (cut folder rest)) stay)

module _ (f : Layout) (git_is : 1 ≤ length f.git) (common_is : 1 ≤ length f.common) where
  git_stays : AreIn (fronts f.git ++ f.git ∷ []) (roots f)
  git_stays = all_in (fronts f.git ++ f.git ∷ []) (roots f) (λ p h. in_left p (fronts f.git ++ f.git ∷ []) (fronts f.common ++ f.common ∷ []) h)

  common_stays : AreIn (fronts f.common ++ f.common ∷ []) (roots f)
  common_stays = all_in (fronts f.common ++ f.common ∷ []) (roots f) (λ p h. in_right p (fronts f.git ++ f.git ∷ []) (fronts f.common ++ f.common ∷ []) h)

  begins : (p : Path) → starts_with nat_eq p (below f.git []) ≡ true → (rest : List ℕ) × (p ≡ below f.git rest)
  begins p h =
      let rest = drop (length (below f.git [])) p in
      (rest, (starts_is Decides-eqb p (below f.git []) (starts_with nat_eq p (below f.git [])) refl).0 h ∙ append_assoc f.git (47 ∷ []) rest)

  settles : (p folder rest : Path) → (folder ≡ f.common) ⊎ (folder ≡ f.git) → p ≡ below folder rest → SettlesPath (roots f) p (climb p (root_of f.git f.common p))
  settles p folder rest where_is is = by (starts_with nat_eq p (below f.git [])) refl where_is
    where
      by : (b : Bool) → starts_with nat_eq p (below f.git []) ≡ b → (folder ≡ f.common) ⊎ (folder ≡ f.git) → SettlesPath (roots f) p (climb p (if b then length f.git else length f.common))
      by true e at =
          let cut_at = begins p e in
          subst (λ (q : Path). SettlesPath (roots f) q (climb q (length f.git))) (sym cut_at.1) (below_settles (roots f) f.git cut_at.0 git_is git_stays)
      by false e (inl at) =
          subst (λ (q : Path). SettlesPath (roots f) q (climb q (length f.common))) (sym (is ∙ ap (λ (d : Path). below d rest) at)) (below_settles (roots f) f.common rest common_is common_stays)
      by false e (inr at) = absurd (true≢false (sym (begins_true (below f.git []) p rest (is ∙ ap (λ (d : Path). below d rest) at ∙ sym (append_assoc f.git (47 ∷ []) rest))) ∙ e))

pub places_settle : PlacesSettle
places_settle f o name git_is common_is =
    let at = in_namespace f (unwrap_or (location name) (Common name)) in
    settles f git_is common_is ((store_of f o).place name) at.0 (f.namespace ++ at.1) at.2 at.3

-- and so are each log, and `packed-refs`
log_below : (f : Layout) (x : Location) → (folder rest : Path) × ((folder ≡ f.common) ⊎ (folder ≡ f.git)) × ((row_of f x).log ≡ below folder rest)
log_below f (Common n) = (f.common, codes "logs/" ++ (f.namespace ++ n), inl refl, refl)
log_below f (ThisWorktree n) = (f.git, codes "logs/" ++ (f.namespace ++ n), inr refl, refl)
log_below f (MainWorktree n) = (f.common, codes "logs/" ++ (f.namespace ++ n), inl refl, refl)
log_below f (LinkedWorktree w n) = (f.common, codes "worktrees/" ++ (w ++ 47 ∷ (codes "logs/" ++ (f.namespace ++ n))), inl refl, refl)

pub logs_settle : LogsSettle
logs_settle f o name git_is common_is =
    let at = log_below f (unwrap_or (location name) (Common name)) in
    settles f git_is common_is ((store_of f o).log name) at.0 at.1 at.2 at.3

pub packed_settles : PackedSettles
packed_settles f o git_is common_is = settles f git_is common_is (packed_refs f) f.common (codes "packed-refs") (inl refl) refl

-- the root of a path in the git folder, and of one that is elsewhere
pub root_below : (git common path rest : List ℕ) → path ≡ below git rest → length git ≡ root_of git common path
root_below git common path rest is =
    ap (λ b. if b then length git else length common) (sym (begins_true (below git []) path rest (is ∙ sym (append_assoc git (47 ∷ []) rest))))

pub root_elsewhere : (git common path : List ℕ) → (LiesIn path git → ⊥) → length common ≡ root_of git common path
root_elsewhere git common path outside =
    ap (λ b. if b then length git else length common) (sym (begins_false (below git []) path (λ rest is. outside (rest, is ∙ append_assoc git (47 ∷ []) rest))))
