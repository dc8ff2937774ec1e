-- The name under which a worktree keeps a reference follows from the paths of the reference.
use Rattle.std.proofs.Common.{◌≡◌, ℕ, suc, List, [], ◌∷◌, ◌++◌, refl, sym, ap, ◌∙◌, append_assoc, arith}
use Rattle.std.specs.Prelude.{codes}
use Rattle.gix_ref_target.specs.Layout.{Layout, RefPaths}
use Rattle.gix_ref_target.specs.Locations.{Location, row_of}
use Rattle.gix_ref_target.specs.Locations.Location.{Common, ThisWorktree, MainWorktree, LinkedWorktree}
use Rattle.gix_ref_reflog.specs.MadeLogs.{location_name}

first_of : List ℕ → ℕ
first_of [] = 0
first_of (x ∷ xs) = x

rest_of : List ℕ → List ℕ
rest_of [] = []
rest_of (x ∷ xs) = xs

-- what follows, where the fronts may differ and any text may come between
rest_same : (a b s t : List ℕ) → ((n : List ℕ) → a ++ (n ++ s) ≡ b ++ (n ++ t)) → s ≡ t
unfolding first_of rest_of
rest_same [] [] s t all = all []
rest_same [] (y ∷ b) s t all = absurd (omega (arith, ap first_of (all (suc y ∷ []))))
rest_same (x ∷ a) [] s t all = absurd (omega (arith, ap first_of (all (suc x ∷ []))))
rest_same (x ∷ a) (y ∷ b) s t all = rest_same a b s t (λ n. ap rest_of (all n))

-- a layout without folders
abbrev bare : List ℕ → Layout
bare namespace = record { git = []; common = []; namespace = namespace }

plain_same : (s t : List ℕ) → 47 ∷ (codes "logs/" ++ s) ≡ 47 ∷ (codes "logs/" ++ t) → s ≡ t
unfolding rest_of
plain_same s t same = ap (λ (l : List ℕ). rest_of (rest_of (rest_of (rest_of (rest_of (rest_of l)))))) same

-- the log of a linked worktree is not below `logs/`
clash : (s t : List ℕ) → 47 ∷ (codes "logs/" ++ s) ≡ 47 ∷ (codes "worktrees/" ++ t) → ⊥
unfolding first_of rest_of
clash s t same = absurd (omega (arith, ap (λ (l : List ℕ). first_of (rest_of l)) same))

-- after `/worktrees/`
behind : (s t : List ℕ) → 47 ∷ (codes "worktrees/" ++ s) ≡ 47 ∷ (codes "worktrees/" ++ t) → s ≡ t
unfolding rest_of
behind s t same = ap (λ (l : List ℕ). rest_of (rest_of (rest_of (rest_of (rest_of (rest_of (rest_of (rest_of (rest_of (rest_of (rest_of l))))))))))) same

linked_same : (w v s t : List ℕ) → ((n : List ℕ) → 47 ∷ (codes "worktrees/" ++ (w ++ 47 ∷ (codes "logs/" ++ (n ++ s)))) ≡ 47 ∷ (codes "worktrees/" ++ (v ++ 47 ∷ (codes "logs/" ++ (n ++ t))))) → s ≡ t
linked_same w v s t all = rest_same (w ++ (47 ∷ codes "logs/")) (v ++ (47 ∷ codes "logs/")) s t
    (λ n. append_assoc w (47 ∷ codes "logs/") (n ++ s) ∙ (behind _ _ (all n) ∙ sym (append_assoc v (47 ∷ codes "logs/") (n ++ t))))

pub own_name_is : (l r : Location) → ((f : Layout) → row_of f l ≡ row_of f r) → location_name l ≡ location_name r
own_name_is l r same = by l r (λ n. ap (λ (p : RefPaths). p.log) (same (bare n)))
  where
    by : (l r : Location) → ((n : List ℕ) → (row_of (bare n) l).log ≡ (row_of (bare n) r).log) → location_name l ≡ location_name r
    by (Common s) (Common t) logs = plain_same s t (logs [])
    by (Common s) (ThisWorktree t) logs = plain_same s t (logs [])
    by (Common s) (MainWorktree t) logs = plain_same s t (logs [])
    by (Common s) (LinkedWorktree v t) logs = absurd (clash _ _ (logs []))
    by (ThisWorktree s) (Common t) logs = plain_same s t (logs [])
    by (ThisWorktree s) (ThisWorktree t) logs = plain_same s t (logs [])
    by (ThisWorktree s) (MainWorktree t) logs = plain_same s t (logs [])
    by (ThisWorktree s) (LinkedWorktree v t) logs = absurd (clash _ _ (logs []))
    by (MainWorktree s) (Common t) logs = plain_same s t (logs [])
    by (MainWorktree s) (ThisWorktree t) logs = plain_same s t (logs [])
    by (MainWorktree s) (MainWorktree t) logs = plain_same s t (logs [])
    by (MainWorktree s) (LinkedWorktree v t) logs = absurd (clash _ _ (logs []))
    by (LinkedWorktree w s) (Common t) logs = absurd (clash _ _ (sym (logs [])))
    by (LinkedWorktree w s) (ThisWorktree t) logs = absurd (clash _ _ (sym (logs [])))
    by (LinkedWorktree w s) (MainWorktree t) logs = absurd (clash _ _ (sym (logs [])))
    by (LinkedWorktree w s) (LinkedWorktree v t) logs = linked_same w v s t logs

-- a log is below `logs/`, in some folder
pub ends_below : (f : Layout) (l : Location) → (folder : List ℕ) × ((row_of f l).log ≡ folder ++ (codes "/logs/" ++ (f.namespace ++ location_name l)))
ends_below f (Common name) = (f.common, refl)
ends_below f (ThisWorktree name) = (f.git, refl)
ends_below f (MainWorktree name) = (f.common, refl)
ends_below f (LinkedWorktree w name) = (
  f.common ++ (47 ∷ (codes "worktrees/" ++ w)),
  sym (append_assoc f.common (47 ∷ (codes "worktrees/" ++ w)) (codes "/logs/" ++ (f.namespace ++ name))),
)
