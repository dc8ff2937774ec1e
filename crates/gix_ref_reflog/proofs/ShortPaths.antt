-- A path has none in its way that is as long as itself.
use Rattle.std.proofs.Common.{◌≡◌, ◌∷◌, ◌++◌, ◌≤◌, ◌+◌, ◌∙◌, ℕ, List, [], Bool, true, false, length, inl, inr, refl, ap, arith}
use Rattle.std.specs.Prelude.{◌||◌}
use Rattle.std.specs.List.{list_any}
use Rattle.std.proofs.lemmas.List.{length-append}
use Rattle.gix_ref_files.specs.Settled.{IsIn}
use Rattle.gix_ref_files.specs.Tree.{Path, fronts}
use Rattle.gix_ref_files.proofs.Settling.{front_splits}
use Rattle.gix_ref_transaction.specs.OwnLocks.{is_in}

none_of : (P : Path → Bool) (fs : List Path) → ((f : Path) → IsIn f fs → P f ≡ false) → list_any P fs ≡ false
none_of P [] all = refl
none_of P (f ∷ fs) all = ap (λ (b : Bool). b || list_any P fs) (all f (inl refl)) ∙ none_of P fs (λ g is. all g (inr is))

pub none_as_long : (due : List Path) (shortest : ℕ) (path : Path) → ((q : Path) → is_in due q ≡ true → shortest ≤ length q) → length path ≤ shortest → list_any (is_in due) (fronts path) ≡ false
none_as_long due shortest path bounded short = none_of (is_in due) (fronts path) (λ f is. by f (front_splits path f is) (is_in due f) refl)
  where
    by : (f : Path) → ((rest : List ℕ) × (path ≡ f ++ 47 ∷ rest)) → (b : Bool) → is_in due f ≡ b → is_in due f ≡ false
    by f split false e = e
    by f split true e =
        let longer : length path ≡ length f + length (47 ∷ split.0) = ap length split.1 ∙ length-append f (47 ∷ split.0) in
        absurd (omega (arith, longer, bounded f e, short))
