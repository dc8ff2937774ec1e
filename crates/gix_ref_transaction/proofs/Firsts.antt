-- The first of a list that is at fault, one element on.
use Rattle.std.proofs.Common.{◌≡◌, inl, inr, ℕ, ◌+◌, ◌<◌, List, [], ◌∷◌, ◌++◌, length, take, drop, get_or, sym, ◌∙◌, ap, subst}
use Rattle.std.proofs.lemmas.List.{drop_more, take_more}
use Rattle.gix_ref_transaction.specs.First.{AllPass, FirstFault}

-- what is left of a list, where it begins with x
pub next_of : {X : Type 0} (xs : List X) (i : ℕ) (x : X) → i < length xs → x ≡ get_or xs i x → x ∷ drop (i + 1) xs ≡ drop i xs
next_of xs i x lt is = subst (λ s. s ∷ drop (i + 1) xs ≡ drop i xs) (sym is) (sym (drop_more xs i x lt))

-- what was seen of a list, and x
pub seen_of : {X : Type 0} (xs : List X) (i : ℕ) (x : X) → i < length xs → x ≡ get_or xs i x → take (i + 1) xs ≡ take i xs ++ x ∷ []
seen_of xs i x lt is = take_more xs i x lt ∙ ap (λ s. take i xs ++ s ∷ []) (sym is)

module _ {A E : Type 0} (Passes : List A → A → Type 0) (Fault : List A → A → E → Type 0) where
  -- the fault at x is the first of the rest
  pub fault_here : (xs : List A) (i : ℕ) (x : A) (error : E) → i < length xs → x ≡ get_or xs i x → Fault (take i xs) x error → FirstFault Passes Fault (take i xs) (drop i xs) error
  fault_here xs i x error lt is here = subst (λ l. FirstFault Passes Fault (take i xs) l error) (next_of xs i x lt is) (inl here)

  -- x passes, and then comes the first fault
  pub fault_later : (xs : List A) (i : ℕ) (x : A) (error : E) → i < length xs → x ≡ get_or xs i x → Passes (take i xs) x → FirstFault Passes Fault (take (i + 1) xs) (drop (i + 1) xs) error → FirstFault Passes Fault (take i xs) (drop i xs) error
  fault_later xs i x error lt is passes later =
      subst (λ l. FirstFault Passes Fault (take i xs) l error) (next_of xs i x lt is)
      (inr (passes, subst (λ l. FirstFault Passes Fault l (drop (i + 1) xs) error) (seen_of xs i x lt is) later))

  -- x passes, and so does what comes after
  pub pass_more : (xs : List A) (i : ℕ) (x : A) → i < length xs → x ≡ get_or xs i x → Passes (take i xs) x → AllPass Passes Fault (take (i + 1) xs) (drop (i + 1) xs) → AllPass Passes Fault (take i xs) (drop i xs)
  pass_more xs i x lt is passes later =
      subst (λ l. AllPass Passes Fault (take i xs) l) (next_of xs i x lt is)
      (passes, subst (λ l. AllPass Passes Fault l (drop (i + 1) xs)) (seen_of xs i x lt is) later)
