-- Why commands give no change.
use Rattle.std.proofs.Common.{◌≡◌, ◌⊎◌, inl, ℕ, List, Result, Ok, Err, IfErr, refl, sym, subst}
use Rattle.gix_ref_session.specs.Commands.{Ask}
use Rattle.gix_ref_session.specs.Edits.{IsNoChange, IsNoName, IsTargetIn}
use Rattle.gix_ref_session.specs.declared.fatal.Fatal.{Fatal}
use Rattle.gix_ref_session.specs.declared.fatal.Fatal.TheVariants.{Memory}

module _ {T : Type 0} (name : List ℕ) (ask : Ask) where
  -- one of its names gives no full name
  pub of_name : (text : List ℕ) → (text ≡ name) ⊎ IsTargetIn ask text → (r : Result T Fatal) → IfErr r (IsNoName text) → IfErr r (IsNoChange name ask)
  of_name text named (Ok v) is = tt
  of_name text named (Err fatal) is = record { text = text; named = named; breaks = is }

  -- there was no memory
  pub of_memory : (r : Result T Fatal) → IfErr r (λ fatal. fatal ≡ Memory) → IfErr r (IsNoChange name ask)
  of_memory (Ok v) is = tt
  of_memory (Err fatal) is = record { text = name; named = inl refl; breaks = subst (λ (f : Fatal). IsNoName name f) (sym is) tt }
