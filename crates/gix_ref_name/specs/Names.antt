-- The bytes of the four types of names, and what a conversion into each returns. Clauses of other crates speak of a
-- name through these words.
use Rattle.std.specs.Prelude.{◌≡◌, ◌⊎◌, ℕ, ◌∷◌, ◌++◌, List, Option, Some, None, Result, MatchResult}
use Rattle.gix_ref_hash.specs.Bytes.{NoByte}
use Rattle.gix_ref_name.specs.declared.name.error.Error.{Error}
use Rattle.gix_ref_name.specs.declared.name.FullNameRef.{FullNameRef}
use Rattle.gix_ref_name.specs.declared.name.PartialNameRef.{PartialNameRef}
use Rattle.gix_ref_name.specs.declared.name.FullName.{FullName}
use Rattle.gix_ref_name.specs.declared.name.PartialName.{PartialName}

abbrev pub full_ref_bytes : FullNameRef → List ℕ
full_ref_bytes n = n.bytes.now

abbrev pub partial_ref_bytes : PartialNameRef → List ℕ
partial_ref_bytes n = n.bytes.now

abbrev pub full_bytes : FullName → List ℕ
full_bytes n = n.bytes.items

abbrev pub partial_bytes : PartialName → List ℕ
partial_bytes n = n.bytes.items

-- a text becomes a name with its bytes exactly where it breaks no rule; else the error is the first rule broken
abbrev pub Converts : {N : Type 0} → (List ℕ → Option Error) → (N → List ℕ) → List ℕ →
    Result N Error → Type 0
Converts rules bytes text r = MatchResult r (λ n. (bytes n ≡ text) × (rules text ≡ None))
    (λ e. rules text ≡ Some e)

-- all after the last slash, or the whole name where it has none
pub record IsLastComponent (n c : List ℕ) : Type 0 where
  pub none : NoByte 47 c
  pub behind : (n ≡ c) ⊎ ((folder : List ℕ) × (n ≡ folder ++ 47 ∷ c))
