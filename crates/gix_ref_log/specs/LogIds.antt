-- The ids of a reflog's line: 40 or 64 hex digits, and then a space.
use Rattle.std.specs.Prelude.{◌≡◌, ◌≢◌, ◌⊎◌, ◌<◌, ℕ, List, ◌∷◌, ◌++◌, length, slice_index}
use Rattle.gix_ref_hash.specs.Ids.{IsIdText}

-- an id and a space in front
abbrev pub IdFront : List ℕ → List ℕ → List ℕ → Type 0
IdFront text id rest = IsIdText id × (text ≡ id ++ 32 ∷ rest)

-- where the space after the id has to be: at 40 where one is there, else at 64
abbrev pub IsIdPlace : List ℕ → ℕ → Type 0
IsIdPlace text place =
    ((place ≡ 40) × (40 < length text) × (slice_index text 40 ≡ 32))
    ⊎ ((place ≡ 64) × (40 < length text → slice_index text 40 ≢ 32))
