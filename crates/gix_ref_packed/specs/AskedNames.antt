-- By which names a reference is asked for in packed references: the key of a name (`git worktree`), or the four full
-- names of a partial one (`gitrevisions`).
use Rattle.std.specs.Prelude.{ℕ, List, [], ◌∷◌, ◌++◌, Option, Some, None, if◌then◌else◌, codes}
use Rattle.gix_ref_target.specs.Locations.{key_outside}
use Rattle.gix_ref_target.specs.PackedRecords.{Record, record_named}
use Rattle.gix_ref_name.specs.Candidates.{is_full_ref_path}

-- the key alone, if there is one
abbrev pub key_alone : Option (List ℕ) → List (List ℕ)
key_alone None = []
key_alone (Some key) = key ∷ []

-- the name after each of the four fronts
abbrev pub four_names : List ℕ → List (List ℕ)
four_names p =
    (codes "refs/" ++ p) ∷ (codes "refs/tags/" ++ p) ∷ (codes "refs/heads/" ++ p)
    ∷ (codes "refs/remotes/" ++ p) ∷ []

-- the full names that a partial name asks for, in this order
abbrev pub asked_keys : List ℕ → List (List ℕ)
asked_keys p = if is_full_ref_path p then key_alone (key_outside p) else four_names p

-- one, or else another
abbrev pub or_else : Option Record → Option Record → Option Record
or_else None other = other
or_else (Some r) other = Some r

-- the record of the first of these names that has one
abbrev pub first_named : List (List ℕ) → List Record → Option Record
first_named [] rs = None
first_named (n ∷ names) rs = or_else (record_named n rs) (first_named names rs)
