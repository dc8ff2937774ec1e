-- What a partial name may be short for, in the order in which a lookup takes it (`gitrevisions`).
use Rattle.std.specs.Prelude.{ℕ, List, [], ◌∷◌, ◌++◌, Option, Some, None, Bool, ◌||◌, if◌then◌else◌, codes, nat_eq, map}
use Rattle.std.specs.List.{list_all, starts_with}
use Rattle.std.specs.Cmp.Lexicographic.{pointwise}
use Rattle.gix_ref_name.specs.NameGrammar.{is_pseudo_byte}

-- begins with `refs/`, `main-worktree/` or `worktrees/`
abbrev pub is_full_ref_path : List ℕ → Bool
is_full_ref_path p =
    starts_with nat_eq p (codes "refs/") || starts_with nat_eq p (codes "main-worktree/")
    || starts_with nat_eq p (codes "worktrees/")

-- has only bytes of a pseudo name
abbrev pub is_pseudo : List ℕ → Bool
is_pseudo p = list_all is_pseudo_byte p

-- what is put in front of a partial name, in turn
abbrev pub lookup_prefixes : List ℕ → List (List ℕ)
lookup_prefixes p =
    if is_pseudo p then [] ∷ codes "refs/" ∷ codes "refs/tags/" ∷ codes "refs/heads/"
    ∷ codes "refs/remotes/" ∷ []
    else if is_full_ref_path p then [] ∷ codes "tags/" ∷ codes "heads/" ∷ codes "remotes/" ∷ []
    else codes "refs/" ∷ codes "refs/tags/" ∷ codes "refs/heads/" ∷ codes "refs/remotes/" ∷ []

-- each front with the name after it
abbrev pub candidates : List ℕ → List (List ℕ)
candidates p = map (λ front. front ++ p) (lookup_prefixes p)

-- the `HEAD` of the remote that a partial name may be; `HEAD` itself is the name of none
abbrev pub remote_head : List ℕ → Option (List ℕ)
remote_head p =
    if pointwise nat_eq p (codes "HEAD") then None
    else if is_full_ref_path (p ++ codes "/HEAD") then Some (codes "remotes/" ++ (p ++ codes "/HEAD"))
    else Some (codes "refs/remotes/" ++ (p ++ codes "/HEAD"))
