-- The paths and the key of a name, computed. `Layout` has the rule as a table, and `PathsAreTheTable` says that the two agree.
use Rattle.std.specs.Prelude.{◌≡◌, ◌≢◌, ℕ, List, [], ◌∷◌, ◌++◌, Option, Some, None, Bool, false, if◌then◌else◌, ◌==◌, is_some, unwrap_or, codes}
use Rattle.std.specs.Option.{option_map}
use Rattle.gix_ref_name.specs.NameGrammar.{is_pseudo_byte}
use Rattle.gix_ref_target.specs.Layout.{Layout, RefPaths, ref_paths, in_common, common_log, in_git, git_log, linked_log, packed_key, is_private_ref}
use Rattle.std.specs.List.{list_all}

-- Which worktrees a name belongs to: all of them, this one, the main one, or the linked worktree `w`.
pub data Location : Type 0 where
  Common : (name : List ℕ) → Location
  ThisWorktree : (name : List ℕ) → Location
  MainWorktree : (name : List ℕ) → Location
  LinkedWorktree : (w name : List ℕ) → Location

-- the rest of a name that begins with this text
abbrev pub rest_after : List ℕ → List ℕ → Option (List ℕ)
rest_after [] name = Some name
rest_after (x ∷ front) [] = None
rest_after (x ∷ front) (y ∷ name) = if x == y then rest_after front name else None

-- what is before the first slash, and what after it
abbrev pub cut_at_slash : List ℕ → Option (List ℕ × List ℕ)
cut_at_slash [] = None
cut_at_slash (x ∷ name) = if x == 47 then Some ([], name)
    else option_map (λ parts. (x ∷ parts.0, parts.1)) (cut_at_slash name)

-- the location of a pseudo name or a name below `refs/`; `private` is its location if it is private
abbrev pub location_by : (List ℕ → Location) → List ℕ → Option Location
location_by private name =
    if list_all is_pseudo_byte name then Some (private name)
    else if is_some (rest_after (codes "refs/") name)
    then (if is_private_ref name then Some (private name) else Some (Common name))
    else None

-- after `worktrees/`: the worktree's name and the short name
abbrev pub location_in_linked : Option (List ℕ × List ℕ) → Option Location
location_in_linked None = None
location_in_linked (Some parts) = location_by (LinkedWorktree parts.0) parts.1

-- by what follows `worktrees/`, if the name begins with it
abbrev pub location_of_linked : Option (List ℕ) → Option Location
location_of_linked None = None
location_of_linked (Some rest) = location_in_linked (cut_at_slash rest)

-- by what follows `main-worktree/`, if the name begins with it
abbrev pub location_of_main : Option (List ℕ) → List ℕ → Option Location
location_of_main (Some short) name = location_by MainWorktree short
location_of_main None name = location_of_linked (rest_after (codes "worktrees/") name)

-- a location that is known already, else one of the main or a linked worktree
abbrev pub location_unless : Option Location → List ℕ → Option Location
location_unless (Some location) name = Some location
location_unless None name = location_of_main (rest_after (codes "main-worktree/") name) name

-- the location of a safe name; another name has none
abbrev pub location : List ℕ → Option Location
location name = location_unless (location_by ThisWorktree name) name

-- the name is safe
abbrev pub is_safe : List ℕ → Bool
is_safe name = is_some (location name)

-- the row of a location
abbrev pub row_of : Layout → Location → RefPaths
row_of f (Common n) = ref_paths (in_common f n) (common_log f n) (packed_key f n)
row_of f (ThisWorktree n) = ref_paths (in_git f n) (git_log f n) None
row_of f (MainWorktree s) = ref_paths (in_common f s) (common_log f s) None
row_of f (LinkedWorktree w s) = ref_paths (in_common f (codes "worktrees/" ++ (w ++ 47 ∷ s)))
    (linked_log f w s) None

-- the row of any name
abbrev pub paths_at : Layout → List ℕ → RefPaths
paths_at f name = row_of f (unwrap_or (location name) (Common name))

-- the layout without a namespace: its folders do not matter to a key
abbrev pub no_namespace : Layout
no_namespace = record { git = []; common = []; namespace = [] }

-- the key of a name outside of any namespace
abbrev pub key_outside : List ℕ → Option (List ℕ)
key_outside name = (paths_at no_namespace name).key

-- a name begins with a byte that is neither one of a pseudo name nor the first of `main-worktree/` or `worktrees/`
abbrev pub NoFrontOfCategory : List ℕ → Type 0
NoFrontOfCategory [] = ⊥
NoFrontOfCategory (b ∷ name) = (is_pseudo_byte b ≡ false) × (b ≢ 109) × (b ≢ 119)
