-- Clean paths, the common folder, and the test of how the two folders lie.
use Rattle.std.specs.Prelude.{ℕ, List, [], Bool, false, not, ◌&&◌, ◌||◌, ◌==◌, is_none, bytes_eq, codes, Option, Some, None, Vec}
use Rattle.std.specs.List.{list_all, list_any}
use Rattle.std.specs.declared.alloc.Global.{Global}
use Rattle.gix_ref_hash.specs.Bytes.{is_empty, is_slash, components, without_front}
use Rattle.gix_ref_files.specs.Tree.{Path}
use Rattle.gix_ref_target.specs.Layout.{below}
use Rattle.gix_ref_target.specs.Locations.{rest_after}

-- a component of a clean path is not empty, and neither `.` nor `..`
abbrev pub is_clean_component : List ℕ → Bool
is_clean_component c = not (is_empty c) && not (bytes_eq c (codes "."))
    && not (bytes_eq c (codes ".."))

-- A clean path: no NUL, and clean components after one leading slash. So it is not empty, and has no slash at its end.
abbrev pub is_clean : Path → Bool
is_clean path = list_all (λ b. not (b == 0)) path
    && list_all is_clean_component (components (without_front (codes "/") path))

-- the common folder: the one that was given, else the git folder
abbrev pub common_of : Vec ℕ Global → Option (Vec ℕ Global) → Path
common_of git None = git.items
common_of git (Some common) = common.items

-- both folders are clean
abbrev pub are_clean : Vec ℕ Global → Option (Vec ℕ Global) → Bool
are_clean git common = is_clean git.items && is_clean (common_of git common)

-- what follows a folder in a path is `worktrees/` and one component
abbrev pub is_worktree_in : Option (List ℕ) → Bool
is_worktree_in None = false
is_worktree_in (Some worktree) = not (list_any is_slash worktree)

abbrev pub is_worktree : Option (List ℕ) → Bool
is_worktree None = false
is_worktree (Some rest) = is_worktree_in (rest_after (codes "worktrees/") rest)

-- `AreCompatible`, as a test
unfoldable pub are_compatible : Path → Path → Bool
are_compatible git common =
    bytes_eq git common
    || is_worktree (rest_after (below common []) git)
    || (is_none (rest_after (below common []) git) && is_none (rest_after (below git []) common))
