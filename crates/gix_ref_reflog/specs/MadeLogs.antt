-- When a log that is missing is made, by its path below `logs/` (`core.logAllRefUpdates` of `git config`, and
-- `git update-ref --create-reflog`).
use Rattle.std.specs.Prelude.{ℕ, List, [], ◌∷◌, ◌++◌, Bool, true, false, ◌||◌, bytes_eq, codes, nat_eq, unwrap_or}
use Rattle.std.specs.List.{starts_with}
use Rattle.gix_ref_target.specs.Locations.{Location, location}
use Rattle.gix_ref_target.specs.Locations.Location.{Common, ThisWorktree, MainWorktree, LinkedWorktree}
use Rattle.gix_ref_reflog.specs.declared.write_reflog.WriteReflog.{WriteReflog}
use Rattle.gix_ref_reflog.specs.declared.write_reflog.WriteReflog.TheVariants.{Always, Normal, Disable}

-- the name under which a worktree keeps a reference: without `main-worktree/`, and without `worktrees/` and the worktree
abbrev pub location_name : Location → List ℕ
location_name (Common name) = name
location_name (ThisWorktree name) = name
location_name (MainWorktree name) = name
location_name (LinkedWorktree w name) = name

-- the path of a log below `logs/`: the namespace, and that name
abbrev pub below_logs : (namespace name : List ℕ) → List ℕ
below_logs namespace name = namespace ++ location_name (unwrap_or (location name) (Common name))

-- a path begins with these components
abbrev pub begins_with : (path components : List ℕ) → Bool
begins_with path components = bytes_eq path components
    || starts_with nat_eq path (components ++ 47 ∷ [])

-- the log of `HEAD`, a branch, a remote branch, a note, or a reference of a worktree
abbrev pub is_logged_by_default : (below : List ℕ) → Bool
is_logged_by_default below =
    bytes_eq below (codes "HEAD")
    || (begins_with below (codes "refs/heads")
    || (begins_with below (codes "refs/remotes")
    || (begins_with below (codes "refs/notes") || begins_with below (codes "refs/worktree"))))

-- such a log is made, and any other where all are, or where the edit forces it
abbrev pub makes_log : WriteReflog → (forced : Bool) → (below : List ℕ) → Bool
makes_log Always forced below = true
makes_log Normal forced below = forced || is_logged_by_default below
makes_log Disable forced below = false
