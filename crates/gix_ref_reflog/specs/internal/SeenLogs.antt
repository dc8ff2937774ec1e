-- The logs that have a line due, as a set of paths.
use Rattle.std.specs.Prelude.{◌≡◌, ◌≤◌, ◌∷◌, ◌++◌, [], ℕ, List, Option, None, Some, true, length, map, Vec}
use Rattle.std.specs.declared.alloc.Global.{Global}
use Rattle.gix_ref_files.specs.Tree.{Path}
use Rattle.gix_ref_reflog.specs.declared.logs.DueLogs.{DueLogs}
use Rattle.gix_ref_transaction.specs.OwnLocks.{is_in}

-- the path that was added last, if there is one
abbrev pub last_path : Option (Vec ℕ Global) → List Path
last_path None = []
last_path (Some path) = path.items ∷ []

-- their paths
abbrev pub due_paths : DueLogs → List Path
due_paths logs = last_path logs.last ++ map (λ (p : Vec ℕ Global). p.items) logs.earlier.keys

-- none of their paths is shorter than is said
abbrev pub IsBounded : DueLogs → Type 0
IsBounded logs = (q : Path) → is_in (due_paths logs) q ≡ true → logs.shortest ≤ length q
