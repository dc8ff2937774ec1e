-- Up to which folder the changes of a transaction are synced.
use Rattle.std.specs.Prelude.{◌≤◌, ℕ, List, [], ◌∷◌, ◌++◌, length, nat_eq, if◌then◌else◌}
use Rattle.std.specs.List.{starts_with}
use Rattle.gix_ref_files.specs.Tree.{Path, fronts}
use Rattle.gix_ref_files.specs.Settled.{SettlesPath, climb}
use Rattle.gix_ref_target.specs.Layout.{Layout, below}
use Rattle.gix_ref_theory.specs.ConcreteStore.{Options, store_of}

-- How long the root of a path is: the git folder for a path below it, else the common folder.
abbrev pub root_of : (git common : Path) → Path → ℕ
root_of git common path = if starts_with nat_eq path (below git []) then length git
    else length common

-- the roots, with all folders above them
abbrev pub roots : Layout → List Path
roots f = (fronts f.git ++ f.git ∷ []) ++ (fronts f.common ++ f.common ∷ [])

-- Where the roots stay, a place is settled by the syncs of its folders up to its root.
abbrev pub PlacesSettle : Type 0
PlacesSettle =
    (f : Layout) (o : Options) (name : List ℕ) → 1 ≤ length f.git → 1 ≤ length f.common →
    SettlesPath (roots f) ((store_of f o).place name)
    (climb ((store_of f o).place name) (root_of f.git f.common ((store_of f o).place name)))

-- and so are its log, and `packed-refs`
abbrev pub LogsSettle : Type 0
LogsSettle =
    (f : Layout) (o : Options) (name : List ℕ) → 1 ≤ length f.git → 1 ≤ length f.common →
    SettlesPath (roots f) ((store_of f o).log name)
    (climb ((store_of f o).log name) (root_of f.git f.common ((store_of f o).log name)))

abbrev pub PackedSettles : Type 0
PackedSettles =
    (f : Layout) (o : Options) → 1 ≤ length f.git → 1 ≤ length f.common →
    SettlesPath (roots f) (store_of f o).packed_path
    (climb (store_of f o).packed_path (root_of f.git f.common (store_of f o).packed_path))
