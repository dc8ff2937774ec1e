use Rattle.std.proofs.Common.{drop, List, ℕ, ◌∷◌, ◌++◌, IsSome}
use Rattle.gix_ref_files.specs.Tree.{no_tree}
use Rattle.gix_ref_memory.specs.Changes.{after_changes, IsChangedPath}
use Rattle.gix_ref_memory.proofs.memory.listing.has_below.Given as goal

-- what is below the path, a later change puts there
abbrev pub invariant-loop-change : goal.invariant-loop-change
invariant-loop-change l = (rest : List ℕ) → IsSome (after_changes l.changes no_tree (l.path ++ 47 ∷ rest)) → IsChangedPath (drop l.change-index l.changes) (l.path ++ 47 ∷ rest)
