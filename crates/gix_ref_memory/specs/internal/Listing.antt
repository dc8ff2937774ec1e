-- A listing that is made entry by entry.
use Rattle.std.specs.Prelude.{◌≡◌, ◌≢◌, ◌∷◌, ◌++◌, List, ℕ, IsSome, All, Any, AllPairs}
use Rattle.gix_ref_files.specs.Tree.{Tree, Path}
use Rattle.gix_ref_files.specs.Calls.{IsEntryName, IsEntryOf, entry_name}
use Rattle.gix_ref_files.specs.declared.files.Entry.{Entry}

-- an entry has this name
abbrev pub IsListed : List Entry → List ℕ → Type 0
IsListed entries name = Any (λ entry. entry_name entry ≡ name) entries

-- some entries of the folder p, each once
pub record ListsSome (T : Tree) (p : Path) (entries : List Entry) : Type 0 where
  pub names : All (λ entry. IsEntryName (entry_name entry)) entries
  pub there : All (IsEntryOf T p) entries
  pub once : AllPairs (λ entry later. entry_name entry ≢ entry_name later) entries

-- the entries new are old ones, and perhaps one more with this name, which is listed in the end if something is there
pub record AddsEntries (T : Tree) (p : Path) (name : List ℕ) (old new : List Entry) : Type 0 where
  pub good : ListsSome T p old → ListsSome T p new
  pub here : IsSome (T (p ++ 47 ∷ name)) → IsListed new name
  pub others : (other : List ℕ) → IsListed old other → IsListed new other
