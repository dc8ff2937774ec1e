-- A tree: what is at each path, and what each change makes of it.
use Rattle.std.specs.Prelude.{◌≡◌, ℕ, List, [], ◌∷◌, ◌++◌, Bool, true, false, Option, Some, None, if◌then◌else◌, ◌==◌, bytes_eq, is_some}
use Rattle.std.specs.List.{list_any, list_all}
use Rattle.gix_ref_files.specs.declared.files.Node.{Node}
use Rattle.gix_ref_files.specs.declared.files.Node.TheVariants.{File as a_file, Folder as a_folder, Nothing as nothing, Blocked as blocked}

-- what can be at a path: a file with its bytes, or a folder
pub data Content : Type 0 where
  File : (bytes : List ℕ) → Content
  Folder : Content

-- a path: bytes, parted by slashes
abbrev pub Path : Type 0
Path = List ℕ

-- what is at each path, if anything is
abbrev pub Tree : Type 0
Tree = Path → Option Content

-- nothing is anywhere
abbrev pub no_tree : Tree
no_tree p = None

-- the tree with this at one path, or with nothing there
abbrev pub put : Tree → Path → Option Content → Tree
put T p content q = if bytes_eq p q then content else T q

-- the bytes of a file; empty where there is no file
abbrev pub bytes_of : Option Content → List ℕ
bytes_of (Some (File bytes)) = bytes
bytes_of (Some Folder) = []
bytes_of None = []

-- the bytes of what is there, if it is a file
abbrev pub file_of : Option Content → Option (List ℕ)
file_of (Some (File bytes)) = Some bytes
file_of (Some Folder) = None
file_of None = None

-- a file is there
abbrev pub is_file : Option Content → Bool
is_file (Some (File bytes)) = true
is_file (Some Folder) = false
is_file None = false

-- a folder is there
abbrev pub is_folder : Option Content → Bool
is_folder (Some (File bytes)) = false
is_folder (Some Folder) = true
is_folder None = false

-- a file with these bytes more; all else as it is
abbrev pub more : Option Content → List ℕ → Option Content
more (Some (File old)) bytes = Some (File (old ++ bytes))
more (Some Folder) bytes = Some Folder
more None bytes = None

-- the file at p has these bytes more
abbrev pub appended : Tree → Path → List ℕ → Tree
appended T p bytes = put T p (more (T p) bytes)

-- what was at one path is at another
abbrev pub moved : Tree → Path → Path → Tree
moved T from to = put (put T from None) to (T from)

-- nothing is at p any more
abbrev pub removed : Tree → Path → Tree
removed T p = put T p None

-- the fronts that end at a slash of the second list, each with the first list before it
abbrev pub fronts_after : Path → List ℕ → List Path
fronts_after seen [] = []
fronts_after seen (c ∷ rest) = if c == 47 then seen ∷ fronts_after (seen ++ c ∷ []) rest
    else fronts_after (seen ++ c ∷ []) rest

-- The proper fronts of a path, the shortest first: what is before each slash. A slash at the very
-- beginning has no front before it, so an absolute path needs no folder for its root.
abbrev pub fronts : Path → List Path
fronts [] = []
fronts (c ∷ rest) = fronts_after (c ∷ []) rest

-- a file is at a proper front of p
abbrev pub is_blocked : Tree → Path → Bool
is_blocked T p = list_any (λ f. is_file (T f)) (fronts p)

-- folders are at all proper fronts of p
abbrev pub has_folders : Tree → Path → Bool
has_folders T p = list_all (λ f. is_folder (T f)) (fronts p)

-- A tree is well formed: every proper front of a path that exists is a folder.
abbrev pub IsShaped : Tree → Type 0
IsShaped T = (p : Path) → is_some (T p) ≡ true → has_folders T p ≡ true

-- The folders that lead to p, and p itself, the shortest first: the fronts of p with one slash more.
abbrev pub folders_to : Path → List Path
folders_to p = fronts (p ++ 47 ∷ [])

-- folders at all of these
abbrev pub with_folders : Tree → List Path → Tree
with_folders T [] = T
with_folders T (p ∷ ps) = with_folders (put T p (Some Folder)) ps

-- the result for what is at a path; where nothing is, a file may be in the path
abbrev pub node_of : Option Content → Bool → Node
node_of (Some (File bytes)) below_file = a_file
node_of (Some Folder) below_file = a_folder
node_of None true = blocked
node_of None false = nothing

-- what `kind` returns for a path
abbrev pub node_at : Tree → Path → Node
node_at T p = node_of (T p) (is_blocked T p)

-- a folder is at p, and nothing below it
abbrev pub IsEmptyFolder : Tree → Path → Type 0
IsEmptyFolder T p = (is_folder (T p) ≡ true) × ((name : List ℕ) → T (p ++ 47 ∷ name) ≡ None)
