-- What each call of files returns, what it makes of the tree, and what a stop in it could leave.
use Rattle.std.specs.Prelude.{◌≡◌, ◌≢◌, ◌⊎◌, ℕ, ◌+◌, ◌≤◌, List, [], ◌∷◌, ◌++◌, take, drop, length, Bool, true, false, Option, Some, None, Result, Ok, Err, IsSome, ◌||◌, Contains, All, Any, AllPairs, Vec}
use Rattle.std.specs.declared.alloc.Global.{Global}
use Rattle.gix_ref_files.specs.Tree.{Tree, Path, put, appended, moved, removed, node_at, bytes_of, is_file, is_folder, is_blocked, has_folders, folders_to, with_folders, IsEmptyFolder}
use Rattle.gix_ref_files.specs.Tree.Content.{File}
use Rattle.gix_ref_files.specs.declared.files.Entry.{Entry}
use Rattle.gix_ref_files.specs.declared.files.FileError.{FileError}
use Rattle.gix_ref_files.specs.declared.files.Node.{Node}
use Rattle.gix_ref_files.specs.declared.files.Node.TheVariants.{File as a_file}
use Rattle.gix_ref_files.specs.declared.files.Create.{Create}
use Rattle.gix_ref_files.specs.declared.files.Create.TheVariants.{Made, Standing, Blocked}
use Rattle.gix_ref_files.specs.declared.files.Rename.{Rename}
use Rattle.gix_ref_files.specs.declared.files.Rename.TheVariants.{Moved, FolderStands}

-- the tree is this one
abbrev pub Unchanged : Tree → Tree → Type 0
Unchanged before T = T ≡ before

-- the tree is the one before, or, only where this is allowed, the one after
abbrev pub BeforeOrAfter : Tree → Type 0 → Tree → Tree → Type 0
BeforeOrAfter before Allowed after T = (T ≡ before) ⊎ (Allowed × (T ≡ after))

-- what a read returns, and the bytes that it read where that is a file
abbrev pub Reads : Tree → Path → List ℕ → Node → Type 0
Reads T p bytes node = (node ≡ node_at T p) × (node ≡ a_file → bytes ≡ bytes_of (T p))

-- the buffer of a read with each result but `File`, and after an error
abbrev pub emptied : Result Node FileError → List ℕ → Type 0
emptied (Ok a_file) bytes = Unit {0}
emptied (Ok node) bytes = bytes ≡ []
emptied (Err error) bytes = bytes ≡ []

-- nothing is at p, and folders lead there
abbrev pub IsFree : Tree → Path → Type 0
IsFree T p = (T p ≡ None) × (has_folders T p ≡ true)

-- an empty file at p
abbrev pub created : Tree → Path → Tree
created T p = put T p (Some (File []))

-- the results of `create_new`, and the tree T that each leaves
abbrev pub Creates : Tree → Path → Tree → Create → Type 0
Creates before p T Made = IsFree before p × (T ≡ created before p)
Creates before p T Standing = IsSome (before p) × (T ≡ before)
Creates before p T Blocked = (is_blocked before p ≡ true) × (T ≡ before)

-- what a stop in `create_new` could leave
abbrev pub Creating : Tree → Path → Tree → Type 0
Creating before p = BeforeOrAfter before (IsFree before p) (created before p)

-- a file is at p or in its path
abbrev pub is_in_the_way : Tree → Path → Bool
is_in_the_way T p = is_file (T p) || is_blocked T p

-- the results of `make_folders`
abbrev pub MakesFolders : Tree → Path → Tree → Bool → Type 0
MakesFolders before p T true = (is_in_the_way before p ≡ false)
    × (T ≡ with_folders before (folders_to p))
MakesFolders before p T false = (is_in_the_way before p ≡ true) × (T ≡ before)

-- what a stop in `make_folders` could leave: a beginning of the folders, only where no file is in the way
abbrev pub MakingFolders : Tree → Path → Tree → Type 0
MakingFolders before p T = (T ≡ before) ⊎ ((is_in_the_way before p ≡ false)
    × ((n : ℕ) × (T ≡ with_folders before (take n (folders_to p)))))

-- the results of `append`
abbrev pub Appends : Tree → Path → List ℕ → Tree → Bool → Type 0
Appends before p bytes T true = (is_file (before p) ≡ true) × (T ≡ appended before p bytes)
Appends before p bytes T false = (is_file (before p) ≡ false) × (T ≡ before)

-- What a stop in `append` could leave: a beginning of the bytes. Where there is no file, that is the tree before.
abbrev pub Appending : Tree → Path → List ℕ → Tree → Type 0
Appending before p bytes T = (n : ℕ) × (T ≡ appended before p (take n bytes))

-- a file is at one path, and it can be moved to the other: no folder is there, and folders lead there
abbrev pub IsMovable : Tree → Path → Path → Type 0
IsMovable T from to = (is_file (T from) ≡ true) × (is_folder (T to) ≡ false)
    × (has_folders T to ≡ true)

-- the results of `rename`
abbrev pub Renames : Tree → Path → Path → Tree → Rename → Type 0
Renames before from to T Moved = IsMovable before from to × (T ≡ moved before from to)
Renames before from to T FolderStands = (is_file (before from) ≡ true)
    × (is_folder (before to) ≡ true) × (T ≡ before)

-- what a stop in `rename` could leave
abbrev pub Renaming : Tree → Path → Path → Tree → Type 0
Renaming before from to = BeforeOrAfter before (IsMovable before from to) (moved before from to)

-- the results of `remove_file`
abbrev pub RemovesFile : Tree → Path → Tree → Bool → Type 0
RemovesFile before p T true = (is_file (before p) ≡ true) × (T ≡ removed before p)
RemovesFile before p T false = (is_file (before p) ≡ false) × (T ≡ before)

-- what a stop in `remove_file` could leave
abbrev pub RemovingFile : Tree → Path → Tree → Type 0
RemovingFile before p = BeforeOrAfter before (is_file (before p) ≡ true) (removed before p)

-- the results of `remove_folder`
abbrev pub RemovesFolder : Tree → Path → Tree → Bool → Type 0
RemovesFolder before p T true = IsEmptyFolder before p × (T ≡ removed before p)
RemovesFolder before p T false = (IsEmptyFolder before p → ⊥) × (T ≡ before)

-- what a stop in `remove_folder` could leave
abbrev pub RemovingFolder : Tree → Path → Tree → Type 0
RemovingFolder before p = BeforeOrAfter before (IsEmptyFolder before p) (removed before p)

-- a name has a byte, and no slash
abbrev pub IsEntryName : List ℕ → Type 0
IsEntryName name = (name ≢ []) × (Contains name 47 → ⊥)

-- the name of an entry
abbrev pub entry_name : Entry → List ℕ
entry_name entry = entry.name.items

-- an entry says what is at its name: a file or a folder
abbrev pub IsEntryOf : Tree → Path → Entry → Type 0
IsEntryOf T p entry =
    let content = T (p ++ 47 ∷ entry_name entry) in
    (IsSome content × (entry.is_folder ≡ is_folder content))

-- The entries of the folder p: each name below it that exists, once, and no other.
pub record ListsFolder (T : Tree) (p : Path) (entries : List Entry) : Type 0 where
  pub names : All (λ entry. IsEntryName (entry_name entry)) entries
  pub there : All (IsEntryOf T p) entries
  pub each : (name : List ℕ) → IsEntryName name → IsSome (T (p ++ 47 ∷ name)) →
      Any (λ entry. entry_name entry ≡ name) entries
  pub once : AllPairs (λ entry later. entry_name entry ≢ entry_name later) entries

-- the results of `list`
abbrev pub Lists : Tree → Path → Option (Vec Entry Global) → Type 0
Lists T p None = is_folder (T p) ≡ false
Lists T p (Some entries) = (is_folder (T p) ≡ true) × ListsFolder T p entries.items

-- the bytes from a place on, which all have to be there
abbrev pub IsRead : List ℕ → ℕ → List ℕ → Type 0
IsRead bytes place got = (place + length got ≤ length bytes)
    × (got ≡ take (length got) (drop place bytes))

-- the results of `open`, by what the readers that it gives mean
abbrev pub Opens : {R : Type 0} → Type 0 → (R → List ℕ) → Tree → Path → Option R → Type 0
Opens honest bytes T p None = is_file (T p) ≡ false
Opens honest bytes T p (Some reader) = honest × (is_file (T p) ≡ true)
    × (bytes reader ≡ bytes_of (T p))
