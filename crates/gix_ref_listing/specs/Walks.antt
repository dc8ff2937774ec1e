-- What a walk of a folder finds: the files of names, and the folders that could not be listed.
use Rattle.std.specs.Prelude.{◌≡◌, ◌≢◌, ◌⊎◌, ℕ, List, [], ◌∷◌, ◌++◌, Vec, IsSome, true, false, codes}
use Rattle.gix_ref_files.specs.Files.{FaultCounts, IsMet, NoFewer}
use Rattle.std.specs.List.{All}
use Rattle.std.specs.declared.alloc.Global.{Global}
use Rattle.gix_ref_hash.specs.Bytes.{BeginsWith, NoByte}
use Rattle.gix_ref_name.specs.NameGrammar.{IsPartialName}
use Rattle.gix_ref_name.specs.Names.{full_bytes}
use Rattle.gix_ref_files.specs.declared.files.Entry.{Entry as ListedEntry}
use Rattle.gix_ref_files.specs.declared.files.FileError.{FileError}
use Rattle.gix_ref_files.specs.declared.files.FileError.TheVariants as faulty
use Rattle.gix_ref_theory.specs.Views.{View}
use Rattle.gix_ref_lookup.specs.Lookups.{meaning_in, name_asked, Among}
use Rattle.gix_ref_listing.specs.declared.found.Found.{Found}
use Rattle.gix_ref_listing.specs.declared.found.Found.TheVariants.{File, Unlisted}
use Rattle.gix_ref_listing.specs.declared.walk.OwnFile.{OwnFile}
use Rattle.gix_ref_listing.specs.declared.walk.Root.{Root}

-- what comes before each name in its path: a path and a slash
abbrev pub IsRootPath : List ℕ → Type 0
IsRootPath path = (front : List ℕ) × (front ≢ []) × (path ≡ front ++ 47 ∷ [])

-- a name whose own place is in this folder: a valid partial name with the prefix
pub record IsOwnName (root : Root) (name : List ℕ) : Type 0 where
  pub valid : IsPartialName name
  pub begins : BeginsWith name root.prefix.now
  pub own : (meaning_in root.settings).place name ≡ root.path.now ++ name

-- and which is composed, where names are composed
abbrev pub IsListedName : Root → List ℕ → Type 0
IsListedName root name = IsOwnName root name
    × (name_asked root.settings.precompose_unicode name ≡ name)

-- and a file is there
abbrev pub IsLooseName : Root → View → List ℕ → Type 0
IsLooseName root view name = IsListedName root name × IsSome (view (root.path.now ++ name))

-- A file is there, at this path. The name is the one that it has on disk, composed where names are composed.
pub record IsFileOfName (root : Root) (view : View) (name path : List ℕ) : Type 0 where
  pub own : IsOwnName root name
  pub disk : List ℕ
  pub is : path ≡ root.path.now ++ disk
  pub asked : name ≡ name_asked root.settings.precompose_unicode disk
  pub there : IsSome (view path)

-- a file with this name on disk as the file of a name, at its path
abbrev pub IsOwnFile : Root → (disk : List ℕ) → OwnFile → Type 0
IsOwnFile root disk own =
    IsOwnName root (full_bytes own.name)
    × (full_bytes own.name ≡ name_asked root.settings.precompose_unicode disk)
    × (own.path.items ≡ root.path.now ++ disk)

-- what was found under a key: a file, and the key is its name; or a folder that could not be listed
abbrev pub FoundEntry : Type 0
FoundEntry = Vec ℕ Global × Found

-- the name was found, or it is in a folder that could not be listed
abbrev pub Holds : List ℕ → FoundEntry → Type 0
Holds name (key, File n path) = key.items ≡ name
Holds name (key, Unlisted path error) = BeginsWith name key.items

-- each name that has this was found
abbrev pub FindsEach : (List ℕ → Type 0) → List FoundEntry → Type 0
FindsEach Has found = (name : List ℕ) → Has name → Among (Holds name) found

-- what was found is there; want of memory is no reason for a folder
abbrev pub IsThere : Root → View → FoundEntry → Type 0
IsThere root view (key, File name path) = (full_bytes name ≡ key.items)
    × IsFileOfName root view key.items path.items
IsThere root view (key, Unlisted path error) = (error ≢ faulty.Memory)
    × (path.items ++ 47 ∷ [] ≡ root.path.now ++ key.items)

-- it is one of these, or it is there
abbrev pub IsThereOr : List FoundEntry → Root → View → FoundEntry → Type 0
IsThereOr others root view e = Among (λ o. o ≡ e) others ⊎ IsThere root view e

-- only such ones are added: where all were such before, all are such now
abbrev pub AddsOnly : {A : Type 0} → (A → Type 0) → (old new : List A) → Type 0
AddsOnly P old new = All P old → All P new

-- only what is there is added, whatever else was found before
abbrev pub AddsOnlyThere : Root → View → (old new : List FoundEntry) → Type 0
AddsOnlyThere root view old new = (others : List FoundEntry) →
    AddsOnly (IsThereOr others root view) old new

-- some fault was counted
abbrev pub IsAnyMet : (before now : FaultCounts) → Type 0
IsAnyMet before now = (error : FileError) × IsMet error before now

-- it is a file, or a folder that could not be listed by a fault that was counted
abbrev pub IsFileOrMet : (before now : FaultCounts) → FoundEntry → Type 0
IsFileOrMet before now (key, File name path) = Unit {0}
IsFileOrMet before now (key, Unlisted path error) = IsMet error before now

-- only files are added
abbrev pub AddsOnlyFiles : (old new : List FoundEntry) → Type 0
AddsOnlyFiles old new = (before now : FaultCounts) → AddsOnly (IsFileOrMet before now) old new

-- only files are added, and folders that could not be listed by a fault that was counted since `before`
abbrev pub AddsOnlyMet : (before now : FaultCounts) → (old new : List FoundEntry) → Type 0
AddsOnlyMet before now old new = (start : FaultCounts) → NoFewer start before →
    All (IsFileOrMet start before) old → All (IsFileOrMet start now) new

-- it is a file
abbrev pub IsFile : FoundEntry → Type 0
IsFile (key, File name path) = Unit {0}
IsFile (key, Unlisted path error) = ⊥

-- an entry of a folder is there, if it is a file
abbrev pub IsFileOf : Root → View → (folder : List ℕ) → ListedEntry → Type 0
IsFileOf root view folder entry = entry.is_folder ≡ false →
    IsSome (view (root.path.now ++ (folder ++ entry.name.items)))

-- each name that was found stays found
abbrev pub StaysFound : (old new : List FoundEntry) → Type 0
StaysFound old new = (name : List ℕ) → Among (Holds name) old → Among (Holds name) new

-- the path of an inner folder: it ends in a slash
abbrev pub IsInnerPath : List ℕ → Type 0
IsInnerPath folder = (front : List ℕ) × (folder ≡ front ++ 47 ∷ [])

-- the path of a folder below another one: nothing, or that of an inner folder
abbrev pub IsFolderPath : List ℕ → Type 0
IsFolderPath folder = (folder ≡ []) ⊎ IsInnerPath folder

-- the name is below one of these folders
abbrev pub IsBelow : List (Vec ℕ Global) → List ℕ → Type 0
IsBelow folders name = Among (λ folder. BeginsWith name folder.items) folders

-- Folders were added to those that are to be walked next: inner ones alone, and what was below one of them still is.
pub record AddsFolders (old new : List (Vec ℕ Global)) : Type 0 where
  pub stays : (name : List ℕ) → IsBelow old name → IsBelow new name
  pub inner : AddsOnly (λ (folder : Vec ℕ Global). IsInnerPath folder.items) old new

-- each name that is to be listed below this folder of a folder is below one that is to be walked next
abbrev pub LeadsInto : Root → (folder component : List ℕ) → (next : List (Vec ℕ Global)) → Type 0
LeadsInto root folder component next = NoByte 47 component → IsFolderPath folder →
    (name : List ℕ) → IsListedName root name →
    BeginsWith name (folder ++ (component ++ codes "/")) → IsBelow next name

-- An entry of a folder was looked at: a file is found, where it is the file of a name; and a folder is to be walked, where names
-- may be in it.
pub record IsTaken (root : Root) (folder : List ℕ) (found : List FoundEntry)
    (next : List (Vec ℕ Global)) (entry : ListedEntry) : Type 0 where
  pub file : entry.is_folder ≡ false → IsListedName root (folder ++ entry.name.items) →
      Among (Holds (folder ++ entry.name.items)) found
  pub leads : entry.is_folder ≡ true → LeadsInto root folder entry.name.items next

-- Of the names that are to be listed and have this, each is found, is in a folder that could not be listed, or is below one
-- that is to be walked.
abbrev pub Reaches : Root → View → (List ℕ → Type 0) → List FoundEntry →
    List (Vec ℕ Global) → Type 0
Reaches root view Has found next = (name : List ℕ) → IsLooseName root view name → Has name →
    Among (Holds name) found ⊎ IsBelow next name
