-- The search for empty folders.
use Rattle.std.specs.Prelude.{◌≡◌, ◌≢◌, ◌⊎◌, ℕ, List, [], ◌∷◌, ◌++◌, AllPairs, Bool, Contains, IsSome, false, true, map, None}
use Rattle.std.specs.List.{All}
use Rattle.gix_ref_target.specs.Layout.{LiesIn}
use Rattle.gix_ref_files.specs.Calls.{IsEntryName, entry_name}
use Rattle.gix_ref_files.specs.Files.{FaultCounts, IsMet}
use Rattle.gix_ref_files.specs.Settled.{IsIn}
use Rattle.gix_ref_files.specs.Tree.{Tree, Path, is_folder}
use Rattle.gix_ref_files.specs.declared.files.Entry.{Entry as FolderEntry}
use Rattle.gix_ref_files.specs.declared.files.FileError.{FileError}
use Rattle.gix_ref_files.specs.declared.files.FileError.TheVariants.{Memory as no_memory}
use Rattle.gix_ref_files.specs.declared.steps.Cause.TheVariants.{File}
use Rattle.gix_ref_lookup.specs.declared.folders.Dirs.{Dirs}
use Rattle.gix_ref_commit.specs.Cleared.{HoldsMore, HoldsOnly, IsAtOrBelow, roots_of, written_at}
use Rattle.gix_ref_commit.specs.Entries.{Entry, bare}
use Rattle.gix_ref_files.specs.Steps.{step_of}
use Rattle.gix_ref_files.specs.declared.steps.Planned.{Planned}
use Rattle.gix_ref_commit.specs.declared.plan.About.{About}
use Rattle.gix_ref_commit.specs.declared.run.Unfinished.{Unfinished}
use Rattle.gix_ref_commit.specs.declared.run.Unfinished.TheVariants.{Memory, Step}

-- a fault of files was counted; or memory was refused
abbrev pub IsCountedFault : (before now : FaultCounts) → FileError → Type 0
IsCountedFault before now error = (error ≡ no_memory) ⊎ IsMet error before now

-- folders at a path and in it, and none that leads to a folder of the store
pub record AreFolders (dirs : Dirs) (path : Path) (folders : List Path) : Type 0 where
  pub inside : All (IsAtOrBelow path) folders
  pub outside : All (λ f. IsIn f (roots_of dirs) → ⊥) folders

-- such folders were added
abbrev pub OnlyMore : Dirs → (path : Path) → (old new : List Path) → Type 0
OnlyMore dirs path old new = (more : List Path) × (new ≡ old ++ more) × AreFolders dirs path more

-- the search ended because more than empty folders is there
abbrev pub StopsFor : Dirs → Tree → (path : Path) → (all : Bool) → Type 0
StopsFor dirs T path all = all ≡ false → HoldsMore dirs T path

-- the folder of an entry was added, and the entry is no file
abbrev pub AddsFolder : (folder : Path) → FolderEntry → (old new : List Path) → Type 0
AddsFolder folder entry old new = (entry.is_folder ≡ true)
    × (new ≡ old ++ (folder ++ 47 ∷ entry_name entry) ∷ [])

-- and so of all entries
abbrev pub AddsAll : (folder : Path) → List FolderEntry → (old new : List Path) → Type 0
AddsAll folder entries old new = All (λ entry. entry.is_folder ≡ true) entries
    × (new ≡ old ++ map (λ entry. folder ++ 47 ∷ entry_name entry) entries)

-- All that is in a folder was added, and is folders.
pub record AddsFolders (T : Tree) (folder : Path) (old new : List Path) : Type 0 where
  pub names : List (List ℕ)
  pub are_names : All IsEntryName names
  pub added : new ≡ old ++ map (λ name. folder ++ 47 ∷ name) names
  pub each : is_folder (T folder) ≡ true → (name : List ℕ) → IsEntryName name → IsSome
      (T (folder ++ 47 ∷ name)) → (is_folder (T (folder ++ 47 ∷ name)) ≡ true) × Contains names name

-- Of the folders that were found each holds only others of them, and none lies in a later one.
pub record AreClosedFolders (T : Tree) (folders : List Path) : Type 0 where
  pub all : All (HoldsOnly T folders) folders
  pub outer_first : AllPairs (λ earlier later. LiesIn earlier later → ⊥) folders

-- the folder at a path, and then folders in it
abbrev pub IsWalked : Dirs → (path : Path) → List Path → Type 0
IsWalked dirs path folders = (rest : List Path) × (folders ≡ path ∷ rest)
    × AreFolders dirs path folders

-- Before a step that writes a file, the folder at its path could not be listed.
pub record IsUnlisted (plan : List Entry) (before now : FaultCounts) (fault : FileError)
    (step : Entry) : Type 0 where
  pub seen : List Entry
  pub rest : List Entry
  pub cut : plan ≡ seen ++ step ∷ rest
  pub writes : written_at (bare step.0) ≢ None
  pub counted : IsMet fault before now
  pub no_want : fault ≢ no_memory

-- why the search before this step ended
abbrev pub FailsBefore : Planned About → (before now : FaultCounts) → Unfinished → Type 0
FailsBefore planned before now Memory = Unit {0}
FailsBefore planned before now (Step about (File fault)) =
    (planned.about ≡ about) × (written_at (step_of planned.action) ≢ None) × IsMet fault before now
    × (fault ≢ no_memory)
FailsBefore planned before now (Step about cause) = ⊥

-- why the search ended
abbrev pub FailsToList : List Entry → (before now : FaultCounts) → Unfinished → Type 0
FailsToList plan before now Memory = Unit {0}
FailsToList plan before now (Step about (File fault)) = (step : Entry) × (step.1 ≡ about)
    × IsUnlisted plan before now fault step
FailsToList plan before now (Step about cause) = ⊥
