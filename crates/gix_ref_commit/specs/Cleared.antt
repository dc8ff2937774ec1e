-- Empty folders: those in the way of what a commit writes, which are removed before each write, and those above what it removed.
use Rattle.std.specs.Prelude.{◌≡◌, ◌⊎◌, ◌<◌, AllPairs, IsSome, ℕ, suc, ◌+◌, List, [], ◌∷◌, ◌++◌, length, drop, map, Bool, true, false, Option, Some, None, codes, nat_eq, ◌==◌, if◌then◌else◌}
use Rattle.std.specs.List.{All, flat_map, starts_with}
use Rattle.gix_ref_target.specs.Layout.{LiesIn}
use Rattle.gix_ref_files.specs.Calls.{IsEntryName}
use Rattle.gix_ref_files.specs.Tree.{Tree, Path, is_file, is_folder}
use Rattle.gix_ref_files.specs.Tree.Content.{Folder}
use Rattle.gix_ref_files.specs.Files.{Meaning, disk_of, Passes}
use Rattle.gix_ref_files.specs.Disk.{Disk, Lost}
use Rattle.gix_ref_files.specs.Settled.{IsIn}
use Rattle.gix_ref_files.specs.Steps.{Step}
use Rattle.gix_ref_files.specs.Steps.Step.{Line, Rename, RemoveFolder}
use Rattle.gix_ref_files.specs.DiskSteps.Synced.{With}
use Rattle.gix_ref_lookup.specs.CleanPaths.{common_of}
use Rattle.gix_ref_lookup.specs.StoreLayout.{folders_of, root_in}
use Rattle.gix_ref_lookup.specs.declared.folders.Dirs.{Dirs}
use Rattle.gix_ref_packed_text.specs.declared.outcome.Rewrite.{Rewrite}
use Rattle.gix_ref_theory.specs.OnDisks.{IsAsBefore}
use Rattle.gix_ref_theory.specs.OnRealTrees.{view_of}
use Rattle.gix_ref_theory.specs.Roots.{roots}
use Rattle.gix_ref_transaction.specs.CommitRenames.{file_seen_at, is_no_folder_seen, log_seen_at}
use Rattle.gix_ref_transaction.specs.OwnLocks.{paths_of}
use Rattle.gix_ref_transaction.specs.declared.edit.Edit.{Edit}
use Rattle.gix_ref_transaction.specs.declared.edit.Effect.{Effect}
use Rattle.gix_ref_transaction.specs.declared.edit.Effect.TheVariants as effects
use Rattle.gix_ref_transaction.specs.declared.edit.LogEffect.{LogEffect}
use Rattle.gix_ref_transaction.specs.declared.edit.LogEffect.TheVariants as logs
use Rattle.gix_ref_commit.specs.Entries.{Entry, bare, planned_entries}
use Rattle.gix_ref_commit.specs.declared.folders.EmptyDirs.{EmptyDirs}
use Rattle.gix_ref_commit.specs.declared.plan.About.{About}
use Rattle.gix_ref_commit.specs.declared.plan.About.TheVariants as about

-- the git folder, the common folder, and the folders above them: none of these is ever removed
abbrev pub roots_of : Dirs → List Path
roots_of dirs = roots (folders_of dirs None)

-- a path is that of a folder, or lies in it
abbrev pub IsAtOrBelow : (folder path : Path) → Type 0
IsAtOrBelow folder path = (path ≡ folder) ⊎ ((rest : List ℕ) × (path ≡ folder ++ 47 ∷ rest))

-- the git folder or the common folder is there
abbrev pub IsOfStore : Dirs → Path → Type 0
IsOfStore dirs path = (path ≡ dirs.git_dir.items) ⊎ (path ≡ common_of dirs.git_dir dirs.common_dir)

-- more than empty folders is in a folder: a file, or a folder of the store
abbrev pub HoldsMore : Dirs → Tree → (folder : Path) → Type 0
HoldsMore dirs T folder = (path : Path) × IsAtOrBelow folder path
    × ((is_file (T path) ≡ true) ⊎ IsOfStore dirs path)

-- the path at which a step writes a file: a log, a loose file, or `packed-refs`
abbrev pub written_at : Step → Option Path
written_at (Line path bytes) = Some path
written_at (Rename from to) = Some to
written_at other = None

-- It was seen that no folder is at the path that a step about this writes: there was a loose file as its edit was compared, or no
-- folder as its line was decided.
abbrev pub is_seen : List Edit → About → Bool
is_seen edits (about.Rename at) = file_seen_at edits at
is_seen edits (about.Line at) = is_no_folder_seen (log_seen_at edits at)
is_seen edits other = false

-- nothing is in a folder but folders, which are among these
abbrev pub HoldsOnly : Tree → (folders : List Path) → (folder : Path) → Type 0
HoldsOnly T folders folder =
    is_folder (T folder) ≡ true → (name : List ℕ) → IsEntryName name →
    IsSome (T (folder ++ 47 ∷ name)) →
    (is_folder (T (folder ++ 47 ∷ name)) ≡ true) × IsIn (folder ++ 47 ∷ name) folders

-- The folder at a path and all that are below it, where nothing else is.
pub record AreAllFolders (T : Tree) (path : Path) (folders : List Path) : Type 0 where
  -- the one at the path is the last
  pub last : (others : List Path) × (folders ≡ others ++ path ∷ [])
  -- with each of them those in it, and it holds no file
  pub all : All (HoldsOnly T folders) folders
  -- each before the one that it lies in
  pub inner_first : AllPairs (λ earlier later. LiesIn later earlier → ⊥) folders

-- each path below this one that exists is that of an entry of a folder, as on every file system
abbrev pub HasEntries : Tree → (path : Path) → Type 0
HasEntries T path =
    (rest : List ℕ) → IsSome (T (path ++ 47 ∷ rest)) →
    (folder : Path) × (name : List ℕ) × (path ++ 47 ∷ rest ≡ folder ++ 47 ∷ name) × IsEntryName name
    × (is_folder (T folder) ≡ true)

-- What is removed before a file is written at a path, where it was seen that no folder is there, or not.
pub record AreInWay (dirs : Dirs) (T : Tree) (seen : Bool) (path : Path)
    (folders : List Path) : Type 0 where
  -- nothing but the folder there, and folders in it
  pub inside : All (IsAtOrBelow path) folders
  -- and no folder of the store, or above it
  pub outside : All (λ f. IsIn f (roots_of dirs) → ⊥) folders
  -- Either nothing is removed, and a folder there holds more than empty folders, unless it was seen that none is there: then none
  -- is sought. Or the folder there is removed, and all that are below it.
  pub none_or_all : ((folders ≡ []) × (seen ≡ false → is_folder (T path) ≡ true →
      HoldsMore dirs T path)) ⊎ AreAllFolders T path folders

-- and so for a step, which may write no file
abbrev pub AreInWayOf : Dirs → Tree → (seen : Bool) → Option Path → List Path → Type 0
AreInWayOf dirs T seen None folders = folders ≡ []
AreInWayOf dirs T seen (Some path) folders = AreInWay dirs T seen path folders

-- and for each step of a plan of these edits
abbrev pub AllInWay : List Edit → Dirs → Tree → List (List Path) → List Entry → Type 0
AllInWay edits dirs T [] [] = Unit {0}
AllInWay edits dirs T [] (e ∷ plan) = ⊥
AllInWay edits dirs T (fs ∷ folders) [] = ⊥
AllInWay edits dirs T (fs ∷ folders) (e ∷ plan) = AreInWayOf dirs T (is_seen edits e.1)
    (written_at (bare e.0)) fs × AllInWay edits dirs T folders plan

-- folders that are removed before a step, about which they are
abbrev pub removals : About → List Path → List Entry
removals for_step folders = map (λ (f : Path). (With (RemoveFolder f) [], for_step)) folders

-- a plan with the removals before each of its steps
abbrev pub cleared : List (List Path) → List Entry → List Entry
cleared [] plan = plan
cleared (fs ∷ folders) [] = []
cleared (fs ∷ folders) (e ∷ plan) = removals e.1 fs ++ e ∷ cleared folders plan

-- no plan has a removal for these folders before any of its steps
abbrev pub ClearsNothing : List (List Path) → Type 0
ClearsNothing folders = (plan : List Entry) → cleared folders plan ≡ plan

-- the paths of the folders before each step
abbrev pub folder_lists : List EmptyDirs → List (List Path)
folder_lists ways = map (λ (way : EmptyDirs). paths_of way.folders.items) ways

-- the steps of a commit, each after the removals of the folders that are in its way
abbrev pub commit_entries : Dirs → List Edit → Option Path → Rewrite → List EmptyDirs → List Entry
commit_entries dirs edits packed rewrite ways =
    cleared (folder_lists ways) (planned_entries dirs edits packed rewrite)

-- the log that is removed, and the loose file
abbrev pub removed_log : LogEffect → List Path
removed_log (logs.Remove log) = log.items ∷ []
removed_log logs.Keep = []
removed_log (logs.Append log line) = []

abbrev pub removed_file : Path → Effect → List Path
removed_file place effects.Remove = place ∷ []
removed_file place effects.Write = []
removed_file place effects.Keep = []

abbrev pub removed_by : Edit → List Path
removed_by e = removed_log e.log ++ removed_file e.lock e.effect

-- by all of these edits
abbrev pub all_removed : List Edit → List Path
all_removed edits = flat_map removed_by edits

-- the bytes of the first component of a path
abbrev pub first_component : List ℕ → ℕ
first_component [] = 0
first_component (c ∷ rest) = if c == 47 then 0 else suc (first_component rest)

-- How many bytes of a path, of which a folder of the store has so many, are those of a folder that stays although it is empty:
-- `logs`, or `refs` and one component more. Of all other paths every folder stays.
abbrev pub kept_below : (root : ℕ) → (path : Path) → (rest : List ℕ) → ℕ
kept_below root path rest =
    if starts_with nat_eq rest (codes "/logs/") then root + 5
    else if starts_with nat_eq rest (codes "/refs/") then root + (6 + first_component (drop 6 rest))
    else length path

abbrev pub kept_of : Dirs → Path → ℕ
kept_of dirs path = kept_below (root_in dirs path) path (drop (root_in dirs path) path)

-- It is a folder above one of these paths, below the one that stays.
abbrev pub IsAbove : Dirs → (paths : List Path) → Path → Type 0
IsAbove dirs [] q = ⊥
IsAbove dirs (path ∷ paths) q = ((rest : List ℕ) × (path ≡ q ++ 47 ∷ rest)
    × (kept_of dirs path < length q)) ⊎ IsAbove dirs paths q

-- Nothing has changed but that folders above these paths are gone, and none of the folders of the store.
abbrev pub FoldersGo : Dirs → (paths : List Path) → (before T : Tree) → Type 0
FoldersGo dirs paths before T =
    (q : Path) → (T q ≡ before q) ⊎ ((before q ≡ Some Folder) × (T q ≡ None) × IsAbove dirs paths q
    × (IsIn q (roots_of dirs) → ⊥))

-- All that was done is that such folders were removed: a disk that was as the one at the beginning, except for own locks, stays so.
abbrev pub OnlyFolders : Dirs → (old new : Meaning) → Type 0
OnlyFolders dirs old new =
    (locked staying : List Path) (first : Disk) →
    ((q : Path) → IsIn q staying → IsIn q (roots_of dirs)) →
    IsAsBefore locked staying first (disk_of old) → Passes old new (IsAsBefore locked staying first)

-- Each loss of power on the disk E leaves the files that one on the disk D leaves.
abbrev pub LosesNoMore : (D E : Disk) → Type 0
LosesNoMore D E = (T : Tree) → Lost E T → (U : Tree)
    × Lost D U × ((q : Path) → view_of T q ≡ view_of U q)
