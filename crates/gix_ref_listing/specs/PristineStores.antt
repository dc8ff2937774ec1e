-- A store as `git init` makes it: `HEAD` names a branch, and there is no reference.
use Rattle.std.specs.Prelude.{◌≡◌, ◌≢◌, ◌⊎◌, ℕ, List, Bool, true, false, Option, Some, None, codes}
use Rattle.std.specs.List.{All}
use Rattle.gix_ref_target.specs.Targets.{TargetValue, target_value}
use Rattle.gix_ref_target.specs.Targets.TargetValue.{symbolic_name}
use Rattle.gix_ref_files.specs.Files.{FaultCounts}
use Rattle.gix_ref_files.specs.Tree.{Tree, is_file}
use Rattle.gix_ref_theory.specs.OnRealTrees.{view_of}
use Rattle.gix_ref_theory.specs.Readings.{reading_of_loose}
use Rattle.gix_ref_theory.specs.Readings.Reading.{Is}
use Rattle.gix_ref_theory.specs.Views.{View}
use Rattle.gix_ref_lookup.specs.Lookups.{meaning_in, Among}
use Rattle.gix_ref_lookup.specs.declared.settings.Settings.{Settings}
use Rattle.gix_ref_listing.specs.LooseListings.{IsLooseListed, IsFileListed}
use Rattle.gix_ref_listing.specs.Walks.{FoundEntry, IsAnyMet, IsFile}
use Rattle.gix_ref_listing.specs.declared.found.Found.{Found}
use Rattle.gix_ref_listing.specs.declared.found.Found.TheVariants.{File, Unlisted}
use Rattle.gix_ref_listing.specs.declared.pristine.Reading.{Reading as Said}
use Rattle.gix_ref_listing.specs.declared.pristine.Reading.TheVariants as said

-- The file at a path is read as this target: it holds it, less the namespace, and has not the name of a device where these are
-- prohibited.
pub record ReadsAt (settings : Settings) (view : View) (path : List ℕ)
    (target : TargetValue) : Type 0 where
  pub bytes : List ℕ
  pub there : view path ≡ Some bytes
  pub holds : reading_of_loose (meaning_in settings)
      ((meaning_in settings).target_of bytes) ≡ Is target
  pub allowed : (meaning_in settings).is_prohibited path ≡ false

-- no target is read at a path
abbrev pub ReadsNone : Settings → View → (path : List ℕ) → Type 0
ReadsNone settings view path = (target : TargetValue) → ReadsAt settings view path target → ⊥

-- the path of `HEAD`
abbrev pub head_path : Settings → List ℕ
head_path settings = (meaning_in settings).place (codes "HEAD")

-- `HEAD` is symbolic to this name
abbrev pub HasHead : Settings → View → (name : List ℕ) → Type 0
HasHead settings view name = ReadsAt settings view (head_path settings) (symbolic_name name)

-- `HEAD` is read as another target than this name
abbrev pub HasOtherHead : Settings → View → (name : List ℕ) → Type 0
HasOtherHead settings view name = (target : TargetValue)
    × ReadsAt settings view (head_path settings) target × (target ≢ symbolic_name name)

-- a loose reference with the prefix whose file can be read
pub record HasLoose (settings : Settings) (view : View) (prefix : List ℕ) : Type 0 where
  pub name : List ℕ
  pub path : List ℕ
  pub target : TargetValue
  pub listed : IsFileListed settings view prefix name path
  pub reads : ReadsAt settings view path target

-- no such one: each name that a listing of the prefix gives has a file that cannot be read
abbrev pub HasNoLoose : Settings → View → (prefix : List ℕ) → Type 0
HasNoLoose settings view prefix =
    (name : List ℕ) → IsLooseListed settings view prefix name → (path : List ℕ)
    × IsFileListed settings view prefix name path × ReadsNone settings view path

-- the file `packed-refs` exists
abbrev pub has_packed_refs : Settings → Tree → Bool
has_packed_refs settings T = is_file (T (meaning_in settings).packed_path)

-- there is a `packed-refs`, or a loose reference with the prefix that can be read
abbrev pub HasReferences : Settings → Tree → (prefix : List ℕ) → Type 0
HasReferences settings T prefix = (has_packed_refs settings T ≡ true)
    ⊎ HasLoose settings (view_of T) prefix

-- there is neither
abbrev pub HasNoReferences : Settings → Tree → (prefix : List ℕ) → Type 0
HasNoReferences settings T prefix = (has_packed_refs settings T ≡ false)
    × HasNoLoose settings (view_of T) prefix

-- A store as `git init` makes it: `HEAD` is symbolic to this name, and there are no references.
abbrev pub IsPristine : Settings → Tree → (prefix name : List ℕ) → Type 0
IsPristine settings T prefix name = HasHead settings (view_of T) name
    × HasNoReferences settings T prefix

-- one that is not: `HEAD` is something else, or there are references
abbrev pub IsInUse : Settings → Tree → (prefix name : List ℕ) → Type 0
IsInUse settings T prefix name = HasOtherHead settings (view_of T) name
    ⊎ HasReferences settings T prefix

-- what is said by `Some(true)`, by `Some(false)` and by `None`
abbrev pub Says : (holds fails unknown : Type 0) → Option Bool → Type 0
Says holds fails unknown (Some true) = holds
Says holds fails unknown (Some false) = fails
Says holds fails unknown None = unknown

-- what is said of honest files: a question holds of them, or fails; nothing is said only where a fault was counted
abbrev pub SaysOfFiles : {F : Type 0} → (honest : Type 0) → (F → FaultCounts) → (before now : F) →
    (holds fails : Type 0) → Option Bool → Type 0
SaysOfFiles honest faults before now holds fails =
    Says (honest → holds) (honest → fails) (IsAnyMet (faults before) (faults now))

-- why nothing is said of `HEAD`: it is read as nothing, or a fault was counted
abbrev pub IsHeadUnknown : (honest : Type 0) → Settings → View → (before now : FaultCounts) → Type 0
IsHeadUnknown honest settings view before now =
    (honest → ReadsNone settings view (head_path settings)) ⊎ IsAnyMet before now

-- what is said of `HEAD`: that it is symbolic to this name, or that it is read as another target
abbrev pub SaysHead : (honest : Type 0) → Settings → View → (before now : FaultCounts) →
    (name : List ℕ) → Option Bool → Type 0
SaysHead honest settings view before now name =
    Says (honest → HasHead settings view name) (honest → HasOtherHead settings view name)
    (IsHeadUnknown honest settings view before now)

-- what is said of a store: that it is as `git init` makes it, or that it is in use
abbrev pub SaysPristine : (honest : Type 0) → Settings → Tree → (before now : FaultCounts) →
    (prefix name : List ℕ) → Option Bool → Type 0
SaysPristine honest settings T before now prefix name =
    Says (honest → IsPristine settings T prefix name) (honest → IsInUse settings T prefix name)
    (IsHeadUnknown honest settings (view_of T) before now)

-- what one file is read as
abbrev pub IsReading : Settings → View → (path : List ℕ) → Said → Type 0
IsReading settings view path (said.Is target) = ReadsAt settings view path (target_value target)
IsReading settings view path said.Nothing = ReadsNone settings view path
IsReading settings view path said.Fault = Unit {0}

-- what was found is a file that can be read
abbrev pub IsReadableFile : Settings → View → Found → Type 0
IsReadableFile settings view (File name path) = (target : TargetValue)
    × ReadsAt settings view path.items target
IsReadableFile settings view (Unlisted path error) = ⊥

-- or one that cannot
abbrev pub IsUnreadableFile : Settings → View → Found → Type 0
IsUnreadableFile settings view (File name path) = ReadsNone settings view path.items
IsUnreadableFile settings view (Unlisted path error) = ⊥

-- what was found is a file
abbrev pub IsFoundFile : Found → Type 0
IsFoundFile (File name path) = Unit {0}
IsFoundFile (Unlisted path error) = ⊥

-- one of the files that were found can be read
abbrev pub HasReadable : Settings → View → List FoundEntry → Type 0
HasReadable settings view = Among (λ e. IsReadableFile settings view e.1)

-- each is a file that cannot
abbrev pub AreUnreadable : Settings → View → List FoundEntry → Type 0
AreUnreadable settings view = All (λ e. IsUnreadableFile settings view e.1)

-- what is said of a file that was found, after others: that one can be read, or that none can; nothing is said only of a folder, or
-- where a fault was counted
abbrev pub SaysReadable : (honest : Type 0) → Settings → View → (before now : FaultCounts) → Found →
    (other : Bool) → Option Bool → Type 0
SaysReadable honest settings view before now found other =
    Says ((other ≡ true) ⊎ (honest → IsReadableFile settings view found))
    ((other ≡ false) × (honest → IsUnreadableFile settings view found))
    (IsFoundFile found → IsAnyMet before now)

-- and so of all that was found
abbrev pub SaysReadableAmong : (honest : Type 0) → Settings → View → (before now : FaultCounts) →
    List FoundEntry → Option Bool → Type 0
SaysReadableAmong honest settings view before now found =
    Says (honest → HasReadable settings view found) (honest → AreUnreadable settings view found)
    (All IsFile found → IsAnyMet before now)
