-- The loose references of a store that a listing gives, and what a walk of its folders found of them.
use Rattle.std.specs.Prelude.{◌≡◌, ◌≢◌, ◌⊎◌, ℕ, List, [], ◌∷◌, ◌++◌, IsSome}
use Rattle.gix_ref_hash.specs.Bytes.{BeginsWith}
use Rattle.gix_ref_target.specs.Layout.{below}
use Rattle.gix_ref_name.specs.NameGrammar.{IsPartialName}
use Rattle.gix_ref_name.specs.Names.{full_bytes}
use Rattle.gix_ref_files.specs.declared.files.FileError.TheVariants as faulty
use Rattle.gix_ref_theory.specs.Views.{View}
use Rattle.gix_ref_lookup.specs.Lookups.{meaning_in, name_asked}
use Rattle.gix_ref_lookup.specs.StoreLayout.{folders_of, namespace_text}
use Rattle.gix_ref_lookup.specs.declared.settings.Settings.{Settings}
use Rattle.gix_ref_listing.specs.Walks.{FoundEntry}
use Rattle.gix_ref_listing.specs.declared.found.Found.TheVariants.{File, Unlisted}

-- what comes before the names in a folder of a store: the folder, a slash and the namespace
abbrev pub front_in : Settings → (folder : List ℕ) → List ℕ
front_in settings folder = below folder (namespace_text settings.namespace.now)

-- that of the common folder or of the git folder
abbrev pub IsFront : Settings → List ℕ → Type 0
IsFront settings front =
    let f = folders_of settings.dirs.now settings.namespace.now in
    (front ≡ front_in settings f.common) ⊎ (front ≡ front_in settings f.git)

-- A valid name with the prefix whose own place is after this front.
pub record IsPlaced (settings : Settings) (prefix front name : List ℕ) : Type 0 where
  pub valid : IsPartialName name
  pub begins : BeginsWith name prefix
  pub own : (meaning_in settings).place name ≡ front ++ name

-- such a name, composed where names are composed, and a file is there
pub record LooseIn (settings : Settings) (view : View) (prefix front name : List ℕ) : Type 0 where
  pub placed : IsPlaced settings prefix front name
  pub composed : name_asked settings.precompose_unicode name ≡ name
  pub there : IsSome (view (front ++ name))

-- a name that a listing gives for its loose file
abbrev pub IsLooseListed : Settings → View → (prefix name : List ℕ) → Type 0
IsLooseListed settings view prefix name = (front : List ℕ) × IsFront settings front
    × LooseIn settings view prefix front name

-- A file is there, at this path. The name is the one that it has on disk, composed where names are composed.
pub record IsFileListed (settings : Settings) (view : View)
    (prefix name path : List ℕ) : Type 0 where
  pub front : List ℕ
  pub of : IsFront settings front
  pub placed : IsPlaced settings prefix front name
  pub disk : List ℕ
  pub at : path ≡ front ++ disk
  pub asked : name ≡ name_asked settings.precompose_unicode disk
  pub there : IsSome (view path)

-- what was found is a file of a name; or a folder that could not be listed, for a reason that is not want of memory
abbrev pub IsFoundIn : Settings → View → (prefix : List ℕ) → FoundEntry → Type 0
IsFoundIn settings view prefix (key, File name path) = (full_bytes name ≡ key.items)
    × IsFileListed settings view prefix key.items path.items
IsFoundIn settings view prefix (key, Unlisted path error) =
    (error ≢ faulty.Memory)
    × ((front : List ℕ) × IsFront settings front × (path.items ++ 47 ∷ [] ≡ front ++ key.items))
