-- The listing of pseudo references: `HEAD`, `FETCH_HEAD`, `ORIG_HEAD` and the like (`git for-each-ref --include-root-refs`).
use Rattle.std.specs.Prelude.{◌≡◌, ◌≢◌, ◌&&◌, ℕ, List, [], ◌∷◌, ◌++◌, Bool, true, not, codes, nat_eq}
use Rattle.std.specs.List.{AllByRecursion, ends_with, list_any}
use Rattle.gix_ref_hash.specs.Bytes.{is_slash}
use Rattle.gix_ref_name.specs.Names.{full_bytes}
use Rattle.gix_ref_files.specs.Files.{FaultCounts}
use Rattle.gix_ref_files.specs.declared.files.FileError.TheVariants as faulty
use Rattle.gix_ref_theory.specs.Views.{View}
use Rattle.gix_ref_lookup.specs.StoreLayout.{folders_of}
use Rattle.gix_ref_lookup.specs.declared.settings.Settings.{Settings}
use Rattle.gix_ref_listing.specs.Walks.{FoundEntry}
use Rattle.gix_ref_listing.specs.LooseListings.{front_in, LooseIn, IsFileListed}
use Rattle.gix_ref_listing.specs.Listings.{Listed}
use Rattle.gix_ref_listing.specs.Listings.Listed.{Walked, InPacked}
use Rattle.gix_ref_listing.specs.WholeListings.{Rises, IsLooseOf, IsNameOrMet}
use Rattle.gix_ref_listing.specs.Steps.{AreYet}
use Rattle.gix_ref_listing.specs.declared.found.Found.TheVariants.{File, Unlisted}
use Rattle.gix_ref_listing.specs.declared.merge.Merge.{Merge}
use Rattle.gix_ref_lookup.specs.Lookups.{Among}

-- a name without a slash that ends with `HEAD`
abbrev pub is_head_file : List ℕ → Bool
is_head_file name = ends_with nat_eq name (codes "HEAD") && not (list_any is_slash name)

-- what was found under a key is the file of such a name, or a folder that could not be listed
abbrev pub is_kept : FoundEntry → Bool
is_kept (key, File name path) = is_head_file key.items
is_kept (key, Unlisted path error) = true

-- what comes before such names: the git folder and a slash, and in a namespace its folder there
abbrev pub git_front : Settings → List ℕ
git_front settings = front_in settings (folders_of settings.dirs.now settings.namespace.now).git

-- such a name whose own place is directly in that folder, and a file is there
abbrev pub IsPseudoListed : Settings → View → (name : List ℕ) → Type 0
IsPseudoListed settings view name = (is_head_file name ≡ true)
    × LooseIn settings view [] (git_front settings) name

-- the file at this path is the one of such a name
pub record IsPseudoFile (settings : Settings) (view : View) (name path : List ℕ) : Type 0 where
  pub is : is_head_file name ≡ true
  pub file : IsFileListed settings view [] name path
  pub in_git : file.front ≡ git_front settings

-- what was found is such a file; or a folder that could not be listed, for a reason that is not want of memory
abbrev pub IsPseudoFound : Settings → View → FoundEntry → Type 0
IsPseudoFound settings view (key, File name path) = (full_bytes name ≡ key.items)
    × IsPseudoFile settings view key.items path.items
IsPseudoFound settings view (key, Unlisted path error) = (error ≢ faulty.Memory)
    × (path.items ++ 47 ∷ [] ≡ git_front settings ++ key.items)

-- and no record is among them
abbrev pub IsPseudoItem : Settings → View → Listed → Type 0
IsPseudoItem settings view (Walked e) = IsPseudoFound settings view e
IsPseudoItem settings view (InPacked own) = ⊥

-- The listing of the pseudo references: ascending, so each name once; each of them, unless the folder could not be listed; and
-- nothing else.
pub record IsPseudoListing (settings : Settings) (view : View) (listed : List Listed) : Type 0 where
  pub ascending : Rises listed
  pub each : (name : List ℕ) → IsPseudoListed settings view name → Among (IsLooseOf name) listed
  pub only : AllByRecursion (IsPseudoItem settings view) listed

-- What is yet to come is that listing. A folder is in it only with a fault that was counted.
pub record ListsPseudo (settings : Settings) (view : View) (before now : FaultCounts)
    (m : Merge) : Type 0 where
  pub listed : List Listed
  pub is : IsPseudoListing settings view listed
  pub names : AllByRecursion (IsNameOrMet before now) listed
  pub yet : AreYet settings m listed
