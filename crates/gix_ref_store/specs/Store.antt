-- A store as a value: what is where in it, and when none can be made.
use Rattle.std.specs.Prelude.{◌≡◌, true, false, Option, None, Vec, vec_items, ℕ, List}
use Rattle.std.specs.Option.{option_map}
use Rattle.std.specs.declared.alloc.Global.{Global}
use Rattle.gix_ref_hash.specs.declared.hash.Kind.{Kind}
use Rattle.gix_ref_target.specs.Layout.{Layout, AreCompatible}
use Rattle.gix_ref_lookup.specs.CleanPaths.{are_clean, common_of}
use Rattle.gix_ref_lookup.specs.StoreLayout.{folders_of, git_options}
use Rattle.gix_ref_theory.specs.Readings as readings
use Rattle.gix_ref_theory.specs.ConcreteStore.{store_of}
use Rattle.gix_ref_store.specs.declared.file.store.Store.{Store}
use Rattle.gix_ref_store.specs.declared.file.store.Error.{Error}
use Rattle.gix_ref_store.specs.declared.file.store.Error.TheVariants.{PathNotClean, FoldersMeet}
use Rattle.gix_ref_store.specs.declared.store.Options.{Options}

-- the files that a store keeps
abbrev pub files_of : {F : Type 0} → Store F → F
files_of store = store.files

-- its folders, with its namespace
abbrev pub folders : {F : Type 0} → Store F → Layout
folders store = folders_of store.dirs store.namespace

-- the common folder, where one was given
abbrev pub given_common : {F : Type 0} → Store F → Option (List ℕ)
given_common store = option_map vec_items store.dirs.common_dir

-- the kind of its ids
abbrev pub kind_of : {F : Type 0} → Store F → Kind
kind_of store = store.object_hash

-- where it keeps names and what it reads: loose files, and the records of `packed-refs`
abbrev pub meaning_of : {F : Type 0} → Store F → readings.Store
meaning_of store =
    store_of (folders store) (git_options (kind_of store) store.prohibit_windows_device_names)

-- the threshold that it keeps for its `packed-refs`
abbrev pub threshold_of : {F : Type 0} → Store F → ℕ
threshold_of store = store.packed_mmap_threshold

-- a store with other files
abbrev pub with_files : {F : Type 0} → Store F → F → Store F
with_files store files = record {
  write_reflog = store.write_reflog;
  namespace = store.namespace;
  prohibit_windows_device_names = store.prohibit_windows_device_names;
  precompose_unicode = store.precompose_unicode;
  files = files;
  dirs = store.dirs;
  object_hash = store.object_hash;
  packed_mmap_threshold = store.packed_mmap_threshold;
}

-- and one with another threshold
abbrev pub with_threshold : {F : Type 0} → Store F → ℕ → Store F
with_threshold store threshold = record {
  write_reflog = store.write_reflog;
  namespace = store.namespace;
  prohibit_windows_device_names = store.prohibit_windows_device_names;
  precompose_unicode = store.precompose_unicode;
  files = store.files;
  dirs = store.dirs;
  object_hash = store.object_hash;
  packed_mmap_threshold = threshold;
}

-- the same store, except for what its files hold
pub record IsSameStore {F : Type 0} (old new : Store F) : Type 0 where
  pub dirs : new.dirs ≡ old.dirs
  pub namespace : new.namespace ≡ old.namespace
  pub of_kind : kind_of new ≡ kind_of old
  pub reflogs : new.write_reflog ≡ old.write_reflog
  pub composes : new.precompose_unicode ≡ old.precompose_unicode
  pub prohibits : new.prohibit_windows_device_names ≡ old.prohibit_windows_device_names
  pub threshold : threshold_of new ≡ threshold_of old

-- a store that was made of this
pub record IsMade {F : Type 0} (files : F) (git_dir : Vec ℕ Global) (common_dir : Option
    (Vec ℕ Global)) (kind : Kind) (options : Options) (store : Store F) : Type 0 where
  pub files_are : files_of store ≡ files
  pub git : store.dirs.git_dir ≡ git_dir
  pub common : store.dirs.common_dir ≡ common_dir
  pub no_namespace : store.namespace ≡ None
  pub of_kind : kind_of store ≡ kind
  pub reflogs : store.write_reflog ≡ options.write_reflog
  pub composes : store.precompose_unicode ≡ options.precompose_unicode
  pub prohibits : store.prohibit_windows_device_names ≡ options.prohibit_windows_device_names
  pub threshold : threshold_of store ≡ 32768

-- there is a store in these folders
abbrev pub AreDirs : Vec ℕ Global → Option (Vec ℕ Global) → Type 0
AreDirs git common = (are_clean git common ≡ true) × AreCompatible git.items (common_of git common)

-- why no store can be made; the files are handed back
abbrev pub HasNoStore : {F : Type 0} → F → Vec ℕ Global → Option (Vec ℕ Global) → Error F → Type 0
HasNoStore files git common (PathNotClean back) = (back ≡ files) × (are_clean git common ≡ false)
HasNoStore files git common (FoldersMeet back) = (back ≡ files) × (are_clean git common ≡ true)
    × (AreCompatible git.items (common_of git common) → ⊥)
