-- The layout of a store: its folders and its namespace; and what it reads.
use Rattle.std.specs.Prelude.{ℕ, List, [], Bool, ◌&&◌, Option, Some, None}
use Rattle.gix_ref_name.specs.Namespaces.{namespace_bytes}
use Rattle.gix_ref_name.specs.declared.namespace.Namespace.{Namespace}
use Rattle.gix_ref_hash.specs.declared.hash.Kind.{Kind}
use Rattle.gix_ref_lookup.specs.CleanPaths.{common_of}
use Rattle.gix_ref_name.specs.DeviceNames.{is_device}
use Rattle.gix_ref_target.specs.Layout.{Layout}
use Rattle.gix_ref_packed.specs.RecordsOfText.{records_of_text}
use Rattle.gix_ref_lookup.specs.LooseText.{target_in}
use Rattle.gix_ref_theory.specs.ConcreteStore.{Options}
use Rattle.gix_ref_theory.specs.Roots.{root_of}
use Rattle.gix_ref_lookup.specs.declared.folders.Dirs.{Dirs}

-- the text in front of names: the namespace, or nothing
abbrev pub namespace_text : Option Namespace → List ℕ
namespace_text None = []
namespace_text (Some namespace) = namespace_bytes namespace

-- the folders of a store, with its namespace
abbrev pub folders_of : Dirs → Option Namespace → Layout
folders_of dirs namespace = record {
  git = dirs.git_dir.items;
  common = common_of dirs.git_dir dirs.common_dir;
  namespace = namespace_text namespace;
}

-- how long the root of a path is, the folder up to which a change of it is synced
abbrev pub root_in : Dirs → List ℕ → ℕ
root_in dirs path = root_of dirs.git_dir.items (common_of dirs.git_dir dirs.common_dir) path

-- what a store of ids of this kind reads: loose files and the records of `packed-refs`; a store that prohibits device names
-- reads none of these
abbrev pub git_options : Kind → (prohibits : Bool) → Options
git_options kind prohibits = record {
  target_of = target_in kind;
  records_of = records_of_text kind;
  is_device = λ component. prohibits && is_device component;
}
