-- Changes that a call adds to those that there were.
use Rattle.std.specs.Prelude.{◌≡◌, List, Option, Some, None, Bool, true, Result, Ok, Err}
use Rattle.gix_ref_files.specs.Tree.{Tree, Path, no_tree, has_folders, fronts}
use Rattle.gix_ref_files.specs.Disk.{Disk}
use Rattle.gix_ref_files.specs.Files.{AddsDisks, disk_of}
use Rattle.gix_ref_memory.specs.Changes.{after_changes, meaning_after, MakingFrontsOn}
use Rattle.gix_ref_memory.specs.declared.memory.changes.Change.{Change}

-- the changes lead to this tree and this disk
pub record LeadTo (changes : List Change) (T : Tree) (D : Disk) : Type 0 where
  pub tree : after_changes changes no_tree ≡ T
  pub disk : disk_of (meaning_after changes) ≡ D

-- a fact for a call with no answer: it failed, or the tree allows none
abbrev pub IfNoAnswer : {T E : Type 0} → Result (Option T) E → Type 0 → Type 0
IfNoAnswer (Ok (Some answer)) P = Unit {0}
IfNoAnswer (Ok None) P = P
IfNoAnswer (Err error) P = P

-- all proper fronts of a path are made: folders lead to it, and each beginning of them could have been found
pub record MakesAllFronts (synced : Bool) (old new : List Change) (p : Path) : Type 0 where
  pub leads : has_folders (after_changes new no_tree) p ≡ true
  pub adds : AddsDisks (meaning_after old) (meaning_after new)
      (MakingFrontsOn synced (disk_of (meaning_after old)) (fronts p))
