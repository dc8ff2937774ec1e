-- The laws of files, for files in memory.
use Rattle.std.specs.Prelude.{◌≡◌, ℕ, List, length}
use Rattle.std.proofs.Common.{◌∙◌, ap, sym, subst}
use Rattle.gix_ref_files.specs.Tree.{Tree}
use Rattle.gix_ref_files.specs.Disk.{Disk, no_disk}
use Rattle.gix_ref_files.specs.Files.{disk_of, left_since}
use Rattle.gix_ref_memory.specs.Changes.{Found, replayed, replayed_tree, disk_is, meaning_after, now_is_found, only_now}
use Rattle.gix_ref_memory.specs.declared.memory.changes.Change.{Change}

-- the disk after all changes is found at each moment
pub disk_is_found : (changes : List Change) (t : ℕ) →
    Found changes t no_disk (disk_of (meaning_after changes))
disk_is_found changes t = subst (Found changes t no_disk) (sym (disk_is changes))
    (now_is_found changes t no_disk)

-- since the last moment there is no other
pub only_disk : (changes : List Change) (D : Disk) → Found changes (length changes) no_disk D →
    D ≡ disk_of (meaning_after changes)
only_disk changes D found = only_now changes no_disk D found ∙ sym (disk_is changes)

-- its tree is left at each moment
pub tree_is_left : (changes : List Change) (t : ℕ) →
    left_since (meaning_after changes) t (meaning_after changes).tree
unfolding left_since
tree_is_left changes t =
    (replayed changes no_disk, now_is_found changes t no_disk, replayed_tree changes no_disk)

-- and since the last moment no other
pub only_tree : (changes : List Change) (T : Tree) →
    left_since (meaning_after changes) (length changes) T → T ≡ (meaning_after changes).tree
unfolding left_since
only_tree changes T left = sym left.2 ∙ (ap (λ (D : Disk). D.tree)
    (only_now changes no_disk left.0 left.1) ∙ replayed_tree changes no_disk)
