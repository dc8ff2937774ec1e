use Rattle.std.proofs.Common.{◌≡◌, take, drop}
use Rattle.std.specs.List.{list_all}
use Rattle.gix_ref_files.specs.Tree.{Path, is_folder, fronts, fronts_after, no_tree}
use Rattle.gix_ref_memory.specs.Changes.{after_changes}
use Rattle.gix_ref_memory.proofs.memory.changes.is_in_folders.Given as goal

-- each front so far is a folder
abbrev pub invariant-loop-i : goal.invariant-loop-i
invariant-loop-i l =
    list_all (λ (f : Path). is_folder (after_changes l.changes no_tree f)) (fronts_after (take l.i l.path) (drop l.i l.path)) ≡ list_all (λ (f : Path). is_folder (after_changes l.changes no_tree f)) (fronts l.path)
