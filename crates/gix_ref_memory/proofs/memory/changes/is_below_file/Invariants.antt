use Rattle.std.proofs.Common.{◌≡◌, take, drop}
use Rattle.std.specs.List.{list_any}
use Rattle.gix_ref_files.specs.Tree.{Path, is_file, fronts, fronts_after, no_tree}
use Rattle.gix_ref_memory.specs.Changes.{after_changes}
use Rattle.gix_ref_memory.proofs.memory.changes.is_below_file.Given as goal

-- no front so far is a file
abbrev pub invariant-loop-i : goal.invariant-loop-i
invariant-loop-i l =
    list_any (λ (f : Path). is_file (after_changes l.changes no_tree f)) (fronts_after (take l.i l.path) (drop l.i l.path)) ≡ list_any (λ (f : Path). is_file (after_changes l.changes no_tree f)) (fronts l.path)
