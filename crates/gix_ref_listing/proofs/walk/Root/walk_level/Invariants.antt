use Rattle.std.proofs.Common.{ℕ, List, ◌⊎◌, drop}
use Rattle.std.specs.List.{All}
use Rattle.gix_ref_theory.specs.OnRealTrees.{view_of}
use Rattle.gix_ref_listing.specs.Walks.{AddsOnlyMet, AddsOnlyThere, Holds, IsBelow, IsInnerPath, IsLooseName, StaysFound}
use Rattle.gix_ref_listing.proofs.walk.Root.walk_level.Given as goal
use Rattle.gix_ref_lookup.specs.Lookups.{Among}
use Rattle.gix_ref_files.specs.ReadOnly.{OnlyReads}

-- the names below the folders that were seen are found, or are below a folder of the next level
abbrev pub invariant-loop-folder : goal.invariant-loop-folder
invariant-loop-folder g l =
    let F = g.F.Files in
    let view = view_of (F.means l.fn.files).tree in
    record {
      stays : StaysFound l.fn.found.entries l.found.entries;
      reaches : F.honest → (name : List ℕ) → IsLooseName l.self view name → IsBelow l.folders name → Among (Holds name) l.found.entries ⊎ (IsBelow l.next.items name ⊎ IsBelow (drop l.folder-index l.folders) name);
      paths : All (λ f. IsInnerPath f.items) l.next.items;
      files : AddsOnlyMet (F.faults l.fn.files) (F.faults l.files) l.fn.found.entries l.found.entries;
      there : F.honest → AddsOnlyThere l.self view l.fn.found.entries l.found.entries;
      looks : OnlyReads F.honest F.means F.faults l.fn.files l.files;
    }
