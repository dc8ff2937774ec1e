use Rattle.std.proofs.Common.{ℕ, List, ◌⊎◌}
use Rattle.std.specs.List.{All}
use Rattle.gix_ref_theory.specs.OnRealTrees.{view_of}
use Rattle.gix_ref_listing.specs.Walks.{AddsOnlyMet, AddsOnlyThere, Holds, IsBelow, IsFolderPath, IsLooseName, StaysFound}
use Rattle.gix_ref_listing.proofs.walk.Root.walk.Given as goal
use Rattle.gix_ref_lookup.specs.Lookups.{Among}
use Rattle.gix_ref_files.specs.ReadOnly.{OnlyReads}

-- each name is found, or is below a folder of the level that comes next
abbrev pub invariant-loop : goal.invariant-loop
invariant-loop g l =
    let F = g.F.Files in
    let view = view_of (F.means l.fn.files).tree in
    record {
      stays : StaysFound l.fn.found.entries l.found.entries;
      reaches : F.honest → (name : List ℕ) → IsLooseName l.self view name → Among (Holds name) l.found.entries ⊎ IsBelow l.folders.items name;
      paths : All (λ f. IsFolderPath f.items) l.folders.items;
      files : AddsOnlyMet (F.faults l.fn.files) (F.faults l.files) l.fn.found.entries l.found.entries;
      there : F.honest → AddsOnlyThere l.self view l.fn.found.entries l.found.entries;
      looks : OnlyReads F.honest F.means F.faults l.fn.files l.files;
    }
