use Rattle.std.proofs.Common.{ℕ, ◌<◌}
use Rattle.std.specs.List.{All, slice_index_or}
use Rattle.gix_ref_files.specs.declared.files.Entry.{Entry}
use Rattle.gix_ref_theory.specs.Views.{View}
use Rattle.gix_ref_listing.specs.Walks.{AddsFolders, AddsOnlyFiles, AddsOnlyThere, IsFileOf, IsTaken, StaysFound}
use Rattle.gix_ref_listing.proofs.walk.Root.take_entries.Given as goal

-- the entries that were seen are taken
abbrev pub invariant-loop-entry : goal.invariant-loop-entry
invariant-loop-entry l = record {
  stays : StaysFound l.fn.found.entries l.found.entries;
  adds : AddsFolders l.fn.next.items l.next.items;
  taken : (k : ℕ) (d : Entry) → k < l.entry-index → IsTaken l.self l.folder l.found.entries l.next.items (slice_index_or l.entries k d);
  files : AddsOnlyFiles l.fn.found.entries l.found.entries;
  there : (view : View) → All (IsFileOf l.self view l.folder) l.entries → AddsOnlyThere l.self view l.fn.found.entries l.found.entries;
}
