use Rattle.std.proofs.Common.{◌≡◌, true, false, length}
use Rattle.std.specs.List.{All}
use Rattle.gix_ref_theory.specs.OnRealTrees.{view_of}
use Rattle.gix_ref_listing.specs.PlainSettings.{plain}
use Rattle.gix_ref_listing.specs.PristineStores.{IsReadableFile, IsUnreadableFile}
use Rattle.gix_ref_listing.specs.Walks.{FoundEntry, IsFile}
use Rattle.gix_ref_listing.proofs.pristine.any_readable.Given as goal
use Rattle.gix_ref_lookup.specs.Lookups.{Among}
use Rattle.gix_ref_files.specs.ReadOnly.{OnlyReads}

abbrev pub decreases-loop-one : goal.decreases-loop-one
decreases-loop-one g l = length l.found.entries

-- one that was taken can be read, or none of them can
abbrev pub invariant-loop-one : goal.invariant-loop-one
invariant-loop-one g l =
    let F = g.F.Files in
    let view = view_of (F.means l.fn.files).tree in
    record {
      some : l.any ≡ true → F.honest → Among (λ (e : FoundEntry). IsReadableFile (plain l.settings) view e.1) l.fn.found.entries;
      none : l.any ≡ false → F.honest → All (λ (e : FoundEntry). IsUnreadableFile (plain l.settings) view e.1) l.found.entries → All (λ (e : FoundEntry). IsUnreadableFile (plain l.settings) view e.1) l.fn.found.entries;
      has : F.honest → Among (λ (e : FoundEntry). IsReadableFile (plain l.settings) view e.1) l.found.entries → Among (λ (e : FoundEntry). IsReadableFile (plain l.settings) view e.1) l.fn.found.entries;
      files : All IsFile l.fn.found.entries → All IsFile l.found.entries;
      looks : OnlyReads F.honest F.means F.faults l.fn.files l.files;
    }
