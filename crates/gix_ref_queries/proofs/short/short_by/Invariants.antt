use Rattle.std.proofs.Common.{◌≡◌, List, ℕ, drop}
use Rattle.gix_ref_target.specs.PackedRecords.{Record}
use Rattle.gix_ref_queries.specs.Patterns.{texts}
use Rattle.gix_ref_queries.specs.Resolving.{targets_in}
use Rattle.gix_ref_queries.specs.Shortening.{IsAskedBy, SeesShortBy, short_by}
use Rattle.gix_ref_store.specs.Lookup.{AreRecordsIn, LooksUp}
use Rattle.gix_ref_queries.proofs.short.short_by.Given as goal

-- no prefix so far gives a short name
abbrev pub invariant-loop-prefix : goal.invariant-loop-prefix
invariant-loop-prefix g l =
    let F = g.F.Files in
    record {
      short : F.honest → (records : List Record) → AreRecordsIn F.means l.fn.store records → short_by (targets_in F.means l.fn.store records) l.fn.strict l.fn.name (texts l.fn.prefixes) ≡ short_by (targets_in F.means l.fn.store records) l.fn.strict l.fn.name (texts (drop l.prefix-index l.fn.prefixes));
      asked : F.honest → (records : List Record) → AreRecordsIn F.means l.fn.store records → (full : List ℕ) → IsAskedBy l.fn.strict l.fn.name (texts (drop l.prefix-index l.fn.prefixes)) (targets_in F.means l.fn.store records) full → IsAskedBy l.fn.strict l.fn.name (texts l.fn.prefixes) (targets_in F.means l.fn.store records) full;
      sees : F.honest → (short : List ℕ) → SeesShortBy F.means l.fn.store l.fn.strict l.fn.name (texts (drop l.prefix-index l.fn.prefixes)) short → SeesShortBy F.means l.fn.store l.fn.strict l.fn.name (texts l.fn.prefixes) short;
      unchanged : LooksUp F.honest F.means l.fn.store l.store;
    }
