use Rattle.std.proofs.Common.{◌≡◌, Bool, List, ℕ, drop}
use Rattle.gix_ref_target.specs.PackedRecords.{Record}
use Rattle.gix_ref_queries.specs.Resolving.{targets_in}
use Rattle.gix_ref_queries.specs.Rows.{row_texts}
use Rattle.gix_ref_queries.specs.Shortening.{IsAskedAmong, SeesClear, is_clear_among}
use Rattle.gix_ref_store.specs.Lookup.{AreRecordsIn, LooksUp}
use Rattle.gix_ref_queries.proofs.short.is_clear_among.Given as goal

-- none of the names so far decides it, so that those after them are asked for
abbrev pub invariant-loop-full : goal.invariant-loop-full
invariant-loop-full g l =
    let F = g.F.Files in
    record {
      clear : F.honest → (records : List Record) → AreRecordsIn F.means l.fn.store records → is_clear_among (targets_in F.means l.fn.store records) l.fn.strict l.fn.name (row_texts l.fn.names) ≡ is_clear_among (targets_in F.means l.fn.store records) l.fn.strict l.fn.name (row_texts (drop l.full-index l.fn.names));
      asked : F.honest → (records : List Record) → AreRecordsIn F.means l.fn.store records → (full : List ℕ) → IsAskedAmong l.fn.strict l.fn.name (row_texts (drop l.full-index l.fn.names)) (targets_in F.means l.fn.store records) full → IsAskedAmong l.fn.strict l.fn.name (row_texts l.fn.names) (targets_in F.means l.fn.store records) full;
      sees : F.honest → (clear : Bool) → SeesClear F.means l.fn.store l.fn.strict l.fn.name (row_texts (drop l.full-index l.fn.names)) clear → SeesClear F.means l.fn.store l.fn.strict l.fn.name (row_texts l.fn.names) clear;
      unchanged : LooksUp F.honest F.means l.fn.store l.store;
    }
