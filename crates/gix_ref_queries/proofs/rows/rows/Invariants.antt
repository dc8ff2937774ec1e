use Rattle.std.proofs.Common.{◌≡◌, List, take}
use Rattle.gix_ref_target.specs.PackedRecords.{Record}
use Rattle.gix_ref_store.specs.Lookup.{AreRecordsIn, LooksUp}
use Rattle.gix_ref_queries.specs.Resolving.{targets_in}
use Rattle.gix_ref_queries.specs.Rows.{SeesRows, row_texts, rows_of}
use Rattle.gix_ref_queries.proofs.rows.rows.Given as goal

-- the rows of the references so far
abbrev pub invariant-loop-reference : goal.invariant-loop-reference
invariant-loop-reference g l =
    let F = g.F.Files in
    record {
      rows : F.honest → (records : List Record) → AreRecordsIn F.means l.fn.store records → row_texts l.rows.items ≡ rows_of (targets_in F.means l.fn.store records) l.parts (take l.reference-index l.references);
      sees : F.honest → SeesRows F.means l.fn.store l.parts (take l.reference-index l.references) (row_texts l.rows.items);
      unchanged : LooksUp F.honest F.means l.fn.store l.store;
    }
