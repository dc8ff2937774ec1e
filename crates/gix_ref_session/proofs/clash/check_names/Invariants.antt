use Rattle.std.proofs.Common.{List, take}
use Rattle.std.specs.List.{AllByRecursion}
use Rattle.gix_ref_queries.specs.Resolving.{targets_in}
use Rattle.gix_ref_store.specs.Lookup.{AreRecordsIn, LooksUp}
use Rattle.gix_ref_target.specs.PackedRecords.{Record}
use Rattle.gix_ref_session.specs.Clashes.{HasFreeFolders, IsClearEdit, ListsNone, SeesClearEdit, SeesFreeFolders}
use Rattle.gix_ref_session.proofs.clash.check_names.Given as goal

-- the edits so far are clear, and the folders of the last name free
abbrev pub invariant-loop-edit : goal.invariant-loop-edit
invariant-loop-edit g l =
    let F = g.F.Files in
    record {
      looked : LooksUp F.honest F.means l.fn.store l.store;
      clear : F.honest → (records : List Record) → AreRecordsIn F.means l.fn.store records → AllByRecursion (IsClearEdit (targets_in F.means l.fn.store records) l.edits (ListsNone F.honest F.means l.fn.store records)) (take l.edit-index l.edits);
      seen : F.honest → AllByRecursion (SeesClearEdit F.honest F.means F.faults l.fn.store l.edits) (take l.edit-index l.edits);
      seen_free : F.honest → SeesFreeFolders F.means l.fn.store l.edits l.last.items;
      free : F.honest → (records : List Record) → AreRecordsIn F.means l.fn.store records → HasFreeFolders (targets_in F.means l.fn.store records) l.edits l.last.items;
    }
