use Rattle.std.proofs.Common.{◌≡◌, List, None, take}
use Rattle.gix_ref_files.specs.ReadOnly.{OnlyReads}
use Rattle.gix_ref_hash.specs.declared.hash.Kind.{Kind}
use Rattle.gix_ref_target.specs.PackedRecords.{Record}
use Rattle.gix_ref_lookup.specs.Lookups.{AreAsked, AreHonest, AreStillAsked, IsReady}
use Rattle.gix_ref_theory.specs.OnRealTrees.{contents}
use Rattle.gix_ref_transaction.specs.Causes.{AllWithIds}
use Rattle.gix_ref_transaction.specs.internal.StuckRecords.{IsAskedId}
use Rattle.gix_ref_transaction.specs.PackedCauses.{ids_among}
use Rattle.gix_ref_transaction.specs.PrepareSteps.{setting_of, all_asked, ids_in, updates}
use Rattle.gix_ref_transaction.proofs.prepare.records.find_ids.Given as goal

-- the edits that were seen have their ids, among the same records
abbrev pub invariant-loop-edit : goal.invariant-loop-edit
invariant-loop-edit g l = record {
  ready : IsReady l.records;
  same : all_asked l.edits ≡ all_asked l.fn.edits;
  still : (kind : Kind) → AreStillAsked kind None l.fn.records l.records;
  reads : OnlyReads g.F.Files.honest g.F.Files.means g.F.Files.faults l.fn.files l.files;
  read : g.F.Files.honest → AreHonest l.fn.records → (kind : Kind) → AllWithIds (IsAskedId (setting_of l.settings) kind (contents g.F.Files.means l.fn.files) l.fn.records) (take l.edit-index (updates l.fn.edits)) (ids_in (take l.edit-index l.edits));
  found : (kind : Kind) (rs : List Record) → AreAsked kind None l.fn.records rs → ids_in (take l.edit-index l.edits) ≡ ids_among (setting_of l.settings) rs (take l.edit-index (updates l.fn.edits));
}
