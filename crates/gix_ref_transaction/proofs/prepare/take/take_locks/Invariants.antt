use Rattle.gix_ref_files.specs.Files.{NoFewer}
use Rattle.std.proofs.Common.{◌≡◌}
use Rattle.gix_ref_transaction.specs.Packing.{mode_of_packing}
use Rattle.gix_ref_transaction.specs.PrepareSteps.{setting_of, all_given, ids_in, packed_ids, updates}
use Rattle.gix_ref_transaction.proofs.EditRounds.{Goes, Finds}
use Rattle.gix_ref_transaction.proofs.prepare.take.take_locks.Given as goal

-- the locks of the edits that were seen are taken, and the rest gives the result of all
abbrev pub invariant-loop-i : goal.invariant-loop-i
invariant-loop-i g l =
    let first = g.F.Files.means l.fn.files in
    let now = g.F.Files.means l.files in
    let s = setting_of l.settings in
    let kind = l.settings.kind in
    let all = updates l.fn.edits in
    record {
      no_fewer : NoFewer (g.F.Files.faults l.fn.files) (g.F.Files.faults l.files);
      same : all_given l.edits ≡ all_given l.fn.edits;
      counted : l.taken ≡ l.i;
      goes : g.F.Files.honest → Goes s kind all first l.i now;
      finds : g.F.Files.honest → ids_in l.fn.edits ≡ packed_ids s first.tree all → Finds s kind all first (mode_of_packing l.packing) l.i now l.edits;
    }
