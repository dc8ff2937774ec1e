use Rattle.std.proofs.Common.{refl}
use Rattle.gix_ref_transaction.specs.Packing.{OfFinder, ends_of, mode_in}
use Rattle.gix_ref_store.proofs.Preparing.{prepares}
use Rattle.gix_ref_store.proofs.file.transaction.Transaction+F+PackedRefs+T.prepare.Goals as goal

pub returns-in-Ok : goal.returns-in-Ok
returns-in-Ok g c =
    let F = g.F.Files in
    let held = c.in-Ok.held.edits in
    let e = c.in-Ok.ensures in
    let prepared = prepares F.honest F.means F.faults (OfFinder g.T.Find.claims c.args.self.packed_refs) (ends_of g.T.Find.meaning c.args.self.packed_refs) (mode_in c.args.self.packed_refs) c.args.self.store.now c.lock_or_hand_back.new.self c.args.edits.items held.len c.in-Ok.held.packed held.items c.deref_mut.result.now c.record_old_values.new.edits _
    c.deref_mut.ensures.value c.deref_mut.ensures.len e.held c.record_old_values.ensures.carried c.record_old_values.ensures.places c.record_old_values.ensures.parents c.record_old_values.ensures.effects c.record_old_values.ensures.files c.record_old_values.ensures.ids c.record_old_values.ensures.puts in (
      (refl, λ w. refl, tt),
      record {
        rests = tt;
        same_reference = refl;
        prepared = prepared;
        packed_refs = refl;
        edits = tt;
      },
    )
