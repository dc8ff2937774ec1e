use Rattle.std.proofs.Common.{◌≡◌, inr, ap, refl}
use Rattle.gix_ref_packed.specs.OpenFiles.{HasReadFault}
use Rattle.gix_ref_transaction.specs.Packing.{OfFinder, ends_of, mode_in}
use Rattle.gix_ref_transaction.specs.OwnLocks.{paths_of}
use Rattle.gix_ref_transaction.specs.declared.prepare.error.Error.TheVariants.{Memory}
use Rattle.gix_ref_store.proofs.Preparing.{holds_given, refuses_given}
use Rattle.gix_ref_store.proofs.SplitRuns.{refused_unread}
use Rattle.gix_ref_store.proofs.file.store.Store.compose_and_lock.Goals as goal

pub returns-in-Ok-clause-held : goal.returns-in-Ok-clause-held
returns-in-Ok-clause-held g c =
    let F = g.F.Files in
    let e = c.check_and_lock.ensures in
    holds_given F.honest F.means F.faults (OfFinder g.T.Find.claims c.args.packed_refs.now) (ends_of g.T.Find.meaning c.args.packed_refs.now) (mode_in c.args.packed_refs.now) c.args.self.now c.check_and_lock.new.self c.args.edits.items c.in-Ok.asked.items c.in-Ok.ensures.asked c.check_and_lock.result
    e.splits e.parents e.held

pub returns-in-Ok-clause-refused : goal.returns-in-Ok-clause-refused
returns-in-Ok-clause-refused g c =
    let F = g.F.Files in
    refuses_given F.honest F.means F.faults (OfFinder g.T.Find.claims c.args.packed_refs.now) (ends_of g.T.Find.meaning c.args.packed_refs.now) (mode_in c.args.packed_refs.now) c.args.self.now c.check_and_lock.new.self c.args.edits.items c.in-Ok.asked.items c.in-Ok.ensures.asked (HasReadFault g.F.Reader.ReadAt.faults) c.check_and_lock.result c.check_and_lock.ensures.refused

pub returns-in-Err-clause-refused : goal.returns-in-Err-clause-refused
returns-in-Err-clause-refused g c =
    let F = g.F.Files in
    let old = c.args.self.now in
    let given = c.args.edits.items in
    let error = c.refused_before_locks.result.failure.error in
    let is : error ≡ Memory = c.refused_before_locks.ensures.error in
    let left = paths_of c.refused_before_locks.result.failure.locks_left.items in
    record {
      asked = given;
      composed = inr (is, refl);
      refuses = refused_unread F.honest (HasReadFault g.F.Reader.ReadAt.faults) F.means F.faults (OfFinder g.T.Find.claims c.args.packed_refs.now) (ends_of g.T.Find.meaning c.args.packed_refs.now) (mode_in c.args.packed_refs.now) old given error left is (ap paths_of c.refused_before_locks.ensures.none);
    }
