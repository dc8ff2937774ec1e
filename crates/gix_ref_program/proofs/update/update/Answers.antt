use Rattle.std.proofs.Common.{rules, ◌≡◌, None, IfSome}
use Rattle.gix_ref_files.specs.Files.{Leaves, Loses}
use Rattle.gix_ref_object.specs.contracts.object.NeverFind.TheImpl.{claims-value, meaning-value}
use Rattle.gix_ref_transaction.specs.Packing.{OfFinder, ends_of, mode_in}
use Rattle.gix_ref_transaction.specs.OwnLocks.{paths_of}
use Rattle.gix_ref_store.specs.CommitResult.{left_of}
use Rattle.gix_ref_packed.specs.OpenFiles.{HasReadFault}
use Rattle.gix_ref_store.specs.Prepared.{PreparesGiven, HasGoodRecords, RefusesGiven, IsAtRest}
use Rattle.gix_ref_store.specs.Store.{files_of}
use Rattle.gix_ref_program.specs.Updates.{UpdateMade, IsStopOf, IsLossOf, IsUpdateError}
use Rattle.gix_ref_store.proofs.SameStores.{at_same}
use Rattle.gix_ref_program.proofs.Updating.{refused_stops, refused_loses, done, told, stops, loses, settles, goods}
use Rattle.gix_ref_program.proofs.update.update.Goals as goal

pub returns-in-Ok-clause-done : goal.returns-in-Ok-clause-done
returns-in-Ok-clause-done g c =
    let F = g.F.Files in
    let old = c.args.store.now in
    let mid = c.in-Ok.prepared.store.now in
    let new = c.commit.new.self.0 in
    let edits = c.args.edits.items in
    let packed = c.in-Ok.prepared.plan.packed in
    let held = c.in-Ok.prepared.plan.edits.items in
    let left = paths_of c.report_of_commit.result.locks_left.items in
    let from : PreparesGiven F.honest F.means F.faults (OfFinder claims-value.it c.args.packed_refs) (ends_of meaning-value.it c.args.packed_refs) (mode_in c.args.packed_refs) old mid edits packed held = rw (c.packed_refs.ensures.packed_refs, c.packed_refs.ensures.value, c.transaction.ensures.value) at c.in-Ok.ensures.prepared in
    at_same (λ now. c.report_of_commit.result.error ≡ None → UpdateMade F.honest F.means F.faults c.args.packed_refs old now c.args.committer edits left) {x = c.store-in-Ok-1.given.0} {y = new} (search rules)
    (done F.honest F.means F.faults old mid new c.args.committer edits packed held c.args.packed_refs from c.commit.result c.report_of_commit.result.error left c.report_of_commit.ensures.error c.report_of_commit.ensures.left c.commit.ensures.committed c.commit.ensures.safe c.commit.ensures.kept)

pub returns-in-Ok-clause-error : goal.returns-in-Ok-clause-error
returns-in-Ok-clause-error g c =
    let F = g.F.Files in
    let old = c.args.store.now in
    let mid = c.in-Ok.prepared.store.now in
    let new = c.commit.new.self.0 in
    let edits = c.args.edits.items in
    let packed = c.in-Ok.prepared.plan.packed in
    let held = c.in-Ok.prepared.plan.edits.items in
    let left = paths_of c.report_of_commit.result.locks_left.items in
    let from : PreparesGiven F.honest F.means F.faults (OfFinder claims-value.it c.args.packed_refs) (ends_of meaning-value.it c.args.packed_refs) (mode_in c.args.packed_refs) old mid edits packed held = rw (c.packed_refs.ensures.packed_refs, c.packed_refs.ensures.value, c.transaction.ensures.value) at c.in-Ok.ensures.prepared in
    at_same (λ now. IfSome c.report_of_commit.result.error (λ error. IsUpdateError F.honest F.means F.faults c.args.packed_refs (HasReadFault g.F.Reader.ReadAt.faults) old now c.args.committer edits error left)) {x = c.store-in-Ok-1.given.0} {y = new} (search rules)
    (told F.honest F.means F.faults old mid new c.args.committer edits packed held c.args.packed_refs from (HasReadFault g.F.Reader.ReadAt.faults) c.commit.result c.report_of_commit.result.error left c.report_of_commit.ensures.error c.report_of_commit.ensures.left c.commit.ensures.failed c.commit.ensures.safe c.commit.ensures.kept)

pub returns-in-Ok-clause-leaves : goal.returns-in-Ok-clause-leaves
returns-in-Ok-clause-leaves g c =
    let F = g.F.Files in
    let old = c.args.store.now in
    let mid = c.in-Ok.prepared.store.now in
    let new = c.commit.new.self.0 in
    let edits = c.args.edits.items in
    let packed = c.in-Ok.prepared.plan.packed in
    let held = c.in-Ok.prepared.plan.edits.items in
    let left = paths_of c.report_of_commit.result.locks_left.items in
    let from : PreparesGiven F.honest F.means F.faults (OfFinder claims-value.it c.args.packed_refs) (ends_of meaning-value.it c.args.packed_refs) (mode_in c.args.packed_refs) old mid edits packed held = rw (c.packed_refs.ensures.packed_refs, c.packed_refs.ensures.value, c.transaction.ensures.value) at c.in-Ok.ensures.prepared in
    at_same (λ now. F.honest → Leaves (F.means (files_of old)) (F.means (files_of now)) (IsStopOf F.honest F.means F.faults c.args.packed_refs old c.args.committer edits)) {x = c.store-in-Ok-1.given.0} {y = new} (search rules)
    (stops F.honest F.means F.faults old mid new c.args.committer edits packed held c.args.packed_refs from (left_of c.commit.result) c.commit.ensures.safe.stops)

pub returns-in-Ok-clause-lost : goal.returns-in-Ok-clause-lost
returns-in-Ok-clause-lost g c =
    let F = g.F.Files in
    let old = c.args.store.now in
    let mid = c.in-Ok.prepared.store.now in
    let new = c.commit.new.self.0 in
    let edits = c.args.edits.items in
    let packed = c.in-Ok.prepared.plan.packed in
    let held = c.in-Ok.prepared.plan.edits.items in
    let left = paths_of c.report_of_commit.result.locks_left.items in
    let from : PreparesGiven F.honest F.means F.faults (OfFinder claims-value.it c.args.packed_refs) (ends_of meaning-value.it c.args.packed_refs) (mode_in c.args.packed_refs) old mid edits packed held = rw (c.packed_refs.ensures.packed_refs, c.packed_refs.ensures.value, c.transaction.ensures.value) at c.in-Ok.ensures.prepared in
    at_same (λ now. F.honest → HasGoodRecords F.means old → IsAtRest F.means old → Loses (F.means (files_of old)) (F.means (files_of now)) (IsLossOf F.honest F.means F.faults c.args.packed_refs old c.args.committer edits)) {x = c.store-in-Ok-1.given.0} {y = new} (search rules)
    (λ h good at_rest. loses F.honest F.means F.faults old mid new c.args.committer edits packed held c.args.packed_refs from h good at_rest c.commit.ensures.safe.losses)

pub returns-in-Ok-clause-settled : goal.returns-in-Ok-clause-settled
returns-in-Ok-clause-settled g c =
    let F = g.F.Files in
    let old = c.args.store.now in
    let mid = c.in-Ok.prepared.store.now in
    let new = c.commit.new.self.0 in
    let edits = c.args.edits.items in
    let packed = c.in-Ok.prepared.plan.packed in
    let held = c.in-Ok.prepared.plan.edits.items in
    let left = paths_of c.report_of_commit.result.locks_left.items in
    let from : PreparesGiven F.honest F.means F.faults (OfFinder claims-value.it c.args.packed_refs) (ends_of meaning-value.it c.args.packed_refs) (mode_in c.args.packed_refs) old mid edits packed held = rw (c.packed_refs.ensures.packed_refs, c.packed_refs.ensures.value, c.transaction.ensures.value) at c.in-Ok.ensures.prepared in
    at_same (λ now. F.honest → c.report_of_commit.result.error ≡ None → IsAtRest F.means old → IsAtRest F.means now) {x = c.store-in-Ok-1.given.0} {y = new} (search rules)
    (settles F.honest F.means F.faults old mid new c.args.committer edits packed held c.args.packed_refs from c.commit.result c.report_of_commit.result.error c.report_of_commit.ensures.error c.commit.ensures.committed)

pub returns-in-Ok-clause-good : goal.returns-in-Ok-clause-good
returns-in-Ok-clause-good g c =
    let F = g.F.Files in
    let old = c.args.store.now in
    let mid = c.in-Ok.prepared.store.now in
    let new = c.commit.new.self.0 in
    let edits = c.args.edits.items in
    let packed = c.in-Ok.prepared.plan.packed in
    let held = c.in-Ok.prepared.plan.edits.items in
    let from : PreparesGiven F.honest F.means F.faults (OfFinder claims-value.it c.args.packed_refs) (ends_of meaning-value.it c.args.packed_refs) (mode_in c.args.packed_refs) old mid edits packed held = rw (c.packed_refs.ensures.packed_refs, c.packed_refs.ensures.value, c.transaction.ensures.value) at c.in-Ok.ensures.prepared in
    at_same (λ now. F.honest → c.report_of_commit.result.error ≡ None → HasGoodRecords F.means old → HasGoodRecords F.means now) {x = c.store-in-Ok-1.given.0} {y = new} (search rules)
    (goods F.honest F.means F.faults old mid new c.args.committer edits packed held c.args.packed_refs from c.commit.result c.report_of_commit.result.error c.report_of_commit.ensures.error c.commit.ensures.committed)

pub returns-in-Err-clause-leaves : goal.returns-in-Err-clause-leaves
returns-in-Err-clause-leaves g c =
    let F = g.F.Files in
    let old = c.args.store.now in
    let new = c.prepare.follows.lender-at-none in
    let edits = c.args.edits.items in
    let left = paths_of c.in-Err.refused.locks_left.items in
    let seen : RefusesGiven F.honest (HasReadFault g.F.Reader.ReadAt.faults) F.means F.faults (OfFinder claims-value.it c.packed_refs.result.packed_refs) (ends_of meaning-value.it c.packed_refs.result.packed_refs) (mode_in c.packed_refs.result.packed_refs) c.packed_refs.result.store.now new edits c.in-Err.refused.error left = search rules in
    let from : RefusesGiven F.honest (HasReadFault g.F.Reader.ReadAt.faults) F.means F.faults (OfFinder claims-value.it c.args.packed_refs) (ends_of meaning-value.it c.args.packed_refs) (mode_in c.args.packed_refs) old new edits c.in-Err.refused.error left = rw (c.packed_refs.ensures.packed_refs, c.packed_refs.ensures.value, c.transaction.ensures.value) at seen in
    at_same (λ now. F.honest → Leaves (F.means (files_of old)) (F.means (files_of now)) (IsStopOf F.honest F.means F.faults c.args.packed_refs old c.args.committer edits)) {x = c.store-in-Err-2.given.0} {y = new} (search rules)
    (refused_stops F.honest F.means F.faults old new c.args.committer edits c.in-Err.refused.error left (HasReadFault g.F.Reader.ReadAt.faults) c.args.packed_refs from)

pub returns-in-Err-clause-lost : goal.returns-in-Err-clause-lost
returns-in-Err-clause-lost g c =
    let F = g.F.Files in
    let old = c.args.store.now in
    let new = c.prepare.follows.lender-at-none in
    let edits = c.args.edits.items in
    let left = paths_of c.in-Err.refused.locks_left.items in
    let seen : RefusesGiven F.honest (HasReadFault g.F.Reader.ReadAt.faults) F.means F.faults (OfFinder claims-value.it c.packed_refs.result.packed_refs) (ends_of meaning-value.it c.packed_refs.result.packed_refs) (mode_in c.packed_refs.result.packed_refs) c.packed_refs.result.store.now new edits c.in-Err.refused.error left = search rules in
    let from : RefusesGiven F.honest (HasReadFault g.F.Reader.ReadAt.faults) F.means F.faults (OfFinder claims-value.it c.args.packed_refs) (ends_of meaning-value.it c.args.packed_refs) (mode_in c.args.packed_refs) old new edits c.in-Err.refused.error left = rw (c.packed_refs.ensures.packed_refs, c.packed_refs.ensures.value, c.transaction.ensures.value) at seen in
    at_same (λ now. F.honest → HasGoodRecords F.means old → IsAtRest F.means old → Loses (F.means (files_of old)) (F.means (files_of now)) (IsLossOf F.honest F.means F.faults c.args.packed_refs old c.args.committer edits)) {x = c.store-in-Err-2.given.0} {y = new} (search rules)
    (λ h good at_rest. refused_loses F.honest F.means F.faults old new c.args.committer edits c.in-Err.refused.error left (HasReadFault g.F.Reader.ReadAt.faults) c.args.packed_refs from h)

pub returns-in-Err-clause-error : goal.returns-in-Err-clause-error
returns-in-Err-clause-error g c =
    let F = g.F.Files in
    let old = c.args.store.now in
    let new = c.prepare.follows.lender-at-none in
    let edits = c.args.edits.items in
    let left = paths_of c.in-Err.refused.locks_left.items in
    let seen : RefusesGiven F.honest (HasReadFault g.F.Reader.ReadAt.faults) F.means F.faults (OfFinder claims-value.it c.packed_refs.result.packed_refs) (ends_of meaning-value.it c.packed_refs.result.packed_refs) (mode_in c.packed_refs.result.packed_refs) c.packed_refs.result.store.now new edits c.in-Err.refused.error left = search rules in
    let from : RefusesGiven F.honest (HasReadFault g.F.Reader.ReadAt.faults) F.means F.faults (OfFinder claims-value.it c.args.packed_refs) (ends_of meaning-value.it c.args.packed_refs) (mode_in c.args.packed_refs) old new edits c.in-Err.refused.error left = rw (c.packed_refs.ensures.packed_refs, c.packed_refs.ensures.value, c.transaction.ensures.value) at seen in
    at_same (λ now. RefusesGiven F.honest (HasReadFault g.F.Reader.ReadAt.faults) F.means F.faults (OfFinder claims-value.it c.args.packed_refs) (ends_of meaning-value.it c.args.packed_refs) (mode_in c.args.packed_refs) old now edits c.in-Err.refused.error left) {x = c.store-in-Err-2.given.0} {y = new} (search rules)
    from
