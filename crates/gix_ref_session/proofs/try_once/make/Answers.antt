use Rattle.std.proofs.Common.{◌≡◌, rules, ap, inl, inr, refl, Err}
use Rattle.gix_ref_files.specs.Files.{Leaves, Loses}
use Rattle.gix_ref_object.specs.contracts.object.NeverFind.TheImpl.{claims-value, meaning-value}
use Rattle.gix_ref_transaction.specs.Packing.{OfFinder, ends_of, mode_in}
use Rattle.gix_ref_transaction.specs.OwnLocks.{paths_of}
use Rattle.gix_ref_packed.specs.OpenFiles.{HasReadFault}
use Rattle.gix_ref_store.specs.Prepared.{HasGoodRecords, IsAtRest, RefusesGiven}
use Rattle.gix_ref_store.specs.Store.{files_of}
use Rattle.gix_ref_store.proofs.SameStores.{at_same}
use Rattle.gix_ref_program.specs.Updates.{IsLossOf}
use Rattle.gix_ref_program.proofs.Updating.{refused_loses}
use Rattle.gix_ref_session.specs.Sessions.{MakeEnds, way}
use Rattle.gix_ref_session.specs.Transactions.{IsEditStop, Prepares, uses}
use Rattle.gix_ref_session.proofs.Committing.{refused_leaves}
use Rattle.gix_ref_session.proofs.try_once.make.Goals as goal

pub returns-in-Ok-clause-ends : goal.returns-in-Ok-clause-ends
returns-in-Ok-clause-ends g c =
    let F = g.F.Files in
    let old = c.args.store.now in
    let mid = c.in-Ok.prepared.store.now in
    let edits = c.args.led.items in
    let from : Prepares F.honest F.means F.faults old mid edits c.in-Ok.prepared.plan.packed c.in-Ok.prepared.plan.edits.items = rw (c.transaction_with.ensures.packed_refs, c.transaction_with.ensures.value) at c.in-Ok.ensures.prepared in
    at_same (λ now. MakeEnds g.F.Reader.ReadAt F.honest F.means F.faults c.args.session.now c.args.closing c.args.edits.now edits (way (g.R.Read.remaining c.args.input.now) (g.W.Write.contents c.args.out.now) old) (way (g.R.Read.remaining c.finish_named.new.input) (g.W.Write.contents c.finish_named.new.out) now) c.finish_named.result)
    {x = c.store-in-Ok-1.given.0} {y = c.finish_named.new.prepared.0} (search rules) (inr (c.finish_named.ensures.ends old edits from))

pub returns-in-Ok-clause-leaves : goal.returns-in-Ok-clause-leaves
returns-in-Ok-clause-leaves g c =
    let F = g.F.Files in
    let old = c.args.store.now in
    let mid = c.in-Ok.prepared.store.now in
    let edits = c.args.led.items in
    let from : Prepares F.honest F.means F.faults old mid edits c.in-Ok.prepared.plan.packed c.in-Ok.prepared.plan.edits.items = rw (c.transaction_with.ensures.packed_refs, c.transaction_with.ensures.value) at c.in-Ok.ensures.prepared in
    at_same (λ now. F.honest → Leaves (F.means (files_of old)) (F.means (files_of now)) (IsEditStop F.honest F.means F.faults c.args.session.now.committer old edits))
    {x = c.store-in-Ok-1.given.0} {y = c.finish_named.new.prepared.0} (search rules) (c.finish_named.ensures.safe.leaves old edits from)

pub returns-in-Err-clause-ends : goal.returns-in-Err-clause-ends
returns-in-Err-clause-ends g c =
    let F = g.F.Files in
    let read = HasReadFault g.F.Reader.ReadAt.faults in
    let old = c.args.store.now in
    let new = c.prepare.follows.lender-at-none in
    let same : c.store-in-Err-2.given.0 ≡ c.prepare.follows.lender-at-none = search rules in
    let edits = c.args.led.items in
    let left = paths_of c.in-Err.refused.locks_left.items in
    let x = g.W.Write.contents c.args.out.now in
    let i = g.R.Read.remaining c.args.input.now in
    let seen : RefusesGiven F.honest read F.means F.faults (OfFinder claims-value.it c.transaction_with.result.packed_refs) (ends_of meaning-value.it c.transaction_with.result.packed_refs) (mode_in c.transaction_with.result.packed_refs) c.transaction_with.result.store.now new edits c.in-Err.refused.error left = search rules in
    let from : RefusesGiven F.honest read F.means F.faults (OfFinder claims-value.it uses) (ends_of meaning-value.it uses) (mode_in uses) old new edits c.in-Err.refused.error left = rw (c.transaction_with.ensures.packed_refs, c.transaction_with.ensures.value) at seen in
    at_same (λ now. MakeEnds g.F.Reader.ReadAt F.honest F.means F.faults c.args.session.now c.args.closing c.args.edits.now edits (way i x old) (way i x now) (Err c.refusal_of.result))
    {x = c.store-in-Err-2.given.0} {y = new} same
    (inl (record { error = c.in-Err.refused.error; is = ap Err c.refusal_of.ensures; refused = record { left = left; fails = from }; input = refl; output = refl }))

pub returns-in-Err-clause-leaves : goal.returns-in-Err-clause-leaves
returns-in-Err-clause-leaves g c =
    let F = g.F.Files in
    let read = HasReadFault g.F.Reader.ReadAt.faults in
    let old = c.args.store.now in
    let new = c.prepare.follows.lender-at-none in
    let same : c.store-in-Err-2.given.0 ≡ c.prepare.follows.lender-at-none = search rules in
    let edits = c.args.led.items in
    let left = paths_of c.in-Err.refused.locks_left.items in
    let seen : RefusesGiven F.honest read F.means F.faults (OfFinder claims-value.it c.transaction_with.result.packed_refs) (ends_of meaning-value.it c.transaction_with.result.packed_refs) (mode_in c.transaction_with.result.packed_refs) c.transaction_with.result.store.now new edits c.in-Err.refused.error left = search rules in
    let from : RefusesGiven F.honest read F.means F.faults (OfFinder claims-value.it uses) (ends_of meaning-value.it uses) (mode_in uses) old new edits c.in-Err.refused.error left = rw (c.transaction_with.ensures.packed_refs, c.transaction_with.ensures.value) at seen in
    at_same (λ now. F.honest → Leaves (F.means (files_of old)) (F.means (files_of now)) (IsEditStop F.honest F.means F.faults c.args.session.now.committer old edits))
    {x = c.store-in-Err-2.given.0} {y = new} same
    (refused_leaves F.honest F.means F.faults old new edits c.in-Err.refused.error left read from c.args.session.now.committer)

pub returns-in-Ok-clause-lost : goal.returns-in-Ok-clause-lost
returns-in-Ok-clause-lost g c =
    let F = g.F.Files in
    let old = c.args.store.now in
    let mid = c.in-Ok.prepared.store.now in
    let edits = c.args.led.items in
    let from : Prepares F.honest F.means F.faults old mid edits c.in-Ok.prepared.plan.packed c.in-Ok.prepared.plan.edits.items = rw (c.transaction_with.ensures.packed_refs, c.transaction_with.ensures.value) at c.in-Ok.ensures.prepared in
    at_same (λ now. F.honest → HasGoodRecords F.means old → IsAtRest F.means old → Loses (F.means (files_of old)) (F.means (files_of now)) (IsLossOf F.honest F.means F.faults uses old c.args.session.now.committer edits))
    {x = c.store-in-Ok-1.given.0} {y = c.finish_named.new.prepared.0} (search rules) (c.finish_named.ensures.safe.lost old edits from)

pub returns-in-Err-clause-lost : goal.returns-in-Err-clause-lost
returns-in-Err-clause-lost g c =
    let F = g.F.Files in
    let read = HasReadFault g.F.Reader.ReadAt.faults in
    let old = c.args.store.now in
    let new = c.prepare.follows.lender-at-none in
    let same : c.store-in-Err-2.given.0 ≡ c.prepare.follows.lender-at-none = search rules in
    let edits = c.args.led.items in
    let left = paths_of c.in-Err.refused.locks_left.items in
    let seen : RefusesGiven F.honest read F.means F.faults (OfFinder claims-value.it c.transaction_with.result.packed_refs) (ends_of meaning-value.it c.transaction_with.result.packed_refs) (mode_in c.transaction_with.result.packed_refs) c.transaction_with.result.store.now new edits c.in-Err.refused.error left = search rules in
    let from : RefusesGiven F.honest read F.means F.faults (OfFinder claims-value.it uses) (ends_of meaning-value.it uses) (mode_in uses) old new edits c.in-Err.refused.error left = rw (c.transaction_with.ensures.packed_refs, c.transaction_with.ensures.value) at seen in
    at_same (λ now. F.honest → HasGoodRecords F.means old → IsAtRest F.means old → Loses (F.means (files_of old)) (F.means (files_of now)) (IsLossOf F.honest F.means F.faults uses old c.args.session.now.committer edits))
    {x = c.store-in-Err-2.given.0} {y = new} same
    (λ h good at_rest. refused_loses F.honest F.means F.faults old new c.args.session.now.committer edits c.in-Err.refused.error left read uses from h)
