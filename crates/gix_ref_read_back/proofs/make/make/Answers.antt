use Rattle.std.proofs.Common.{◌≡◌, ◌∙◌, rules, List, ap, subst, sym, length}
use Rattle.gix_ref_files.specs.Files.{HasRisenBy, LossesLeave, StopsLeave}
use Rattle.gix_ref_files.specs.Tree.{Path}
use Rattle.gix_ref_packed.specs.OpenFiles.{HasReadFault}
use Rattle.gix_ref_transaction.specs.OwnLocks.{paths_of}
use Rattle.gix_ref_transaction.specs.Packing.{OfFinder, ends_of, mode_in}
use Rattle.gix_ref_store.specs.Prepared.{RefusesGiven}
use Rattle.gix_ref_store.specs.CommitResult.{left_of, mode_handed_back, EveryStopFrom}
use Rattle.gix_ref_store.specs.Store.{files_of}
use Rattle.gix_ref_read_back.specs.WholeRuns.{HasFailed, MakesEdited, Prepares}
use Rattle.gix_ref_read_back.specs.PlainPromises.{EachReadsOldOrNew}
use Rattle.gix_ref_read_back.proofs.PlainLemmas.{losses_plain, made_losses, made_stops, refused_losses, refused_stops, stops_plain}
use Rattle.gix_ref_read_back.proofs.Committed.{carried_before, committed_before, keeps, keeps_split, losses_same, stops_same}
use Rattle.gix_ref_store.proofs.SameStores.{at_same, same_on}
use Rattle.gix_ref_read_back.proofs.make.make.Goals as goal

pub returns-in-Err-commit-clause-not_made : goal.returns-in-Err-commit-clause-not_made
returns-in-Err-commit-clause-not_made g c =
    let F = g.F.Files in
    let uses = c.args.packed_refs in
    let mode = mode_in uses in
    let old = c.args.store.now in
    let mid = c.in-Ok.prepared.store.now in
    let new = c.commit.new.self.0 in
    let edits = c.args.edits.items in
    let packed = c.in-Ok.prepared.plan.packed in
    let held = c.in-Ok.prepared.plan.edits.items in
    let failed = c.in-Err-commit.failed in
    let from : Prepares F.honest F.means F.faults g.T.Find.claims g.T.Find.meaning uses old mid edits packed held = rw (c.transaction_with.ensures.packed_refs, c.transaction_with.ensures.value) at c.in-Ok.ensures.prepared in
    let left = paths_of failed.locks_left.items in
    let stops : EveryStopFrom F.honest F.means F.faults mid new c.args.committer packed held left =
    subst (λ (l : List Path). EveryStopFrom F.honest F.means F.faults mid new c.args.committer packed held l) (ap left_of c.in-Err-commit.is) c.commit.ensures.safe.stops in
    let named : HasRisenBy (length left) (F.faults (files_of mid)) (F.faults (files_of new)) =
    subst (λ (l : List Path). HasRisenBy (length l) (F.faults (files_of mid)) (F.faults (files_of new))) (ap left_of c.in-Err-commit.is) c.commit.ensures.kept.named in
    let back = ap mode_handed_back (sym c.in-Err-commit.is) ∙ (c.commit.ensures.packed_refs ∙ (c.in-Ok.ensures.packed_refs ∙ c.transaction_with.ensures.packed_refs)) in (
      at_same (λ now. HasFailed F.honest F.means F.faults g.T.Find.claims g.T.Find.meaning uses old now c.args.committer edits failed.error left) {x = c.store-in-Ok-1.given.0} {y = new} (search rules)
          (record {
            mid = mid;
            packed = packed;
            held = held;
            prepared = from;
            fails = c.in-Err-commit.ensures.failed.cause;
            sound = c.in-Err-commit.ensures.failed.sound;
            named = named;
            stops = stops;
            lost = c.commit.ensures.safe.losses;
            folders = c.commit.ensures.kept.folders;
            outside = stops_same F.honest F.means F.faults (OfFinder g.T.Find.claims uses) (ends_of g.T.Find.meaning uses) mode old mid new edits c.args.committer packed held left from stops;
            losses = losses_same F.honest F.means F.faults (OfFinder g.T.Find.claims uses) (ends_of g.T.Find.meaning uses) mode old mid new edits c.args.committer packed held left from stops c.commit.ensures.safe.losses;
          }),
      back,
    )

pub returns-in-Ok-commit-clause-made : goal.returns-in-Ok-commit-clause-made
returns-in-Ok-commit-clause-made g c =
    let F = g.F.Files in
    let uses = c.args.packed_refs in
    let mode = mode_in uses in
    let old = c.args.store.now in
    let mid = c.in-Ok.prepared.store.now in
    let new = c.commit.new.self.0 in
    let edits = c.args.edits.items in
    let packed = c.in-Ok.prepared.plan.packed in
    let held = c.in-Ok.prepared.plan.edits.items in
    let left = paths_of c.in-Ok-commit.done.locks_left.items in
    let from : Prepares F.honest F.means F.faults g.T.Find.claims g.T.Find.meaning uses old mid edits packed held = rw (c.transaction_with.ensures.packed_refs, c.transaction_with.ensures.value) at c.in-Ok.ensures.prepared in
    let stops : EveryStopFrom F.honest F.means F.faults mid new c.args.committer packed held left =
    subst (λ (l : List Path). EveryStopFrom F.honest F.means F.faults mid new c.args.committer packed held l) (ap left_of c.in-Ok-commit.is) c.commit.ensures.safe.stops in
    let back = ap mode_handed_back (sym c.in-Ok-commit.is) ∙ (c.commit.ensures.packed_refs ∙ (c.in-Ok.ensures.packed_refs ∙ c.transaction_with.ensures.packed_refs)) in
    let named : HasRisenBy (length left) (F.faults (files_of mid)) (F.faults (files_of new)) =
    subst (λ (l : List Path). HasRisenBy (length l) (F.faults (files_of mid)) (F.faults (files_of new))) (ap left_of c.in-Ok-commit.is) c.commit.ensures.kept.named in
    at_same (λ now. MakesEdited F.honest F.means F.faults g.T.Find.claims g.T.Find.meaning uses old now c.args.committer edits c.in-Ok-commit.done) {x = c.store-in-Ok-1.given.0} {y = new} (search rules)
    (record {
      kept = keeps F.honest F.means F.faults (OfFinder g.T.Find.claims uses) (ends_of g.T.Find.meaning uses) mode old mid new edits c.args.committer packed held left from stops (same_on old mid new from.prepared.held.same c.commit.ensures.same)
          c.in-Ok-commit.ensures.committed.commits c.in-Ok-commit.ensures.committed.good c.in-Ok-commit.ensures.committed.settled c.commit.ensures.safe.losses;
      commits = record {
        mid = mid;
        packed = packed;
        held = held;
        prepared = from;
        edits = c.in-Ok-commit.ensures.committed.edits;
        handed_back = back;
        carried = λ h good. carried_before F.honest F.means F.faults (OfFinder g.T.Find.claims uses) (ends_of g.T.Find.meaning uses) mode old mid new edits c.args.committer packed held left from stops h good c.in-Ok-commit.done.edits.items
            c.in-Ok-commit.ensures.committed.edits;
        committed = λ h good. committed_before F.honest F.means F.faults (OfFinder g.T.Find.claims uses) (ends_of g.T.Find.meaning uses) mode old mid new edits c.args.committer packed held left from stops c.in-Ok-commit.ensures.committed.commits h good;
        passed = c.in-Ok-commit.ensures.committed.passed;
        read = c.in-Ok-commit.ensures.committed.read;
        folders = c.commit.ensures.kept.folders;
        named = named;
        stops = stops;
        lost = c.commit.ensures.safe.losses;
      };
      same = keeps_split F.honest F.means F.faults (OfFinder g.T.Find.claims uses) (ends_of g.T.Find.meaning uses) mode old mid new edits c.args.committer packed held left from stops (same_on old mid new from.prepared.held.same c.commit.ensures.same)
          c.in-Ok-commit.ensures.committed.commits c.in-Ok-commit.ensures.committed.good c.in-Ok-commit.ensures.committed.settled c.commit.ensures.safe.losses;
    })

pub returns-in-Err-clause-not_made : goal.returns-in-Err-clause-not_made
returns-in-Err-clause-not_made g c =
    let F = g.F.Files in
    let uses = c.args.packed_refs in
    let read = HasReadFault g.F.Reader.ReadAt.faults in
    let old = c.args.store.now in
    let new = c.prepare.follows.lender-at-none in
    let edits = c.args.edits.items in
    let refused = c.in-Err.refused in
    let left = paths_of refused.locks_left.items in
    let given = c.transaction_with.result.packed_refs in
    let from : RefusesGiven F.honest read F.means F.faults (OfFinder g.T.Find.claims given) (ends_of g.T.Find.meaning given) (mode_in given) c.transaction_with.result.store.now new edits refused.error left × (refused.packed_refs ≡ given) = search rules in
    at_same (λ now. RefusesGiven F.honest read F.means F.faults (OfFinder g.T.Find.claims uses) (ends_of g.T.Find.meaning uses) (mode_in uses) old now edits refused.error left × (refused.packed_refs ≡ uses)) {x = c.store-in-Err-2.given.0} {y = new} (search rules)
    (rw (c.transaction_with.ensures.packed_refs, c.transaction_with.ensures.value) at from)

pub returns-in-Err-commit-clause-stops : goal.returns-in-Err-commit-clause-stops
returns-in-Err-commit-clause-stops g c h good =
    let F = g.F.Files in
    let uses = c.args.packed_refs in
    let mode = mode_in uses in
    let old = c.args.store.now in
    let mid = c.in-Ok.prepared.store.now in
    let new = c.commit.new.self.0 in
    let edits = c.args.edits.items in
    let packed = c.in-Ok.prepared.plan.packed in
    let held = c.in-Ok.prepared.plan.edits.items in
    let from : Prepares F.honest F.means F.faults g.T.Find.claims g.T.Find.meaning uses old mid edits packed held = rw (c.transaction_with.ensures.packed_refs, c.transaction_with.ensures.value) at c.in-Ok.ensures.prepared in
    at_same (λ now. StopsLeave (F.means (files_of old)) (F.means (files_of now)) (EachReadsOldOrNew F.honest F.means F.faults old edits)) {x = c.store-in-Ok-1.given.0} {y = new} (search rules)
    (stops_plain F.honest F.means F.faults old new edits (made_stops F.honest F.means F.faults (OfFinder g.T.Find.claims uses) (ends_of g.T.Find.meaning uses) mode old mid new edits c.args.committer packed held (left_of c.commit.result) from c.commit.ensures.safe.stops h good)
    (λ T left. g.met.F.Files.only_now (files_of old) T h left))

pub returns-in-Err-commit-clause-losses : goal.returns-in-Err-commit-clause-losses
returns-in-Err-commit-clause-losses g c h good at_rest =
    let F = g.F.Files in
    let uses = c.args.packed_refs in
    let mode = mode_in uses in
    let old = c.args.store.now in
    let mid = c.in-Ok.prepared.store.now in
    let new = c.commit.new.self.0 in
    let edits = c.args.edits.items in
    let packed = c.in-Ok.prepared.plan.packed in
    let held = c.in-Ok.prepared.plan.edits.items in
    let from : Prepares F.honest F.means F.faults g.T.Find.claims g.T.Find.meaning uses old mid edits packed held = rw (c.transaction_with.ensures.packed_refs, c.transaction_with.ensures.value) at c.in-Ok.ensures.prepared in
    at_same (λ now. LossesLeave (F.means (files_of old)) (F.means (files_of now)) (EachReadsOldOrNew F.honest F.means F.faults old edits)) {x = c.store-in-Ok-1.given.0} {y = new} (search rules)
    (losses_plain F.honest F.means F.faults mode old new edits at_rest (made_losses F.honest F.means F.faults (OfFinder g.T.Find.claims uses) (ends_of g.T.Find.meaning uses) mode old mid new edits c.args.committer packed held (left_of c.commit.result) from c.commit.ensures.safe.losses h good at_rest)
    (λ D found. g.met.F.Files.only_disk (files_of old) D h found))

pub returns-in-Ok-commit-clause-stops : goal.returns-in-Ok-commit-clause-stops
returns-in-Ok-commit-clause-stops g c h good =
    let F = g.F.Files in
    let uses = c.args.packed_refs in
    let mode = mode_in uses in
    let old = c.args.store.now in
    let mid = c.in-Ok.prepared.store.now in
    let new = c.commit.new.self.0 in
    let edits = c.args.edits.items in
    let packed = c.in-Ok.prepared.plan.packed in
    let held = c.in-Ok.prepared.plan.edits.items in
    let from : Prepares F.honest F.means F.faults g.T.Find.claims g.T.Find.meaning uses old mid edits packed held = rw (c.transaction_with.ensures.packed_refs, c.transaction_with.ensures.value) at c.in-Ok.ensures.prepared in
    at_same (λ now. StopsLeave (F.means (files_of old)) (F.means (files_of now)) (EachReadsOldOrNew F.honest F.means F.faults old edits)) {x = c.store-in-Ok-1.given.0} {y = new} (search rules)
    (stops_plain F.honest F.means F.faults old new edits (made_stops F.honest F.means F.faults (OfFinder g.T.Find.claims uses) (ends_of g.T.Find.meaning uses) mode old mid new edits c.args.committer packed held (left_of c.commit.result) from c.commit.ensures.safe.stops h good)
    (λ T left. g.met.F.Files.only_now (files_of old) T h left))

pub returns-in-Ok-commit-clause-losses : goal.returns-in-Ok-commit-clause-losses
returns-in-Ok-commit-clause-losses g c h good at_rest =
    let F = g.F.Files in
    let uses = c.args.packed_refs in
    let mode = mode_in uses in
    let old = c.args.store.now in
    let mid = c.in-Ok.prepared.store.now in
    let new = c.commit.new.self.0 in
    let edits = c.args.edits.items in
    let packed = c.in-Ok.prepared.plan.packed in
    let held = c.in-Ok.prepared.plan.edits.items in
    let from : Prepares F.honest F.means F.faults g.T.Find.claims g.T.Find.meaning uses old mid edits packed held = rw (c.transaction_with.ensures.packed_refs, c.transaction_with.ensures.value) at c.in-Ok.ensures.prepared in
    at_same (λ now. LossesLeave (F.means (files_of old)) (F.means (files_of now)) (EachReadsOldOrNew F.honest F.means F.faults old edits)) {x = c.store-in-Ok-1.given.0} {y = new} (search rules)
    (losses_plain F.honest F.means F.faults mode old new edits at_rest (made_losses F.honest F.means F.faults (OfFinder g.T.Find.claims uses) (ends_of g.T.Find.meaning uses) mode old mid new edits c.args.committer packed held (left_of c.commit.result) from c.commit.ensures.safe.losses h good at_rest)
    (λ D found. g.met.F.Files.only_disk (files_of old) D h found))

pub returns-in-Err-clause-stops : goal.returns-in-Err-clause-stops
returns-in-Err-clause-stops g c h good =
    let F = g.F.Files in
    let uses = c.args.packed_refs in
    let mode = mode_in uses in
    let read = HasReadFault g.F.Reader.ReadAt.faults in
    let old = c.args.store.now in
    let new = c.prepare.follows.lender-at-none in
    let edits = c.args.edits.items in
    let refused = c.in-Err.refused in
    let left = paths_of refused.locks_left.items in
    let given = c.transaction_with.result.packed_refs in
    let told : RefusesGiven F.honest read F.means F.faults (OfFinder g.T.Find.claims given) (ends_of g.T.Find.meaning given) (mode_in given) c.transaction_with.result.store.now new edits refused.error left × (refused.packed_refs ≡ given) = search rules in
    let from : RefusesGiven F.honest read F.means F.faults (OfFinder g.T.Find.claims uses) (ends_of g.T.Find.meaning uses) mode old new edits refused.error left = (rw (c.transaction_with.ensures.packed_refs, c.transaction_with.ensures.value) at told).0 in
    at_same (λ now. StopsLeave (F.means (files_of old)) (F.means (files_of now)) (EachReadsOldOrNew F.honest F.means F.faults old edits)) {x = c.store-in-Err-2.given.0} {y = new} (search rules)
    (stops_plain F.honest F.means F.faults old new edits (refused_stops F.honest F.means F.faults mode old new edits from.refuses.tried (from.refuses.leaves h))
    (λ T left. g.met.F.Files.only_now (files_of old) T h left))

pub returns-in-Err-clause-losses : goal.returns-in-Err-clause-losses
returns-in-Err-clause-losses g c h good at_rest =
    let F = g.F.Files in
    let uses = c.args.packed_refs in
    let mode = mode_in uses in
    let read = HasReadFault g.F.Reader.ReadAt.faults in
    let old = c.args.store.now in
    let new = c.prepare.follows.lender-at-none in
    let edits = c.args.edits.items in
    let refused = c.in-Err.refused in
    let left = paths_of refused.locks_left.items in
    let given = c.transaction_with.result.packed_refs in
    let told : RefusesGiven F.honest read F.means F.faults (OfFinder g.T.Find.claims given) (ends_of g.T.Find.meaning given) (mode_in given) c.transaction_with.result.store.now new edits refused.error left × (refused.packed_refs ≡ given) = search rules in
    let from : RefusesGiven F.honest read F.means F.faults (OfFinder g.T.Find.claims uses) (ends_of g.T.Find.meaning uses) mode old new edits refused.error left = (rw (c.transaction_with.ensures.packed_refs, c.transaction_with.ensures.value) at told).0 in
    at_same (λ now. LossesLeave (F.means (files_of old)) (F.means (files_of now)) (EachReadsOldOrNew F.honest F.means F.faults old edits)) {x = c.store-in-Err-2.given.0} {y = new} (search rules)
    (losses_plain F.honest F.means F.faults mode old new edits at_rest (refused_losses F.honest F.means F.faults mode old new edits from.refuses.tried at_rest (from.refuses.lost h))
    (λ D found. g.met.F.Files.only_disk (files_of old) D h found))
