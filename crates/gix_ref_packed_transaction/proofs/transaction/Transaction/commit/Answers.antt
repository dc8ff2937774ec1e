use Rattle.std.proofs.Common.{sym, subst, List}
use Rattle.gix_ref_files.proofs.Moments.{joins, losses, passes_joins, passes_weaken, weaken}
use Rattle.gix_ref_files.specs.Files.{disk_of}
use Rattle.gix_ref_packed_transaction.specs.Changes.{change_values}
use Rattle.gix_ref_packed_transaction.specs.declared.changes.KeyChange.{KeyChange}
use Rattle.gix_ref_packed_transaction.specs.PackedTransactions.{transaction_kind, records_of, changes_of, transaction_place, IsMadeOf, IsUnbegun, SaysWhyPacked}
use Rattle.gix_ref_packed_transaction.proofs.LockSteps.{begun, left_as_before, left_rewritten, off_lock, why_after}
use Rattle.gix_ref_packed_transaction.proofs.Losses.{keeps_unlock, lost_before, lost_of, lost_unlocking}
use Rattle.gix_ref_packed_transaction.proofs.transaction.Transaction.commit.Goals as goal

pub returns-in-Err-clause-leaves : goal.returns-in-Err-clause-leaves
returns-in-Err-clause-leaves g c honest empty =
    let t = c.args.self in
    weaken (c.release.ensures.leaves honest) (λ T goes. left_as_before (transaction_kind t) (records_of t) (changes_of t) (transaction_place t) _ T goes.0)

pub returns-clause-leaves : goal.returns-clause-leaves
returns-clause-leaves g c honest empty =
    let t = c.args.self in
    let before = (g.F.Files.means c.args.files.now).tree in
    let rewrite = c.in-Ok.rewrite in
    let made = subst (λ (changes : List KeyChange). IsMadeOf (transaction_kind t) (records_of t) (change_values changes) rewrite) c.deref.ensures.value c.in-Ok.ensures.made in
    let put = c.put_rewrite.ensures.leaves honest empty in
    weaken
    (joins put (weaken (c.release-in-Err-2.ensures.leaves honest) (λ T goes. off_lock before (transaction_place t) rewrite _ T put.tree goes.0)))
    (λ T was. left_rewritten (transaction_kind t) (records_of t) (changes_of t) (transaction_place t) before rewrite made T was)

pub returns-clause-why : goal.returns-clause-why
returns-clause-why g c =
    let t = c.args.self in
    subst (SaysWhyPacked g.F.Files.honest (transaction_kind t) (records_of t) (transaction_place t) (g.F.Files.faults c.args.files.now) (g.F.Files.faults c.release-in-Err-2.new.files) (g.F.Files.means c.release-in-Err-2.new.files).tree) (sym c.release-in-Err-2.ensures.error)
    (why_after g.F.Files.honest (transaction_kind t) (records_of t) (transaction_place t) (g.F.Files.faults c.args.files.now) _ (g.F.Files.faults c.release-in-Err-2.new.files) _ _ _ c.release-in-Err-2.ensures.no_fewer (λ honest. (c.release-in-Err-2.ensures.leaves honest).tree) c.in-Err-put_rewrite.ensures.why)

pub returns-in-Err-clause-kept : goal.returns-in-Err-clause-kept
returns-in-Err-clause-kept g c honest unbegun = (c.release.ensures.leaves honest).tree

pub returns-clause-kept : goal.returns-clause-kept
returns-clause-kept g c honest unbegun =
    absurd (begun g.F.Files.honest (transaction_place c.args.self) (g.F.Files.faults c.args.files.now) (g.F.Files.faults c.put_rewrite.new.files) (g.F.Files.means c.put_rewrite.new.files).tree
    c.in-Err-put_rewrite.error c.in-Err-put_rewrite.ensures.why
    (subst IsUnbegun c.release-in-Err-2.ensures.error unbegun))

pub returns-in-Err-clause-lost : goal.returns-in-Err-clause-lost
returns-in-Err-clause-lost g c honest ready =
    let t = c.args.self in
    losses _ (λ E unlocks T lost. lost_before (transaction_kind t) (records_of t) (changes_of t) (transaction_place t) _ T ready (lost_unlocking (transaction_place t) _ E T unlocks lost)) (c.release.ensures.passes honest)

pub returns-in-Ok-put_rewrite-clause-lost : goal.returns-in-Ok-put_rewrite-clause-lost
returns-in-Ok-put_rewrite-clause-lost g c honest ready =
    let t = c.args.self in
    let D = disk_of (g.F.Files.means c.args.files.now) in
    let rewrite = c.in-Ok.rewrite in
    let made = subst (λ (changes : List KeyChange). IsMadeOf (transaction_kind t) (records_of t) (change_values changes) rewrite) c.deref.ensures.value c.in-Ok.ensures.made in
    losses _ (λ E keeps T lost. lost_of rewrite (transaction_place t) D (transaction_kind t) (records_of t) (changes_of t) made E T keeps lost) (c.put_rewrite.ensures.passes honest ready)

pub returns-in-Err-put_rewrite-clause-lost : goal.returns-in-Err-put_rewrite-clause-lost
returns-in-Err-put_rewrite-clause-lost g c honest ready =
    let t = c.args.self in
    let D = disk_of (g.F.Files.means c.args.files.now) in
    let rewrite = c.in-Ok.rewrite in
    let made = subst (λ (changes : List KeyChange). IsMadeOf (transaction_kind t) (records_of t) (change_values changes) rewrite) c.deref.ensures.value c.in-Ok.ensures.made in
    losses _ (λ E keeps T lost. lost_of rewrite (transaction_place t) D (transaction_kind t) (records_of t) (changes_of t) made E T keeps lost) (c.put_rewrite.ensures.passes honest ready)

pub returns-clause-lost : goal.returns-clause-lost
returns-clause-lost g c honest ready =
    let t = c.args.self in
    let D = disk_of (g.F.Files.means c.args.files.now) in
    let rewrite = c.in-Ok.rewrite in
    let made = subst (λ (changes : List KeyChange). IsMadeOf (transaction_kind t) (records_of t) (change_values changes) rewrite) c.deref.ensures.value c.in-Ok.ensures.made in
    let put = c.put_rewrite.ensures.passes honest ready in
    losses _ (λ E keeps T lost. lost_of rewrite (transaction_place t) D (transaction_kind t) (records_of t) (changes_of t) made E T keeps lost)
    (passes_joins put (passes_weaken (c.release-in-Err-2.ensures.passes honest) (λ E unlocks. keeps_unlock rewrite (transaction_place t) D _ E unlocks put.disk)))
