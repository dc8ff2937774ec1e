use Rattle.std.proofs.Common.{subst, sym}
use Rattle.gix_ref_files.proofs.Moments.{weaken, passes_weaken}
use Rattle.gix_ref_files.specs.Files.{disk_of}
use Rattle.gix_ref_packed_transaction.specs.PackedTransactions.{IsRewritten}
use Rattle.gix_ref_packed_transaction.proofs.LockSteps.{as_before, unlocked, on_ok, when_ok}
use Rattle.gix_ref_packed_transaction.proofs.Losses.{keeps_first, keeps_unlock, settles_unchanged}
use Rattle.gix_ref_packed_transaction.specs.internal.Keeping.{KeepsSettled}
use Rattle.gix_ref_packed_transaction.proofs.transaction.commit.put_rewrite.Goals as goal
use Rattle.gix_ref_packed_text.specs.declared.outcome.Rewrite.TheVariants.{Unchanged}

pub returns-in-Unchanged-clause-done : goal.returns-in-Unchanged-clause-done
returns-in-Unchanged-clause-done g c honest empty =
    let before = (g.F.Files.means c.args.files.now).tree in
    on_ok c.unlock.result (λ done. subst (λ r. IsRewritten r c.args.lock.now before (g.F.Files.means c.unlock.new.files).tree) (sym c.in-Unchanged.is) (unlocked before c.args.lock.now _ done)) (c.unlock.ensures.done honest)

pub returns-in-Unchanged-clause-leaves : goal.returns-in-Unchanged-clause-leaves
returns-in-Unchanged-clause-leaves g c honest empty =
    let before = (g.F.Files.means c.args.files.now).tree in
    weaken (c.unlock.ensures.leaves honest) (λ T goes. as_before before c.args.lock.now c.args.rewrite.now T goes.0)

pub returns-in-Unchanged-clause-passes : goal.returns-in-Unchanged-clause-passes
returns-in-Unchanged-clause-passes g c honest ready =
    let place = c.args.lock.now in
    let D = disk_of (g.F.Files.means c.args.files.now) in
    passes_weaken (c.unlock.ensures.passes honest) (λ E unlocks. subst (λ r. KeepsSettled r place D E) (sym c.in-Unchanged.is) (keeps_unlock Unchanged place D D E unlocks (keeps_first Unchanged place D ready)))

pub returns-in-Unchanged-clause-settled : goal.returns-in-Unchanged-clause-settled
returns-in-Unchanged-clause-settled g c honest ready =
    when_ok c.unlock.result (settles_unchanged c.args.lock.now (disk_of (g.F.Files.means c.args.files.now)) _ ready (c.unlock.ensures.passes honest).disk)
