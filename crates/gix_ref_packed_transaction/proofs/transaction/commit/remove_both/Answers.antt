use Rattle.std.proofs.Common.{subst, sym, ◌≡◌}
use Rattle.gix_ref_files.proofs.Moments.{joins, weaken, passes_joins, passes_weaken}
use Rattle.gix_ref_files.specs.Calls.{RemovesFile, RemovingFile}
use Rattle.gix_ref_files.specs.DiskCalls.{RemovingFileOn, after_removal}
use Rattle.gix_ref_files.specs.Files.{disk_of}
use Rattle.gix_ref_files.specs.Tree.{Path}
use Rattle.gix_ref_packed_transaction.specs.PackedTransactions.{IsOldOrRewritten}
use Rattle.gix_ref_packed_transaction.proofs.LockSteps.{removing, off_lock, when_ok}
use Rattle.gix_ref_packed_transaction.proofs.Losses.{folder_there, keeps_removal, keeps_settling, keeps_unlock, none_removed_at, settles_removed}
use Rattle.gix_ref_packed_transaction.proofs.transaction.commit.remove_both.Goals as goal
use Rattle.gix_ref_packed_text.specs.declared.outcome.Rewrite.TheVariants.{Removed}

pub returns-clause-leaves : goal.returns-clause-leaves
returns-clause-leaves g c honest =
    let before = (g.F.Files.means c.args.files.now).tree in
    let place = c.args.lock.now in
    let first = weaken (c.remove_file.ensures.leaves honest) (λ T removes. removing before place T (subst (λ (p : Path). RemovingFile before p T) c.place.ensures removes)) in
    let second = joins first (weaken (c.settle.ensures.leaves honest) (λ T same. subst (IsOldOrRewritten Removed place before) (sym same) first.tree)) in
    joins second (weaken (c.unlock.ensures.leaves honest) (λ T goes. off_lock before place Removed _ T second.tree goes.0))

pub returns-in-Err-clause-passes : goal.returns-in-Err-clause-passes
returns-in-Err-clause-passes g c honest ready =
    let place = c.args.lock.now in
    let D = disk_of (g.F.Files.means c.args.files.now) in
    passes_weaken (c.remove_file.ensures.passes honest) (λ E removes. keeps_removal place D ready E (subst (λ (p : Path). RemovingFileOn D p E) c.place.ensures removes))

pub returns-in_err-settle-clause-passes : goal.returns-in_err-settle-clause-passes
returns-in_err-settle-clause-passes g c honest ready =
    let place = c.args.lock.now in
    let D = disk_of (g.F.Files.means c.args.files.now) in
    let first = passes_weaken (c.remove_file.ensures.passes honest) (λ E removes. keeps_removal place D ready E (subst (λ (p : Path). RemovingFileOn D p E) c.place.ensures removes)) in
    passes_joins first (passes_weaken (c.settle.ensures.passes honest) (λ E settles. keeps_settling Removed place D _ E _ settles first.disk))

pub returns-clause-passes : goal.returns-clause-passes
returns-clause-passes g c honest ready =
    let place = c.args.lock.now in
    let D = disk_of (g.F.Files.means c.args.files.now) in
    let first = passes_weaken (c.remove_file.ensures.passes honest) (λ E removes. keeps_removal place D ready E (subst (λ (p : Path). RemovingFileOn D p E) c.place.ensures removes)) in
    let second = passes_joins first (passes_weaken (c.settle.ensures.passes honest) (λ E settles. keeps_settling Removed place D _ E _ settles first.disk)) in
    passes_joins second (passes_weaken (c.unlock.ensures.passes honest) (λ E unlocks. keeps_unlock Removed place D _ E unlocks second.disk))

pub returns-clause-settled : goal.returns-clause-settled
returns-clause-settled g c honest ready =
    let place = c.args.lock.now in
    let D = disk_of (g.F.Files.means c.args.files.now) in
    let E = disk_of (g.F.Files.means c.remove_file.new.self) in
    let removed = c.in_default.field-0 in
    let removing = subst (λ (p : Path). RemovingFileOn D p E) c.place.ensures (c.remove_file.ensures.passes honest).disk in
    let none = none_removed_at D.tree E.tree place removed (subst (λ (p : Path). RemovesFile D.tree p E.tree removed) c.place.ensures (c.in_default.ensures.answer honest)) in
    let is = subst (λ (p : Path). E ≡ after_removal D p removed) c.place.ensures (c.in_default.ensures.disk honest) in
    when_ok c.unlock.result
    (settles_removed place D ready removed none E _ _ is removing (c.in_ok-settle.ensures.synced honest (folder_there Removed place D E (keeps_removal place D ready E removing))) (c.unlock.ensures.passes honest).disk)
