use Rattle.std.proofs.Common.{◌≡◌, take, map}
use Rattle.gix_ref_transaction.specs.PrepareSteps.{updates}
use Rattle.gix_ref_store.proofs.file.transaction.lent_updates.Given as goal

-- the updates of the edits that were seen
abbrev pub invariant-loop-edit : goal.invariant-loop-edit
invariant-loop-edit l = map (λ update. update.now) l.lent.items ≡ updates (take l.edit-index l.edits)
