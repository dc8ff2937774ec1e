use Rattle.gix_ref_files.proofs.Moments.{losses}
use Rattle.gix_ref_packed_transaction.specs.PackedTransactions.{transaction_place}
use Rattle.gix_ref_packed_transaction.proofs.Losses.{lost_unlocking}
use Rattle.gix_ref_packed_transaction.proofs.transaction.Transaction.rollback.Goals as goal

pub returns-clause-lost : goal.returns-clause-lost
returns-clause-lost g c honest = losses _ (λ E unlocks T lost. lost_unlocking (transaction_place c.args.self) _ E T unlocks lost) (c.remove.ensures.passes honest)
