use Rattle.gix_ref_packed_transaction.specs.Changes.{change_values}
use Rattle.gix_ref_packed_transaction.proofs.LockSteps.{made_of}
use Rattle.gix_ref_packed_transaction.proofs.transaction.commit.rewritten.Goals as goal

pub returns-in-Some-clause-made : goal.returns-in-Some-clause-made
returns-in-Some-clause-made c =
    made_of c.args.kind (change_values c.args.changes.now) c.args.buffer.now c.in-Some.buffer c.in-Some.is c.changed.result c.changed.ensures.rewritten
