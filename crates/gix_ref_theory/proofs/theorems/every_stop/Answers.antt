use Rattle.gix_ref_theory.proofs.Headline as headline
use Rattle.gix_ref_theory.proofs.Locks as locks
use Rattle.gix_ref_theory.proofs.MergedRecords.{merged_once}
use Rattle.gix_ref_theory.proofs.theorems.every_stop.Goals as goal

pub returns-clause-between : goal.returns-clause-between
returns-clause-between c = headline.between

pub returns-clause-no_deletion_first : goal.returns-clause-no_deletion_first
returns-clause-no_deletion_first c = headline.no_deletion_first

pub returns-clause-in_order : goal.returns-clause-in_order
returns-clause-in_order c = headline.in_order

pub returns-clause-committed : goal.returns-clause-committed
returns-clause-committed c = headline.committed

pub returns-clause-one_text : goal.returns-clause-one_text
returns-clause-one_text c = merged_once

pub returns-clause-no_locks : goal.returns-clause-no_locks
returns-clause-no_locks c s laws mode locked edits merged before view alike p =
    (locks.prepared_alike s laws mode locked edits merged before view alike p, locks.plan_alike s laws mode locked edits merged p.apart before view alike)
