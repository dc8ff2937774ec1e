use Rattle.gix_ref_theory.proofs.WorkedExample as example
use Rattle.gix_ref_theory.proofs.example.worked_example.Goals as goal

pub returns-clause-prepared : goal.returns-clause-prepared
returns-clause-prepared c = example.prepared

pub returns-clause-plan : goal.returns-clause-plan
returns-clause-plan c = example.five_writes

pub returns-clause-rows : goal.returns-clause-rows
returns-clause-rows c = (example.row0, example.row1, example.row2, example.row3, example.row4, example.row5)

pub returns-clause-lengths : goal.returns-clause-lengths
returns-clause-lengths c = example.lengths

pub returns-clause-packed_first : goal.returns-clause-packed_first
returns-clause-packed_first c = example.packed_first

pub returns-clause-reverse : goal.returns-clause-reverse
returns-clause-reverse c = example.reverse

pub returns-clause-removed_first : goal.returns-clause-removed_first
returns-clause-removed_first c = example.removed_first

pub returns-clause-removing_mode : goal.returns-clause-removing_mode
returns-clause-removing_mode c = example.removing_mode

pub returns-clause-removing_order : goal.returns-clause-removing_order
returns-clause-removing_order c = example.removing_order

pub returns-clause-places : goal.returns-clause-places
returns-clause-places c = example.places

pub returns-clause-carried : goal.returns-clause-carried
returns-clause-carried c = example.carried
