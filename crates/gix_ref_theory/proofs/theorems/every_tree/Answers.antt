use Rattle.gix_ref_theory.proofs.Trees as trees
use Rattle.gix_ref_theory.proofs.theorems.every_tree.Goals as goal

pub returns-clause-stopped : goal.returns-clause-stopped
returns-clause-stopped c = trees.left_well

pub returns-clause-ended : goal.returns-clause-ended
returns-clause-ended c = trees.ended_well

pub returns-clause-committed : goal.returns-clause-committed
returns-clause-committed c = trees.committed

pub returns-clause-folders : goal.returns-clause-folders
returns-clause-folders c = trees.folders
