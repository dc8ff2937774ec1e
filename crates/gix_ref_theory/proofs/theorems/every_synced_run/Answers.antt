use Rattle.gix_ref_theory.proofs.OnDisks as disks
use Rattle.gix_ref_theory.proofs.SmallCommit.{small_commit}
use Rattle.gix_ref_theory.proofs.theorems.every_synced_run.Goals as goal

pub returns-clause-within : goal.returns-clause-within
returns-clause-within c = disks.within

pub returns-clause-removal : goal.returns-clause-removal
returns-clause-removal c = disks.removal

pub returns-clause-losses : goal.returns-clause-losses
returns-clause-losses c = disks.losses

pub returns-clause-in_one : goal.returns-clause-in_one
returns-clause-in_one c = disks.in_one

pub returns-clause-settles : goal.returns-clause-settles
returns-clause-settles c = disks.settles

pub returns-clause-done : goal.returns-clause-done
returns-clause-done c = disks.done_kept

pub returns-clause-own : goal.returns-clause-own
returns-clause-own c = disks.own_steps

pub returns-clause-syncs : goal.returns-clause-syncs
returns-clause-syncs c = disks.syncs

pub returns-clause-small_commit : goal.returns-clause-small_commit
returns-clause-small_commit c = small_commit
