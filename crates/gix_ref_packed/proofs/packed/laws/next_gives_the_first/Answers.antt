use Rattle.gix_ref_packed.proofs.OneItem.{next_gives_first, faults_are_lines, ended_stays_ended}
use Rattle.gix_ref_packed.proofs.OwedRecords.{next_pays}
use Rattle.gix_ref_packed.proofs.TextItems.{next_is_of}
use Rattle.gix_ref_packed.proofs.packed.laws.next_gives_the_first.Goals as goal

pub returns-clause-first : goal.returns-clause-first
returns-clause-first c = next_gives_first

pub returns-clause-lines : goal.returns-clause-lines
returns-clause-lines c = faults_are_lines

pub returns-clause-ended : goal.returns-clause-ended
returns-clause-ended c = ended_stays_ended

pub returns-clause-pays : goal.returns-clause-pays
returns-clause-pays c = next_pays

pub returns-clause-of : goal.returns-clause-of
returns-clause-of c = next_is_of
