use Rattle.gix_ref_log.proofs.LineLemmas.{one_line}
use Rattle.gix_ref_log.proofs.LinesAgain.{written_again, appended_again}
use Rattle.gix_ref_log.proofs.laws.lines_read_back.Goals as goal

pub returns-clause-one : goal.returns-clause-one
returns-clause-one c = λ text line other is also. one_line text other line also is

pub returns-clause-written : goal.returns-clause-written
returns-clause-written c = written_again

pub returns-clause-appended : goal.returns-clause-appended
returns-clause-appended c = appended_again
