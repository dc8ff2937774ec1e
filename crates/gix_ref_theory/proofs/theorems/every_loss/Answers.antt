use Rattle.gix_ref_theory.proofs.LossMain as main
use Rattle.gix_ref_theory.proofs.StopLogs.{stop_logs}
use Rattle.gix_ref_theory.proofs.theorems.every_loss.Goals as goal

pub returns-clause-between : goal.returns-clause-between
returns-clause-between c = main.every_loss

pub returns-clause-kept : goal.returns-clause-kept
returns-clause-kept c = main.whole_run

pub returns-clause-stop_logs : goal.returns-clause-stop_logs
returns-clause-stop_logs c = stop_logs

pub returns-clause-among : goal.returns-clause-among
returns-clause-among c = main.every_loss_among
