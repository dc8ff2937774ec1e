use Rattle.std.proofs.Common.{[]}
use Rattle.gix_ref_session.proofs.command.nul_option.Goals as goal

pub returns-in_err-rest : goal.returns-in_err-rest
returns-in_err-rest c = rw c.from_residual.ensures (c.in_err-rest.ensures [])
