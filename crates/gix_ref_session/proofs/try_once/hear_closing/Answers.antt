use Rattle.std.proofs.Common.{inr, rules}
use Rattle.gix_ref_session.proofs.try_once.hear_closing.Goals as goal

pub returns-in-Ok-Some : goal.returns-in-Ok-Some
returns-in-Ok-Some g c = inr (search rules, c.in-Ok.ensures.said)

pub returns-in-Err-next_command : goal.returns-in-Err-next_command
returns-in-Err-next_command g c = inr (inr c.in-Err-next_command.ensures.fails, c.in-Ok.ensures.said)
