use Rattle.gix_ref_log.proofs.SignatureLemmas.{seconds_utf8}
use Rattle.gix_ref_log.proofs.actor.parse_seconds_general.Goals as goal

pub returns-in-Err : goal.returns-in-Err
returns-in-Err c = λ n h. c.in-Err.ensures.cases.0 (seconds_utf8 c.args.text.now n h)
