use Rattle.std.proofs.lemmas.Str.{IsUtf8-from_ascii}
use Rattle.gix_ref_queries.proofs.Digits.{digits_ascii}
use Rattle.gix_ref_queries.proofs.argument.count.Goals as goal

pub returns-in-Err : goal.returns-in-Err
returns-in-Err c = λ n is. c.in-Err.ensures.cases.0 (IsUtf8-from_ascii c.args.digits.now (digits_ascii c.args.digits.now is.0.1))
