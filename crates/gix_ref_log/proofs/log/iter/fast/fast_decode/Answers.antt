use Rattle.gix_ref_log.proofs.FastLines.{front_is_line}
use Rattle.gix_ref_log.proofs.log.iter.fast.fast_decode.Goals as goal

pub returns-clause-front : goal.returns-clause-front
returns-clause-front c =
    let ids = c.in_ok-previous_oid.ensures in
    let cut = c.in_ok-head.ensures in
    record { ids = ids.0; rest = _; head = _; previous = ids.1; new = ids.2; tab = cut.0; one_line = cut.1; who = c.in_ok-signature.ensures }

pub returns-clause-line : goal.returns-clause-line
returns-clause-line c = λ none. front_is_line c.args.text.now _ none (returns-clause-front c)
