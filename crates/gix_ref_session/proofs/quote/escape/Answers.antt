use Rattle.std.proofs.Common.{sym, ◌∙◌}
use Rattle.gix_ref_session.proofs.QuoteLemmas.{no_escape}
use Rattle.gix_ref_session.proofs.quote.escape.Goals as goal

pub returns-in_err-octal-in-len3-up : goal.returns-in_err-octal-in-len3-up
returns-in_err-octal-in-len3-up c =
    rw c.from_residual-in_err-octal-in-len3-up.ensures
    (no_escape c.args.text.now c.in_ok-letter.letter.now c.in_ok-letter.rest.now c.in_ok-letter.ensures.cases.0 (sym c.escaped.ensures ∙ c.in_default.is) c.in_err-octal-in-len3-up.ensures)
