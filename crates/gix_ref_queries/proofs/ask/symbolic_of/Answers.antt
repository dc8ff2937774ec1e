use Rattle.gix_ref_queries.specs.Patterns.{texts}
use Rattle.gix_ref_queries.proofs.AskLemmas.{no_symbolic}
use Rattle.gix_ref_queries.proofs.ask.symbolic_of.Goals as goal

pub returns-in_err-rest : goal.returns-in_err-rest
returns-in_err-rest c =
    rw c.from_residual.ensures (no_symbolic (texts c.args.words.now) c.in_default.ensures c.in_err-rest.ensures)
