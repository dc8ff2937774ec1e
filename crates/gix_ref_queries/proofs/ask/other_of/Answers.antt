use Rattle.gix_ref_queries.specs.Patterns.{texts}
use Rattle.gix_ref_queries.proofs.AskLemmas.{no_other}
use Rattle.gix_ref_queries.proofs.ask.other_of.Goals as goal

pub returns : goal.returns
returns c each =
    no_other (texts c.args.words.now) each c.in_default.ensures c.in_default-after_word.ensures c.in_default-after_word-2.ensures c.in_default-after_word-3.ensures
