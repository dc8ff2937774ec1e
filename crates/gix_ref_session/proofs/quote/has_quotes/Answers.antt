use Rattle.gix_ref_session.proofs.QuoteLemmas.{unquoted_more}
use Rattle.gix_ref_session.proofs.quote.has_quotes.Goals as goal

pub loop-word-preserved : goal.loop-word-preserved
loop-word-preserved c =
    unquoted_more c.args.words.now c.loop-word.word-index _ c.loop-word-test.true c.loop-word.invariant (c.is_quoted.ensures c.if-is_quoted.false)
