use Rattle.gix_ref_session.proofs.QuoteLemmas.{no_words, word_more}
use Rattle.gix_ref_session.proofs.quote.unquote_words.Goals as goal

pub loop-word-preserved : goal.loop-word-preserved
loop-word-preserved c =
    word_more c.args.words.now c.loop-word.word-index _ c.loop-word.plain.items c.push.new.self.items c.in-Some.word c.loop-word-test.true c.loop-word.invariant (rw c.in-Some.is at c.in_ok-word.ensures) c.in_ok-push.ensures.items

pub returns-in_default-clause-refused : goal.returns-in_default-clause-refused
returns-in_default-clause-refused c is =
    no_words c.args.words.now c.loop-word.word-index _ c.loop-word-test.true (rw c.in_default.is at c.in_ok-word.ensures)
