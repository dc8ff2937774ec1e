use Rattle.std.proofs.Common.{rules, tests}
use Rattle.std.proofs.lemmas.Iterator.Consumers.{map_from_collect}
use Rattle.std.proofs.lemmas.Iterator.Splits.{YieldsList-from_slice_split}
use Rattle.gix_ref_session.proofs.command.words_of.Goals as goal

pub returns-in-Lines : goal.returns-in-Lines
returns-in-Lines c = rw c.in-Lines.is (map_from_collect _ c.collect.ensures.ran (YieldsList-from_slice_split _ _ c.args.text.now c.split.ensures.rest c.split.ensures.done c.split.ensures.closure (λ x r q k. search (rules, tests))))

pub returns-in-Nul : goal.returns-in-Nul
returns-in-Nul c = rw c.in-Nul.is (map_from_collect _ c.collect-in-Nul.ensures.ran (YieldsList-from_slice_split _ _ c.args.text.now c.split-in-Nul.ensures.rest c.split-in-Nul.ensures.done c.split-in-Nul.ensures.closure (λ x r q k. search (rules, tests))))
