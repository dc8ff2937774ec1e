use Rattle.std.proofs.Common.{length, ap, ◌∙◌}
use Rattle.memchr.specs.Find.{is_byte}
use Rattle.memchr.proofs.lemmas.CallerLemmas.{length-places}
use Rattle.gix_ref_packed.proofs.packed.iter.parts.count_line_feeds.Goals as goal

pub returns-clause-count : goal.returns-clause-count
returns-clause-count c = c.count.ensures ∙ ap length c.memchr_iter.ensures.value ∙ length-places (is_byte 10) c.args.text.now
