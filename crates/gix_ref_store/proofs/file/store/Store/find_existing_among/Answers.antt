use Rattle.gix_ref_store.proofs.LooseAnswers.{if_not_found}
use Rattle.gix_ref_store.proofs.file.store.Store.find_existing_among.Goals as goal

pub returns-in-Ok-Some-clause-seen : goal.returns-in-Ok-Some-clause-seen
returns-in-Ok-Some-clause-seen g c h honest = rw c.in-Ok-Some.field-0-is at (c.in-Ok-Some.ensures.seen h honest)

pub returns-in-Ok-None-clause-seen : goal.returns-in-Ok-None-clause-seen
returns-in-Ok-None-clause-seen g c h honest = if_not_found _ (rw c.in-Ok-None.field-0-is at (c.in-Ok-None.ensures.seen h honest))
