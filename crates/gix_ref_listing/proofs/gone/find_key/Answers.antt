use Rattle.gix_ref_lookup.proofs.Opening.{if_ok, ok_of, some_of}
use Rattle.gix_ref_listing.proofs.gone.find_key.Goals as goal

pub returns-in-Ok-clause-found : goal.returns-in-Ok-clause-found
returns-in-Ok-clause-found g c h records are = ok_of _ _ c.find.result (c.find.ensures.found c.args.settings.kind records (c.in-Ok.ensures.asked h records are))

pub returns-in-Ok-clause-hit : goal.returns-in-Ok-clause-hit
returns-in-Ok-clause-hit g c h =
    if_ok c.find.result
    (λ found. some_of _ found (λ ids o. record { of_kind = o.of_kind; text = o.text; opened = (c.in-Ok.ensures.opened h).searched o.of_kind o.text o.searched; hits = o.has }))
    (c.find.ensures.seen ((c.in-Ok.ensures.opened h).readers tt) c.args.settings.kind)
