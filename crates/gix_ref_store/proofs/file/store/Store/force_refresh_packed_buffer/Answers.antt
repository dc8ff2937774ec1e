use Rattle.gix_ref_store.proofs.file.store.Store.force_refresh_packed_buffer.Goals as goal

pub returns-in-Ok-clause-opened : goal.returns-in-Ok-clause-opened
returns-in-Ok-clause-opened g c h = (_, c.in-Ok.ensures.opened h)
