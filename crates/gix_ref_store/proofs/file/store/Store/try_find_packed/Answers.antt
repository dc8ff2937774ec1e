use Rattle.gix_ref_store.proofs.file.store.Store.try_find_packed.Goals as goal

pub returns-in-None-clause-found : goal.returns-in-None-clause-found
returns-in-None-clause-found g c h records are = rw c.in-None.is (c.find_among-in-None.ensures.found h records (rw c.in-None.is at are))

pub returns-in-Some-clause-found : goal.returns-in-Some-clause-found
returns-in-Some-clause-found g c h records are = rw c.in-Some.is (c.find_among.ensures.found h records (rw c.in-Some.is at are))

pub returns-in-None-clause-seen : goal.returns-in-None-clause-seen
returns-in-None-clause-seen g c h = rw c.in-None.is (c.find_among-in-None.ensures.seen h tt)

pub returns-in-Some-clause-seen : goal.returns-in-Some-clause-seen
returns-in-Some-clause-seen g c h = rw c.in-Some.is (c.find_among.ensures.seen h tt)
