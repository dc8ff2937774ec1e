use Rattle.gix_ref_follow.proofs.reference_ext.ReferenceReferenceExt.peel_to_id_packed.Goals as goal

pub returns-in-None-clause-peeled : goal.returns-in-None-clause-peeled
returns-in-None-clause-peeled g c h claims records are = rw c.in-None.is (c.peel_among-in-None.ensures.peeled h claims records (rw c.in-None.is at are))

pub returns-in-Some-clause-failed : goal.returns-in-Some-clause-failed
returns-in-Some-clause-failed g c = rw c.in-Some.is c.peel_among.ensures.failed

pub returns-in-None-clause-failed : goal.returns-in-None-clause-failed
returns-in-None-clause-failed g c = rw c.in-None.is c.peel_among-in-None.ensures.failed
