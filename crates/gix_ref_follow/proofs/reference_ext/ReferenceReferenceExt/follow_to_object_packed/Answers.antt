use Rattle.gix_ref_follow.proofs.reference_ext.ReferenceReferenceExt.follow_to_object_packed.Goals as goal

pub returns-in-Some-clause-hits : goal.returns-in-Some-clause-hits
returns-in-Some-clause-hits g c h = rw c.in-Some.is (c.follow_among.ensures.hits h tt)

pub returns-in-None-clause-followed : goal.returns-in-None-clause-followed
returns-in-None-clause-followed g c h records are = rw c.in-None.is (c.follow_among-in-None.ensures.followed h records (rw c.in-None.is at are))

pub returns-in-Some-clause-failed : goal.returns-in-Some-clause-failed
returns-in-Some-clause-failed g c = rw c.in-Some.is c.follow_among.ensures.failed

pub returns-in-None-clause-failed : goal.returns-in-None-clause-failed
returns-in-None-clause-failed g c = rw c.in-None.is c.follow_among-in-None.ensures.failed
