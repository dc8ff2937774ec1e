use Rattle.std.proofs.Common.{refl, rules}
use Rattle.gix_ref_pack.proofs.pack.put.Goals as goal

pub returns-in-Ok-clause-ends : goal.returns-in-Ok-clause-ends
returns-in-Ok-clause-ends g c = (search rules, (c.in-Ok.done, refl, rw c.mode.ensures at c.in-Ok.ensures.made))

pub returns-in-Err-Prepare-clause-ends : goal.returns-in-Err-Prepare-clause-ends
returns-in-Err-Prepare-clause-ends g c = (c.in-Err-Prepare.refused, refl, refl, rw (c.mode.ensures, c.in-Err-Prepare.field-0-is) at c.in-Err-Prepare.ensures.not_made)

pub returns-in-Err-Commit-clause-ends : goal.returns-in-Err-Commit-clause-ends
returns-in-Err-Commit-clause-ends g c = (c.in-Err-Commit.failed, refl, refl, rw (c.mode.ensures, c.in-Err-Commit.field-0-is) at c.in-Err-Commit.ensures.not_made)
