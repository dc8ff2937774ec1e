use Rattle.gix_ref_follow.proofs.Chains.{to_object, to_nothing, back, too_far}
use Rattle.gix_ref_follow.proofs.laws.ends_of_followings.Goals as goal

pub returns-clause-object : goal.returns-clause-object
returns-clause-object c = to_object

pub returns-clause-dangling : goal.returns-clause-dangling
returns-clause-dangling c = to_nothing

pub returns-clause-circular : goal.returns-clause-circular
returns-clause-circular c = back

pub returns-clause-too_deep : goal.returns-clause-too_deep
returns-clause-too_deep c = too_far
