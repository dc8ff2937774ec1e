use Rattle.std.proofs.Common.{suc}
use Rattle.gix_ref_object.proofs.Chains.{chain_end, chain_too_long, ring_too_long}
use Rattle.gix_ref_object.proofs.laws.ends_of_chains.Goals as goal

pub returns-clause-end : goal.returns-clause-end
returns-clause-end c = chain_end

pub returns-clause-too_long : goal.returns-clause-too_long
returns-clause-too_long c = λ m tags id last chain. chain_too_long m (suc tags) id last chain

pub returns-clause-itself : goal.returns-clause-itself
returns-clause-itself c = λ m tags id tag. ring_too_long m (suc tags) id tag
