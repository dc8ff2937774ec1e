use Rattle.gix_ref_object.proofs.Chains.{Walks}
use Rattle.gix_ref_object.proofs.peel.peel_to_end.Given as goal

abbrev pub invariant-loop : goal.invariant-loop
invariant-loop g l = Walks (g.T.Find.claims l.finder) (g.T.Find.meaning l.finder) l.fn.id l.counter l.at
