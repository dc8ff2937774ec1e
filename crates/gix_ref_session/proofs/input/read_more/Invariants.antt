use Rattle.gix_ref_session.proofs.InputLemmas.{MoreSoFar}
use Rattle.gix_ref_session.proofs.input.read_more.Given as goal

abbrev pub decreases-fields : goal.decreases-fields
decreases-fields g l = l.left

abbrev pub invariant-fields : goal.invariant-fields
invariant-fields g l = MoreSoFar l.count l.left (g.R.Read.remaining l.fn.input) (g.R.Read.remaining l.input) l.fn.text.items l.text.items
