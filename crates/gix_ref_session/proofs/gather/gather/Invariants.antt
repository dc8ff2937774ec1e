use Rattle.gix_ref_session.proofs.GatherLemmas.{SoFar}
use Rattle.gix_ref_session.specs.Gathering.{as_gathering}
use Rattle.gix_ref_session.proofs.gather.gather.Given as goal

abbrev pub invariant-commands : goal.invariant-commands
invariant-commands g l = SoFar l.session l.needs_start (g.R.Read.remaining l.fn.input) (g.W.Write.contents l.fn.out) (as_gathering (g.R.Read.remaining l.input) (g.W.Write.contents l.out) l.gathered)
