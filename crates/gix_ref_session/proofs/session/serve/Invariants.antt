use Rattle.gix_ref_session.specs.Sessions.{way, way_on}
use Rattle.gix_ref_session.proofs.Serving.{SoFar}
use Rattle.gix_ref_session.proofs.session.serve.Given as goal

abbrev pub invariant-transactions : goal.invariant-transactions
invariant-transactions g l =
    let F = g.F.Files in
    SoFar g.F.Reader.ReadAt F.honest F.means F.faults l.session
    (way (g.R.Read.remaining l.fn.input) (g.W.Write.contents l.fn.out) l.fn.store)
    (way_on l.needs_start (g.R.Read.remaining l.input) (g.W.Write.contents l.out) l.store)
