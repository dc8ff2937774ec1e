use Rattle.std.proofs.Common.{◌≡◌, ◌+◌}
use Rattle.gix_ref_session.proofs.Settling.{SoFar}
use Rattle.gix_ref_session.proofs.session.settle.Given as goal

abbrev pub decreases-tries : goal.decreases-tries
decreases-tries g l = l.patience.lock + l.patience.packed + l.patience.switches

abbrev pub invariant-tries : goal.invariant-tries
invariant-tries g l =
    let F = g.F.Files in
    SoFar g.F.Reader.ReadAt F.honest F.means F.faults l.session l.edits l.fn.store l.store l.patience
    × (g.R.Read.remaining l.input ≡ g.R.Read.remaining l.fn.input)
    × (g.W.Write.contents l.out ≡ g.W.Write.contents l.fn.out)
