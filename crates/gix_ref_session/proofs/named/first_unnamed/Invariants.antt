use Rattle.std.proofs.Common.{take}
use Rattle.gix_ref_session.specs.Named.{AreNamed}
use Rattle.gix_ref_session.proofs.NamedLemmas.{lent}
use Rattle.gix_ref_session.proofs.named.first_unnamed.Given as goal

-- all so far are named
abbrev pub invariant-loop-at : goal.invariant-loop-at
invariant-loop-at l = AreNamed (lent l.held) (take l.at l.edits)
