use Rattle.gix_ref_session.proofs.FolderLemmas.{AreSameBefore}
use Rattle.gix_ref_session.proofs.clash.common_prefix_len.Given as goal

-- the bytes so far are those of both
abbrev pub invariant-loop-at : goal.invariant-loop-at
invariant-loop-at l = AreSameBefore l.at l.name l.other
