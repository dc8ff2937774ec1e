use Rattle.std.proofs.Common.{take}
use Rattle.gix_ref_name.specs.Names.{full_bytes}
use Rattle.gix_ref_session.specs.Named.{IsHeld}
use Rattle.gix_ref_session.proofs.NamedLemmas.{lent}
use Rattle.gix_ref_session.proofs.named.is_held.Given as goal

-- none so far
abbrev pub invariant-loop-edit : goal.invariant-loop-edit
invariant-loop-edit l = IsHeld (lent (take l.edit-index l.held)) (full_bytes l.name) → ⊥
