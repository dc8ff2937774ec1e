use Rattle.gix_ref_packed_text.proofs.StepLemmas.{InTurn}
use Rattle.gix_ref_packed_text.proofs.step.apply_all.Given as goal

abbrev pub invariant-loop-edit : goal.invariant-loop-edit
invariant-loop-edit l = InTurn l.kind l.edits l.records l.fn.text.items l.edit-index l.ahead l.text.items l.alters
