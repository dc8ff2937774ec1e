use Rattle.gix_ref_store.specs.ComposedEdits.{AreComposedEdits}
use Rattle.gix_ref_store.proofs.file.transaction.prepare.compose.compose_edits.Given as goal

-- the edits so far are those of the composed names
abbrev pub invariant-loop-edit : goal.invariant-loop-edit
invariant-loop-edit l = AreComposedEdits l.yielded l.asked.items
