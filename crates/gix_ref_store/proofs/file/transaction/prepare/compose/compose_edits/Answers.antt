use Rattle.std.proofs.Common.{}
use Rattle.gix_ref_store.proofs.ComposedLists.{composed_more}
use Rattle.gix_ref_store.proofs.file.transaction.prepare.compose.compose_edits.Goals as goal

pub loop-edit-preserved : goal.loop-edit-preserved
loop-edit-preserved c =
    rw c.in_ok-push.ensures.items
    (composed_more c.loop-edit.yielded c.loop-edit.asked.items c.in-Some.edit c.in_ok-compose_edit.field-0 c.loop-edit.invariant c.in_ok-compose_edit.ensures)
