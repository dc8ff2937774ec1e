use Rattle.std.proofs.Common.{not, ap, ◌∙◌}
use Rattle.gix_ref_transaction.specs.PrepareSteps.{setting_of}
use Rattle.gix_ref_transaction.proofs.PackedLocks.{absent_by}
use Rattle.gix_ref_transaction.proofs.prepare.packed_lock.known_missing.Goals as goal

pub returns-then-is_none : goal.returns-then-is_none
returns-then-is_none c mode T taken may =
    absent_by (setting_of c.args.settings.now) mode T c.args.edits.now c.args.packed.now c.may_touch_packed_refs.result c.may_touch_packed_refs.ensures (c.is_none.ensures ∙ ap not c.if-is_none.true) taken may
