use Rattle.std.proofs.Common.{◌≡◌, take}
use Rattle.gix_ref_transaction.specs.PrepareSteps.{setting_of}
use Rattle.gix_ref_packed_transaction.specs.Changes.{change_values}
use Rattle.gix_ref_packed_transaction.specs.internal.ChangedKeys.{key_changes}
use Rattle.gix_ref_packed_transaction.proofs.changes.changes_of.Given as goal

-- the changes so far are those of the edits so far
abbrev pub invariant-loop-edit : goal.invariant-loop-edit
invariant-loop-edit l = change_values l.changes.items ≡ key_changes (setting_of l.settings) (take l.edit-index l.edits)
