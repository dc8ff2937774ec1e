use Rattle.std.proofs.Common.{◌≡◌, take}
use Rattle.gix_ref_transaction.specs.PrepareSteps.{setting_of, places_of}
use Rattle.gix_ref_transaction.proofs.prepare.hold.locks_at.Given as goal

-- the locks so far are those of the edits so far
abbrev pub invariant-loop-edit : goal.invariant-loop-edit
invariant-loop-edit l = l.locks.items ≡ places_of (setting_of l.settings) (take l.edit-index l.edits)
