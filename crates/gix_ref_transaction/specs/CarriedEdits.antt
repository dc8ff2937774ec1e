-- Edits as the plan of a commit has them, and edits that carry what was found.
use Rattle.std.specs.Prelude.{◌≡◌, ◌<◌, ℕ, List, Option, Some, None, MatchOption, length, slice_index_or}
use Rattle.gix_ref_target.specs.Targets.{TargetValue, target_value}
use Rattle.gix_ref_theory.specs.Edits as plan
use Rattle.gix_ref_edits.specs.RefEdits.{name_of, expected_of, mode_of, is_forced, message_of, is_of_reference, matched}
use Rattle.gix_ref_edits.specs.declared.transaction.Change.{Change}
use Rattle.gix_ref_edits.specs.declared.transaction.Change.TheVariants.{Update, Delete}
use Rattle.gix_ref_edits.specs.declared.transaction.RefEdit.{RefEdit}

-- an edit as the plan of a commit has it, where no log line is due
abbrev pub change_of : Change → plan.Change
change_of (Update log expected new) = plan.Change.Update (target_value new)
change_of (Delete expected log) = plan.Change.Delete

abbrev pub edit_of : RefEdit → plan.Edit
edit_of edit = record {
  name = name_of edit;
  change = change_of edit.change;
  and_reference = is_of_reference (mode_of edit.change);
  line = None;
  peeled = None;
}

-- An edit that carries what was found of it: it expects just that.
pub record IsCarried (before : RefEdit) (found : Option TargetValue)
    (after : RefEdit) : Type 0 where
  pub name : after.name ≡ before.name
  pub deref : after.deref ≡ before.deref
  pub change : change_of after.change ≡ change_of before.change
  pub mode : mode_of after.change ≡ mode_of before.change
  pub forced : is_forced after.change ≡ is_forced before.change
  pub message : message_of after.change ≡ message_of before.change
  pub expected : MatchOption found (expected_of after.change ≡ expected_of before.change)
      (λ target. matched (expected_of after.change) ≡ Some target)

-- edits that carry what was found of each
pub record AreCarried (before : List RefEdit) (found : List (Option TargetValue))
    (after : List RefEdit) : Type 0 where
  pub len : length after ≡ length before
  pub each : (k : ℕ) (d : RefEdit) → k < length before →
      IsCarried (slice_index_or before k d) (slice_index_or found k None) (slice_index_or after k d)
