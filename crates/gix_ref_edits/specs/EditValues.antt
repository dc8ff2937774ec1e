-- Edits as values: their names, messages and targets as bytes and ids, so that equal edits are equal terms.
use Rattle.std.specs.Prelude.{ℕ, List, Bool}
use Rattle.gix_ref_target.specs.Targets.{TargetValue, target_value}
use Rattle.gix_ref_edits.specs.declared.transaction.RefLog.{RefLog}
use Rattle.gix_ref_edits.specs.declared.transaction.Change.{Change}
use Rattle.gix_ref_edits.specs.declared.transaction.Change.TheVariants.{Update, Delete}
use Rattle.gix_ref_edits.specs.declared.transaction.PreviousValue.{PreviousValue}
use Rattle.gix_ref_edits.specs.declared.transaction.PreviousValue.TheVariants.{Any, MustExist, MustNotExist, MustExistAndMatch, ExistingMustMatch}
use Rattle.gix_ref_edits.specs.declared.transaction.RefEdit.{RefEdit}
use Rattle.gix_ref_edits.specs.RefEdits.{name_of}

-- what an edit expects
pub data ExpectedValue : Type 0 where
  anything : ExpectedValue
  must_exist : ExpectedValue
  must_not_exist : ExpectedValue
  must_match : TargetValue → ExpectedValue
  may_match : TargetValue → ExpectedValue

-- what an edit does: an update with the mode, the force flag and the message of its log, what it expects and the new
-- target; a deletion with what it expects and the mode of its log
pub data ChangeValue : Type 0 where
  update : (mode : RefLog) (forced : Bool) (message : List ℕ) (expected : ExpectedValue)
      (new : TargetValue) → ChangeValue
  delete : (expected : ExpectedValue) (mode : RefLog) → ChangeValue

pub record EditValue : Type 0 where
  pub name : List ℕ
  pub change : ChangeValue
  -- a symbolic reference is followed
  pub deref : Bool

abbrev pub expected_value : PreviousValue → ExpectedValue
expected_value Any = anything
expected_value MustExist = must_exist
expected_value MustNotExist = must_not_exist
expected_value (MustExistAndMatch target) = must_match (target_value target)
expected_value (ExistingMustMatch target) = may_match (target_value target)

abbrev pub change_value : Change → ChangeValue
change_value (Update log expected new) =
    update log.mode log.force_create_reflog log.message.items (expected_value expected)
    (target_value new)
change_value (Delete expected log) = delete (expected_value expected) log

abbrev pub edit_value : RefEdit → EditValue
edit_value edit =
    record { name = name_of edit; change = change_value edit.change; deref = edit.deref }
