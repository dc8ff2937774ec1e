-- Edits as a caller gives them: what each asks for, and what it expects (`git update-ref`).
use Rattle.std.specs.Prelude.{◌≡◌, ◌⊎◌, ℕ, List, [], Bool, true, false, Option, Some, None, IsSome, All}
use Rattle.gix_ref_name.specs.Names.{full_bytes}
use Rattle.gix_ref_target.specs.Targets.{TargetValue, target_value}
use Rattle.gix_ref_edits.specs.declared.transaction.LogChange.{LogChange}
use Rattle.gix_ref_edits.specs.declared.transaction.RefLog.{RefLog}
use Rattle.gix_ref_edits.specs.declared.transaction.RefLog.TheVariants.{AndReference, Only}
use Rattle.gix_ref_edits.specs.declared.transaction.Change.{Change}
use Rattle.gix_ref_edits.specs.declared.transaction.Change.TheVariants.{Update, Delete}
use Rattle.gix_ref_edits.specs.declared.transaction.PreviousValue.{PreviousValue}
use Rattle.gix_ref_edits.specs.declared.transaction.PreviousValue.TheVariants.{Any, MustExist, MustNotExist, MustExistAndMatch, ExistingMustMatch}
use Rattle.gix_ref_edits.specs.declared.transaction.RefEdit.{RefEdit}

-- the bytes of an edit's name
abbrev pub name_of : RefEdit → List ℕ
name_of edit = full_bytes edit.name

-- the new target of an update
abbrev pub new_of : Change → Option TargetValue
new_of (Update log expected new) = Some (target_value new)
new_of (Delete expected log) = None

-- what a change expects
abbrev pub expected_of : Change → PreviousValue
expected_of (Update log expected new) = expected
expected_of (Delete expected log) = expected

-- whether a change is of the reference, or of its log alone
abbrev pub mode_of : Change → RefLog
mode_of (Update log expected new) = log.mode
mode_of (Delete expected log) = log

-- whether an update makes a log where it does not exist, and the message of its line
abbrev pub is_forced : Change → Bool
is_forced (Update log expected new) = log.force_create_reflog
is_forced (Delete expected log) = false

abbrev pub message_of : Change → List ℕ
message_of (Update log expected new) = log.message.items
message_of (Delete expected log) = []

abbrev pub is_of_reference : RefLog → Bool
is_of_reference AndReference = true
is_of_reference Only = false

-- the target that an expectation names
abbrev pub previous_of : PreviousValue → Option TargetValue
previous_of Any = None
previous_of MustExist = None
previous_of MustNotExist = None
previous_of (MustExistAndMatch target) = Some (target_value target)
previous_of (ExistingMustMatch target) = Some (target_value target)

-- the target of `MustExistAndMatch`
abbrev pub matched : PreviousValue → Option TargetValue
matched (MustExistAndMatch target) = Some (target_value target)
matched other = None

-- The table of expectations: of an update to `Some new`, or of a deletion, against what was found.
abbrev pub Expects : PreviousValue → (new found : Option TargetValue) → Type 0
Expects Any new found = Unit {0}
Expects MustExist new found = IsSome found
Expects MustNotExist (Some new) found = (found ≡ None) ⊎ (found ≡ Some new)
Expects MustNotExist None found = ⊥
Expects (MustExistAndMatch target) new found = found ≡ Some (target_value target)
Expects (ExistingMustMatch target) new found = (found ≡ None) ⊎ (found ≡ Some (target_value target))

-- Copies.

pub record SameLog (log copy : LogChange) : Type 0 where
  pub mode : copy.mode ≡ log.mode
  pub forced : copy.force_create_reflog ≡ log.force_create_reflog
  pub message : copy.message.items ≡ log.message.items

abbrev pub SameExpectation : PreviousValue → PreviousValue → Type 0
SameExpectation Any copy = copy ≡ Any
SameExpectation MustExist copy = copy ≡ MustExist
SameExpectation MustNotExist copy = copy ≡ MustNotExist
SameExpectation (MustExistAndMatch target) (MustExistAndMatch copy) = target_value copy
    ≡ target_value target
SameExpectation (ExistingMustMatch target) (ExistingMustMatch copy) = target_value copy
    ≡ target_value target
SameExpectation value copy = ⊥

abbrev pub SameChange : Change → Change → Type 0
SameChange (Update log expected new) (Update log' expected' new') = SameLog log log'
    × SameExpectation expected expected' × (target_value new' ≡ target_value new)
SameChange (Delete expected log) (Delete expected' log') = SameExpectation expected expected'
    × (log' ≡ log)
SameChange change copy = ⊥

-- each edit is an update
abbrev pub AreUpdates : List RefEdit → Type 0
AreUpdates edits = All (λ edit. IsSome (new_of edit.change)) edits
