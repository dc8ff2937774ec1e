-- When edits are equal, and their order: by their fields and variants as they are declared.
use Rattle.std.specs.Prelude.{◌≡◌, ℕ}
use Rattle.std.specs.Ordering.{nat_cmp, bool_cmp, ordering_then}
use Rattle.std.specs.Cmp.Lexicographic.{slice_cmp}
use Rattle.std.specs.declared.cmp.Ordering.{Ordering}
use Rattle.std.specs.declared.cmp.Ordering.TheVariants.{Less, Greater}
use Rattle.gix_ref_target.specs.Targets.{target_value}
use Rattle.gix_ref_target.specs.Orders.{target_cmp}
use Rattle.gix_ref_edits.specs.declared.transaction.LogChange.{LogChange}
use Rattle.gix_ref_edits.specs.declared.transaction.RefLog.{RefLog}
use Rattle.gix_ref_edits.specs.declared.transaction.RefLog.TheVariants.{AndReference, Only}
use Rattle.gix_ref_edits.specs.declared.transaction.Change.{Change}
use Rattle.gix_ref_edits.specs.declared.transaction.Change.TheVariants.{Update, Delete}
use Rattle.gix_ref_edits.specs.declared.transaction.PreviousValue.{PreviousValue}
use Rattle.gix_ref_edits.specs.declared.transaction.PreviousValue.TheVariants.{Any, MustExist, MustNotExist, MustExistAndMatch, ExistingMustMatch}
use Rattle.gix_ref_edits.specs.declared.transaction.RefEdit.{RefEdit}
use Rattle.gix_ref_edits.specs.RefEdits.{name_of, SameChange}

-- equal edits: the same change of the same name
pub record SameEdit (a b : RefEdit) : Type 0 where
  pub change : SameChange a.change b.change
  pub name : name_of b ≡ name_of a
  pub deref : b.deref ≡ a.deref

-- the place of a mode among the modes, and of an expectation among the expectations
abbrev pub mode_rank : RefLog → ℕ
mode_rank AndReference = 0
mode_rank Only = 1

abbrev pub expectation_rank : PreviousValue → ℕ
expectation_rank Any = 0
expectation_rank MustExist = 1
expectation_rank MustNotExist = 2
expectation_rank (MustExistAndMatch target) = 3
expectation_rank (ExistingMustMatch target) = 4

abbrev pub mode_cmp : RefLog → RefLog → Ordering
mode_cmp a b = nat_cmp (mode_rank a) (mode_rank b)

-- by the mode, by the flag, by the message
abbrev pub log_cmp : LogChange → LogChange → Ordering
log_cmp a b =
    ordering_then (mode_cmp a.mode b.mode) (
    ordering_then (bool_cmp a.force_create_reflog b.force_create_reflog)
    (slice_cmp nat_cmp a.message.items b.message.items)
    )

-- by the variant, and then by the target
abbrev pub expectation_cmp : PreviousValue → PreviousValue → Ordering
expectation_cmp (MustExistAndMatch a) (MustExistAndMatch b) =
    target_cmp (target_value a) (target_value b)
expectation_cmp (ExistingMustMatch a) (ExistingMustMatch b) =
    target_cmp (target_value a) (target_value b)
expectation_cmp a b = nat_cmp (expectation_rank a) (expectation_rank b)

-- updates come first: by the log, by what is expected, by the new target; then deletions, by what is expected, by the log
abbrev pub change_cmp : Change → Change → Ordering
change_cmp (Update log expected new) (Update log' expected' new') =
    ordering_then (log_cmp log log') (
    ordering_then (expectation_cmp expected expected')
    (target_cmp (target_value new) (target_value new'))
    )
change_cmp (Update log expected new) (Delete expected' log') = Less
change_cmp (Delete expected log) (Update log' expected' new') = Greater
change_cmp (Delete expected log) (Delete expected' log') =
    ordering_then (expectation_cmp expected expected') (mode_cmp log log')

-- by the change, by the name, by the flag
abbrev pub edit_cmp : RefEdit → RefEdit → Ordering
edit_cmp a b =
    ordering_then (change_cmp a.change b.change) (
    ordering_then (slice_cmp nat_cmp (name_of a) (name_of b)) (bool_cmp a.deref b.deref)
    )
