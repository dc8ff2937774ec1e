-- Copies of edits are the same edits.
use Rattle.std.proofs.Common.{◌≡◌, ◌∙◌, List, [], ◌∷◌, ap, map, refl}
use Rattle.std.specs.List.{AllZip}
use Rattle.gix_ref_name.specs.Names.{full_bytes}
use Rattle.gix_ref_target.specs.Targets.{target_value}
use Rattle.gix_ref_edits.specs.EditValues.{EditValue, change_value, edit_value, expected_value}
use Rattle.gix_ref_edits.specs.EditValues.ChangeValue.{update, delete}
use Rattle.gix_ref_edits.specs.EditValues.ExpectedValue.{may_match, must_match}
use Rattle.gix_ref_edits.specs.RefEdits.{SameChange, SameExpectation, name_of}
use Rattle.gix_ref_edits.specs.declared.transaction.Change.{Change}
use Rattle.gix_ref_edits.specs.declared.transaction.Change.TheVariants.{Update, Delete}
use Rattle.gix_ref_edits.specs.declared.transaction.PreviousValue.{PreviousValue}
use Rattle.gix_ref_edits.specs.declared.transaction.PreviousValue.TheVariants.{Any, MustExist, MustNotExist, MustExistAndMatch, ExistingMustMatch}
use Rattle.gix_ref_edits.specs.declared.transaction.RefEdit.{RefEdit}
use Rattle.gix_ref_store.specs.SameEdits.{AreSameEdits}

same_expected : (e c : PreviousValue) → SameExpectation e c → expected_value c ≡ expected_value e
same_expected Any c is = ap expected_value is
same_expected MustExist c is = ap expected_value is
same_expected MustNotExist c is = ap expected_value is
same_expected (MustExistAndMatch target) (MustExistAndMatch copy) is = ap must_match is
same_expected (MustExistAndMatch target) Any is = absurd is
same_expected (MustExistAndMatch target) MustExist is = absurd is
same_expected (MustExistAndMatch target) MustNotExist is = absurd is
same_expected (MustExistAndMatch target) (ExistingMustMatch copy) is = absurd is
same_expected (ExistingMustMatch target) (ExistingMustMatch copy) is = ap may_match is
same_expected (ExistingMustMatch target) Any is = absurd is
same_expected (ExistingMustMatch target) MustExist is = absurd is
same_expected (ExistingMustMatch target) MustNotExist is = absurd is
same_expected (ExistingMustMatch target) (MustExistAndMatch copy) is = absurd is

same_change : (a c : Change) → SameChange a c → change_value c ≡ change_value a
same_change (Update log expected new) (Update log' expected' new') (logs, values, targets) =
    ap (λ m. update m log'.force_create_reflog log'.message.items (expected_value expected') (target_value new')) logs.mode
    ∙ (ap (λ f. update log.mode f log'.message.items (expected_value expected') (target_value new')) logs.forced
    ∙ (ap (λ m. update log.mode log.force_create_reflog m (expected_value expected') (target_value new')) logs.message
    ∙ (ap (λ e. update log.mode log.force_create_reflog log.message.items e (target_value new')) (same_expected expected expected' values)
    ∙ ap (λ t. update log.mode log.force_create_reflog log.message.items (expected_value expected) t) targets)))
same_change (Delete expected log) (Delete expected' log') (values, logs) =
    ap (λ e. delete e log') (same_expected expected expected' values) ∙ ap (λ l. delete (expected_value expected) l) logs
same_change (Update log expected new) (Delete expected' log') same = absurd same
same_change (Delete expected log) (Update log' expected' new') same = absurd same

-- a copy of an edit
abbrev pub IsCopied : RefEdit → RefEdit → Type 0
IsCopied edit copy = (full_bytes copy.name ≡ full_bytes edit.name) × SameChange edit.change copy.change × (copy.deref ≡ edit.deref)

one_same : (edit copy : RefEdit) → IsCopied edit copy → edit_value copy ≡ edit_value edit
one_same edit copy (name, change, deref) =
    ap (λ n. record { name = n; change = change_value copy.change; deref = copy.deref }) name
    ∙ (ap (λ c. record { name = name_of edit; change = c; deref = copy.deref }) (same_change edit.change copy.change change)
    ∙ ap (λ d. record { name = name_of edit; change = change_value edit.change; deref = d }) deref)

-- copies of all of them
pub copies_same : (edits copies : List RefEdit) → AllZip IsCopied edits copies → AreSameEdits edits copies
copies_same [] [] all = refl
copies_same [] (c ∷ copies) all = absurd all
copies_same (e ∷ edits) [] all = absurd all
copies_same (e ∷ edits) (c ∷ copies) (is, all) =
    ap (λ (v : EditValue). v ∷ map edit_value copies) (one_same e c is) ∙ ap (λ (vs : List EditValue). edit_value e ∷ vs) (copies_same edits copies all)
