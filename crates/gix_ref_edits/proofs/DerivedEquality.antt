-- What the derived `==` of changes and edits returns.
use Rattle.std.proofs.Common.{◌≡◌, ℕ, List, Bool, true, false, ◌&&◌, refl, sym, ap}
use Rattle.std.specs.Bool.{Decides}
use Rattle.std.specs.Cmp.Lexicographic.{bytes_decides}
use Rattle.std.specs.Str.{bytes_eq}
use mathlib.Core.Bool.{beq}
use Rattle.gix_ref_hash.proofs.IdEquality.{id_eq, id_eq-decides}
use Rattle.gix_ref_target.specs.declared.target.Target.{Target}
use Rattle.gix_ref_target.specs.declared.target.Target.TheVariants.{Object, Symbolic}
use Rattle.gix_ref_target.specs.contracts.target.TargetPartialEq.TheImpl as target_impl
use Rattle.gix_ref_name.specs.Names.{full_bytes}
use Rattle.gix_ref_target.specs.Targets.{target_value}
use Rattle.gix_ref_target.specs.Targets.TargetValue.{object_id, symbolic_name}
use Rattle.gix_ref_edits.specs.declared.transaction.RefLog.{RefLog}
use Rattle.gix_ref_edits.specs.declared.transaction.RefLog.TheVariants.{AndReference, Only}
use Rattle.gix_ref_edits.specs.declared.transaction.LogChange.{LogChange}
use Rattle.gix_ref_edits.specs.declared.transaction.PreviousValue.{PreviousValue}
use Rattle.gix_ref_edits.specs.declared.transaction.PreviousValue.TheVariants.{Any, MustExist, MustNotExist, MustExistAndMatch, ExistingMustMatch}
use Rattle.gix_ref_edits.specs.declared.transaction.Change.{Change}
use Rattle.gix_ref_edits.specs.declared.transaction.Change.TheVariants.{Update, Delete}
use Rattle.gix_ref_edits.specs.declared.transaction.RefEdit.{RefEdit}
use Rattle.gix_ref_edits.specs.contracts.transaction.RefLogPartialEq.TheImpl as mode_impl
use Rattle.gix_ref_edits.specs.contracts.transaction.LogChangePartialEq.TheImpl as log_impl
use Rattle.gix_ref_edits.specs.contracts.transaction.PreviousValuePartialEq.TheImpl as expectation_impl
use Rattle.gix_ref_edits.specs.contracts.transaction.ChangePartialEq.TheImpl as change_impl
use Rattle.gix_ref_edits.specs.contracts.transaction.RefEditPartialEq.TheImpl as edit_impl
use Rattle.gix_ref_edits.specs.RefEdits.{name_of, SameLog, SameExpectation, SameChange}
use Rattle.gix_ref_edits.specs.EditOrders.{SameEdit}

-- what `==` of each returns
unfoldable pub target_eq : Target → Target → Bool
target_eq = target_impl.eq-value.it

unfoldable pub mode_eq : RefLog → RefLog → Bool
mode_eq = mode_impl.eq-value.it

unfoldable pub log_eq : LogChange → LogChange → Bool
log_eq = log_impl.eq-value.it

unfoldable pub expectation_eq : PreviousValue → PreviousValue → Bool
expectation_eq = expectation_impl.eq-value.it

unfoldable pub change_eq : Change → Change → Bool
change_eq = change_impl.eq-value.it

unfoldable pub edit_eq : RefEdit → RefEdit → Bool
edit_eq = edit_impl.eq-value.it

target_eq-decides : (a b : Target) → Decides (target_eq a b) (target_value b ≡ target_value a)
unfolding target_eq id_eq
target_eq-decides (Object x) (Object y) =
    (λ h. ap object_id (sym ((id_eq-decides x y).0 h)), λ e. (id_eq-decides x y).1 (sym (cc)))
target_eq-decides (Object x) (Symbolic n) = (λ h. absurd (cc), λ e. absurd (cc))
target_eq-decides (Symbolic m) (Object y) = (λ h. absurd (cc), λ e. absurd (cc))
target_eq-decides (Symbolic m) (Symbolic n) =
    (λ h. ap symbolic_name (sym ((bytes_decides (full_bytes m) (full_bytes n)).0 h)), λ e. (bytes_decides (full_bytes m) (full_bytes n)).1 (sym (cc)))

mode_eq-decides : (a b : RefLog) → Decides (mode_eq a b) (b ≡ a)
unfolding mode_eq
mode_eq-decides AndReference AndReference = (λ h. refl, λ e. refl)
mode_eq-decides AndReference Only = (λ h. absurd (cc), λ e. absurd (cc))
mode_eq-decides Only AndReference = (λ h. absurd (cc), λ e. absurd (cc))
mode_eq-decides Only Only = (λ h. refl, λ e. refl)

and_decides : {P Q : Type 0} (a b : Bool) → Decides a P → Decides b Q → Decides (a && b) (P × Q)
and_decides true b f g = (λ h. (f.0 refl, g.0 h), λ both. g.1 both.1)
and_decides false b f g = (λ h. absurd (cc), λ both. let never = f.1 both.0 in absurd (cc))

flag_eq-decides : (a b : Bool) → Decides (beq a b) (b ≡ a)
flag_eq-decides true true = (λ h. refl, λ e. refl)
flag_eq-decides true false = (λ h. absurd (cc), λ e. absurd (cc))
flag_eq-decides false true = (λ h. absurd (cc), λ e. absurd (cc))
flag_eq-decides false false = (λ h. refl, λ e. refl)

text_eq-decides : (xs ys : List ℕ) → Decides (bytes_eq xs ys) (ys ≡ xs)
text_eq-decides xs ys = (λ h. sym ((bytes_decides xs ys).0 h), λ e. (bytes_decides xs ys).1 (sym e))

log_eq-decides : (a b : LogChange) → Decides (log_eq a b) (SameLog a b)
unfolding log_eq mode_eq
log_eq-decides a b =
    let flags = and_decides (beq a.force_create_reflog b.force_create_reflog) (bytes_eq a.message.items b.message.items) (flag_eq-decides a.force_create_reflog b.force_create_reflog) (text_eq-decides a.message.items b.message.items) in
    let all = and_decides (mode_eq a.mode b.mode) (beq a.force_create_reflog b.force_create_reflog && bytes_eq a.message.items b.message.items) (mode_eq-decides a.mode b.mode) flags in (
      λ h. let parts = all.0 h in record { mode = parts.0; forced = parts.1.0; message = parts.1.1 },
      λ same. all.1 (same.mode, (same.forced, same.message)),
    )

expectation_eq-decides : (a b : PreviousValue) → Decides (expectation_eq a b) (SameExpectation a b)
unfolding expectation_eq target_eq
expectation_eq-decides Any Any = (λ h. refl, λ e. refl)
expectation_eq-decides Any MustExist = (λ h. absurd (cc), λ e. absurd (cc))
expectation_eq-decides Any MustNotExist = (λ h. absurd (cc), λ e. absurd (cc))
expectation_eq-decides Any (MustExistAndMatch b) = (λ h. absurd (cc), λ e. absurd (cc))
expectation_eq-decides Any (ExistingMustMatch b) = (λ h. absurd (cc), λ e. absurd (cc))
expectation_eq-decides MustExist Any = (λ h. absurd (cc), λ e. absurd (cc))
expectation_eq-decides MustExist MustExist = (λ h. refl, λ e. refl)
expectation_eq-decides MustExist MustNotExist = (λ h. absurd (cc), λ e. absurd (cc))
expectation_eq-decides MustExist (MustExistAndMatch b) = (λ h. absurd (cc), λ e. absurd (cc))
expectation_eq-decides MustExist (ExistingMustMatch b) = (λ h. absurd (cc), λ e. absurd (cc))
expectation_eq-decides MustNotExist Any = (λ h. absurd (cc), λ e. absurd (cc))
expectation_eq-decides MustNotExist MustExist = (λ h. absurd (cc), λ e. absurd (cc))
expectation_eq-decides MustNotExist MustNotExist = (λ h. refl, λ e. refl)
expectation_eq-decides MustNotExist (MustExistAndMatch b) = (λ h. absurd (cc), λ e. absurd (cc))
expectation_eq-decides MustNotExist (ExistingMustMatch b) = (λ h. absurd (cc), λ e. absurd (cc))
expectation_eq-decides (MustExistAndMatch a) Any = (λ h. absurd (cc), λ e. absurd e)
expectation_eq-decides (MustExistAndMatch a) MustExist = (λ h. absurd (cc), λ e. absurd e)
expectation_eq-decides (MustExistAndMatch a) MustNotExist = (λ h. absurd (cc), λ e. absurd e)
expectation_eq-decides (MustExistAndMatch a) (MustExistAndMatch b) = target_eq-decides a b
expectation_eq-decides (MustExistAndMatch a) (ExistingMustMatch b) = (λ h. absurd (cc), λ e. absurd e)
expectation_eq-decides (ExistingMustMatch a) Any = (λ h. absurd (cc), λ e. absurd e)
expectation_eq-decides (ExistingMustMatch a) MustExist = (λ h. absurd (cc), λ e. absurd e)
expectation_eq-decides (ExistingMustMatch a) MustNotExist = (λ h. absurd (cc), λ e. absurd e)
expectation_eq-decides (ExistingMustMatch a) (MustExistAndMatch b) = (λ h. absurd (cc), λ e. absurd e)
expectation_eq-decides (ExistingMustMatch a) (ExistingMustMatch b) = target_eq-decides a b

pub change_eq-decides : (a b : Change) → Decides (change_eq a b) (SameChange a b)
unfolding change_eq log_eq expectation_eq target_eq mode_eq
change_eq-decides (Update log expected new) (Update log' expected' new') =
    let rest = and_decides (expectation_eq expected expected') (target_eq new new') (expectation_eq-decides expected expected') (target_eq-decides new new') in
    let all = and_decides (log_eq log log') (expectation_eq expected expected' && target_eq new new') (log_eq-decides log log') rest in (
      λ h. let parts = all.0 h in (parts.0, parts.1.0, parts.1.1),
      λ same. all.1 (same.0, (same.1, same.2)),
    )
change_eq-decides (Update log expected new) (Delete expected' log') = (λ h. absurd (cc), λ e. absurd e)
change_eq-decides (Delete expected log) (Update log' expected' new') = (λ h. absurd (cc), λ e. absurd e)
change_eq-decides (Delete expected log) (Delete expected' log') =
    and_decides (expectation_eq expected expected') (mode_eq log log') (expectation_eq-decides expected expected') (mode_eq-decides log log')

pub edit_eq-decides : (a b : RefEdit) → Decides (edit_eq a b) (SameEdit a b)
unfolding edit_eq change_eq
edit_eq-decides a b =
    let rest = and_decides (bytes_eq (name_of a) (name_of b)) (beq a.deref b.deref) (text_eq-decides (name_of a) (name_of b)) (flag_eq-decides a.deref b.deref) in
    let all = and_decides (change_eq a.change b.change) (bytes_eq (name_of a) (name_of b) && beq a.deref b.deref) (change_eq-decides a.change b.change) rest in (
      λ h. let parts = all.0 h in record { change = parts.0; name = parts.1.0; deref = parts.1.1 },
      λ same. all.1 (same.change, (same.name, same.deref)),
    )
