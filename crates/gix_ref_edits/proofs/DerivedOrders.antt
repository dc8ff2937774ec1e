-- What the derived `cmp` of changes and edits returns.
use Rattle.std.proofs.Common.{◌≡◌, refl, ap, ◌∙◌}
use Rattle.std.specs.Ordering.{ordering_then, bool_cmp, nat_cmp}
use Rattle.std.specs.Cmp.Lexicographic.{slice_cmp}
use Rattle.std.specs.declared.cmp.Ordering.{Ordering}
use Rattle.gix_ref_hash.specs.declared.hash.ObjectId.TheVariants.{Sha1, Sha256}
use Rattle.gix_ref_target.specs.declared.target.Target.{Target}
use Rattle.gix_ref_target.specs.declared.target.Target.TheVariants.{Object, Symbolic}
use Rattle.gix_ref_target.specs.contracts.target.TargetOrd.TheImpl as target_impl
use Rattle.gix_ref_target.specs.Targets.{target_value}
use Rattle.gix_ref_target.specs.Orders.{target_cmp}
use Rattle.gix_ref_edits.specs.declared.transaction.RefLog.{RefLog}
use Rattle.gix_ref_edits.specs.declared.transaction.RefLog.TheVariants.{AndReference, Only}
use Rattle.gix_ref_edits.specs.declared.transaction.LogChange.{LogChange}
use Rattle.gix_ref_edits.specs.declared.transaction.PreviousValue.{PreviousValue}
use Rattle.gix_ref_edits.specs.declared.transaction.PreviousValue.TheVariants.{Any, MustExist, MustNotExist, MustExistAndMatch, ExistingMustMatch}
use Rattle.gix_ref_edits.specs.declared.transaction.Change.{Change}
use Rattle.gix_ref_edits.specs.declared.transaction.Change.TheVariants.{Update, Delete}
use Rattle.gix_ref_edits.specs.declared.transaction.RefEdit.{RefEdit}
use Rattle.gix_ref_edits.specs.contracts.transaction.RefLogOrd.TheImpl as mode_impl
use Rattle.gix_ref_edits.specs.contracts.transaction.LogChangeOrd.TheImpl as log_impl
use Rattle.gix_ref_edits.specs.contracts.transaction.PreviousValueOrd.TheImpl as expectation_impl
use Rattle.gix_ref_edits.specs.contracts.transaction.ChangeOrd.TheImpl as change_impl
use Rattle.gix_ref_edits.specs.contracts.transaction.RefEditOrd.TheImpl as edit_impl
use Rattle.gix_ref_edits.specs.RefEdits.{name_of}
use Rattle.gix_ref_edits.specs.EditOrders.{mode_cmp, log_cmp, expectation_cmp, change_cmp, edit_cmp}

-- what `cmp` of each returns
unfoldable pub target_order : Target → Target → Ordering
target_order = target_impl.cmp-value.it

unfoldable pub mode_order : RefLog → RefLog → Ordering
mode_order = mode_impl.cmp-value.it

unfoldable pub log_order : LogChange → LogChange → Ordering
log_order = log_impl.cmp-value.it

unfoldable pub expectation_order : PreviousValue → PreviousValue → Ordering
expectation_order = expectation_impl.cmp-value.it

unfoldable pub change_order : Change → Change → Ordering
change_order = change_impl.cmp-value.it

unfoldable pub edit_order : RefEdit → RefEdit → Ordering
edit_order = edit_impl.cmp-value.it

target_order_is : (a b : Target) → target_order a b ≡ target_cmp (target_value a) (target_value b)
unfolding target_order
target_order_is (Object (Sha1 x)) (Object (Sha1 y)) = refl
target_order_is (Object (Sha1 x)) (Object (Sha256 y)) = refl
target_order_is (Object (Sha256 x)) (Object (Sha1 y)) = refl
target_order_is (Object (Sha256 x)) (Object (Sha256 y)) = refl
target_order_is (Object id) (Symbolic name) = refl
target_order_is (Symbolic name) (Object id) = refl
target_order_is (Symbolic name) (Symbolic other) = refl

mode_order_is : (a b : RefLog) → mode_order a b ≡ mode_cmp a b
unfolding mode_order
mode_order_is AndReference AndReference = refl
mode_order_is AndReference Only = refl
mode_order_is Only AndReference = refl
mode_order_is Only Only = refl

log_order_is : (a b : LogChange) → log_order a b ≡ log_cmp a b
unfolding log_order mode_order
log_order_is a b =
    ap (λ v. ordering_then v (ordering_then (bool_cmp a.force_create_reflog b.force_create_reflog) (slice_cmp nat_cmp a.message.items b.message.items))) (mode_order_is a.mode b.mode)

expectation_order_is : (a b : PreviousValue) → expectation_order a b ≡ expectation_cmp a b
unfolding expectation_order target_order
expectation_order_is (MustExistAndMatch a) (MustExistAndMatch b) = target_order_is a b
expectation_order_is (ExistingMustMatch a) (ExistingMustMatch b) = target_order_is a b
expectation_order_is Any Any = refl
expectation_order_is Any MustExist = refl
expectation_order_is Any MustNotExist = refl
expectation_order_is Any (MustExistAndMatch b) = refl
expectation_order_is Any (ExistingMustMatch b) = refl
expectation_order_is MustExist Any = refl
expectation_order_is MustExist MustExist = refl
expectation_order_is MustExist MustNotExist = refl
expectation_order_is MustExist (MustExistAndMatch b) = refl
expectation_order_is MustExist (ExistingMustMatch b) = refl
expectation_order_is MustNotExist Any = refl
expectation_order_is MustNotExist MustExist = refl
expectation_order_is MustNotExist MustNotExist = refl
expectation_order_is MustNotExist (MustExistAndMatch b) = refl
expectation_order_is MustNotExist (ExistingMustMatch b) = refl
expectation_order_is (MustExistAndMatch a) Any = refl
expectation_order_is (MustExistAndMatch a) MustExist = refl
expectation_order_is (MustExistAndMatch a) MustNotExist = refl
expectation_order_is (MustExistAndMatch a) (ExistingMustMatch b) = refl
expectation_order_is (ExistingMustMatch a) Any = refl
expectation_order_is (ExistingMustMatch a) MustExist = refl
expectation_order_is (ExistingMustMatch a) MustNotExist = refl
expectation_order_is (ExistingMustMatch a) (MustExistAndMatch b) = refl

pub change_order_is : (a b : Change) → change_order a b ≡ change_cmp a b
unfolding change_order log_order expectation_order target_order mode_order
change_order_is (Update log expected new) (Update log' expected' new') =
    ap (λ v. ordering_then v (ordering_then (expectation_order expected expected') (target_order new new'))) (log_order_is log log')
    ∙ ap (λ v. ordering_then (log_cmp log log') (ordering_then v (target_order new new'))) (expectation_order_is expected expected')
    ∙ ap (λ v. ordering_then (log_cmp log log') (ordering_then (expectation_cmp expected expected') v)) (target_order_is new new')
change_order_is (Update log expected new) (Delete expected' log') = refl
change_order_is (Delete expected log) (Update log' expected' new') = refl
change_order_is (Delete expected log) (Delete expected' log') =
    ap (λ v. ordering_then v (mode_order log log')) (expectation_order_is expected expected')
    ∙ ap (λ v. ordering_then (expectation_cmp expected expected') v) (mode_order_is log log')

pub edit_order_is : (a b : RefEdit) → edit_order a b ≡ edit_cmp a b
unfolding edit_order change_order
edit_order_is a b =
    ap (λ v. ordering_then v (ordering_then (slice_cmp nat_cmp (name_of a) (name_of b)) (bool_cmp a.deref b.deref))) (change_order_is a.change b.change)
