-- The edits of a split list are valid where those that were given are, and all could be looked up.
use Rattle.std.proofs.Common.{◌≡◌, ℕ, List, [], ◌∷◌, ◌++◌, Option, Some, None, Bool, true, false, All, IsSome, refl, sym, subst}
use Rattle.std.proofs.lemmas.List.Elements.{All-nil, All-cons, All-head, All-tail, All-append}
use Rattle.gix_ref_hash.specs.declared.hash.Kind.{Kind}
use Rattle.gix_ref_theory.specs.Readings.{Store}
use Rattle.gix_ref_edits.specs.EditValues.{ChangeValue, EditValue, ExpectedValue, change_value, edit_value, expected_value}
use Rattle.gix_ref_edits.specs.EditValues.ExpectedValue.{anything, must_exist, must_not_exist, must_match, may_match}
use Rattle.gix_ref_edits.specs.declared.transaction.RefLog.{RefLog}
use Rattle.gix_ref_edits.specs.declared.transaction.RefLog.TheVariants.{Only}
use Rattle.gix_ref_edits.specs.EditValues.ChangeValue.{update, delete}
use Rattle.gix_ref_edits.specs.RefEdits.{new_of, expected_of, previous_of, AreUpdates}
use Rattle.gix_ref_edits.specs.SplitLists.{looked_up, child_list, parent_change}
use Rattle.gix_ref_edits.specs.declared.transaction.Change.{Change}
use Rattle.gix_ref_edits.specs.declared.transaction.Change.TheVariants.{Update, Delete}
use Rattle.gix_ref_edits.specs.declared.transaction.PreviousValue.{PreviousValue}
use Rattle.gix_ref_edits.specs.declared.transaction.PreviousValue.TheVariants as expected
use Rattle.gix_ref_edits.specs.declared.transaction.RefEdit.{RefEdit}
use Rattle.gix_ref_transaction.specs.Causes.{AllValid, IsPossible, IsFullTarget, IsOfKind, IsValidEdit, IsWholeTarget}
use Rattle.gix_ref_transaction.specs.Splits.{values_of, CanFollow}
use Rattle.gix_ref_transaction.specs.internal.SplitRounds.{after_by, children_by, expected_in, new_in, previous_in, IsPossibleValue, IsSoundChange, IsSoundValue, IsUpdateValue, IsValidValue}

new_is : (c : Change) → new_in (change_value c) ≡ new_of c
new_is (Update log e new) = refl
new_is (Delete e log) = refl

previous_value_is : (e : PreviousValue) → previous_in (expected_value e) ≡ previous_of e
previous_value_is expected.Any = refl
previous_value_is expected.MustExist = refl
previous_value_is expected.MustNotExist = refl
previous_value_is (expected.MustExistAndMatch target) = refl
previous_value_is (expected.ExistingMustMatch target) = refl

previous_is : (c : Change) → previous_in (expected_in (change_value c)) ≡ previous_of (expected_of c)
previous_is (Update log e new) = previous_value_is e
previous_is (Delete e log) = previous_value_is e

possible_value : (c : Change) → IsPossible c → IsPossibleValue (change_value c)
possible_value (Update log e new) is = tt
possible_value (Delete expected.Any log) is = tt
possible_value (Delete expected.MustExist log) is = tt
possible_value (Delete expected.MustNotExist log) is = is
possible_value (Delete (expected.MustExistAndMatch target) log) is = tt
possible_value (Delete (expected.ExistingMustMatch target) log) is = tt

possible_of_value : (c : Change) → IsPossibleValue (change_value c) → IsPossible c
possible_of_value (Update log e new) is = tt
possible_of_value (Delete expected.Any log) is = tt
possible_of_value (Delete expected.MustExist log) is = tt
possible_of_value (Delete expected.MustNotExist log) is = is
possible_of_value (Delete (expected.MustExistAndMatch target) log) is = tt
possible_of_value (Delete (expected.ExistingMustMatch target) log) is = tt

-- a deletion stays possible in another mode
possible_in : (e : ExpectedValue) (mode other : RefLog) → IsPossibleValue (delete e mode) → IsPossibleValue (delete e other)
possible_in anything mode other is = tt
possible_in must_exist mode other is = tt
possible_in must_not_exist mode other is = is
possible_in (must_match target) mode other is = tt
possible_in (may_match target) mode other is = tt

module _ (s : Store) (kind : Kind) where
  -- an edit is valid by its value
  value_of_valid : (edit : RefEdit) → IsValidEdit s kind edit → IsValidValue s kind (edit_value edit)
  value_of_valid edit valid = (
    record { safe = valid.safe; allowed = valid.allowed },
    record {
      possible = possible_value edit.change valid.possible;
      target = subst IsFullTarget (sym (new_is edit.change)) valid.target;
      new = subst (IsOfKind kind) (sym (new_is edit.change)) valid.kinds.0;
      previous = subst (IsOfKind kind) (sym (previous_is edit.change)) valid.kinds.1;
      whole = subst IsWholeTarget (sym (new_is edit.change)) valid.whole;
    },
  )

  valid_of_value : (edit : RefEdit) → IsValidValue s kind (edit_value edit) → IsValidEdit s kind edit
  valid_of_value edit valid = record {
    safe = valid.0.safe;
    allowed = valid.0.allowed;
    possible = possible_of_value edit.change valid.1.possible;
    target = subst IsFullTarget (new_is edit.change) valid.1.target;
    kinds = (subst (IsOfKind kind) (new_is edit.change) valid.1.new, subst (IsOfKind kind) (previous_is edit.change) valid.1.previous);
    whole = subst IsWholeTarget (new_is edit.change) valid.1.whole;
  }

  pub given_sound : (seen edits : List RefEdit) → AllValid s kind seen edits → All (IsSoundValue s kind) (values_of edits)
  given_sound seen [] valid = All-nil (IsSoundValue s kind)
  given_sound seen (edit ∷ edits) valid =
      let v = value_of_valid edit valid.0 in
      All-cons (IsSoundValue s kind) (edit_value edit) (values_of edits) ((λ stays. v.0), v.1) (given_sound (seen ++ edit ∷ []) edits valid.1)

  pub all_valid : (seen edits : List RefEdit) → All (IsValidValue s kind) (values_of edits) → AllValid s kind seen edits
  all_valid seen [] valid = tt
  all_valid seen (edit ∷ edits) valid = (
    valid_of_value edit (All-head (IsValidValue s kind) (edit_value edit) (values_of edits) valid),
    all_valid (seen ++ edit ∷ []) edits (All-tail (IsValidValue s kind) (edit_value edit) (values_of edits) valid),
  )

  sound_valid : (v : EditValue) → IsSoundValue s kind v → CanFollow s v → IsValidValue s kind v
  sound_valid v sound can = by v.deref refl
    where
      by : (b : Bool) → v.deref ≡ b → IsValidValue s kind v
      by true follows = (can follows, sound.1)
      by false stays = (sound.0 stays, sound.1)

  -- edits that could be looked up are valid
  pub now_valid : (edits : List EditValue) → All (IsSoundValue s kind) edits → All (CanFollow s) edits → All (IsValidValue s kind) edits
  now_valid edits sound can k d lt = sound_valid _ (sound k d lt) (can k d lt)

  parent_sound : (c : ChangeValue) → IsSoundChange kind c → IsSoundChange kind (parent_change c)
  parent_sound (update mode forced message e new) sound = record { possible = tt; target = sound.target; new = sound.new; previous = tt; whole = sound.whole }
  parent_sound (delete e mode) sound = record { possible = possible_in e mode Only sound.possible; target = sound.target; new = sound.new; previous = sound.previous; whole = sound.whole }

  looked_up_valid : (edit : EditValue) (name : Option (List ℕ)) → IsValidValue s kind edit → IsValidValue s kind (looked_up edit name)
  looked_up_valid edit None valid = (valid.0, valid.1)
  looked_up_valid edit (Some name) valid = (valid.0, parent_sound edit.change valid.1)

  child_sound : (edit : EditValue) (name : Option (List ℕ)) → IsValidValue s kind edit → All (IsSoundValue s kind) (child_list edit name)
  child_sound edit None valid = All-nil (IsSoundValue s kind)
  child_sound edit (Some name) valid = All-cons (IsSoundValue s kind) _ [] ((λ (stays : true ≡ false). cc), valid.1) (All-nil (IsSoundValue s kind))

  -- after a round they still are, and their children are sound
  pub after_valid : (edits : List EditValue) (led : List (Option (List ℕ))) → All (IsValidValue s kind) edits → All (IsValidValue s kind) (after_by edits led)
  after_valid [] led valid = All-nil (IsValidValue s kind)
  after_valid (edit ∷ edits) [] valid = All-nil (IsValidValue s kind)
  after_valid (edit ∷ edits) (name ∷ led) valid =
      All-cons (IsValidValue s kind) (looked_up edit name) (after_by edits led) (looked_up_valid edit name (All-head (IsValidValue s kind) edit edits valid)) (after_valid edits led (All-tail (IsValidValue s kind) edit edits valid))

  pub children_sound : (edits : List EditValue) (led : List (Option (List ℕ))) → All (IsValidValue s kind) edits → All (IsSoundValue s kind) (children_by edits led)
  children_sound [] led valid = All-nil (IsSoundValue s kind)
  children_sound (edit ∷ edits) [] valid = All-nil (IsSoundValue s kind)
  children_sound (edit ∷ edits) (name ∷ led) valid =
      All-append (IsSoundValue s kind) (child_list edit name) (children_by edits led) (child_sound edit name (All-head (IsValidValue s kind) edit edits valid)) (children_sound edits led (All-tail (IsValidValue s kind) edit edits valid))

-- And they are updates where those that were given are.

pub given_updates : (edits : List RefEdit) → AreUpdates edits → All IsUpdateValue (values_of edits)
given_updates [] updates = All-nil IsUpdateValue
given_updates (edit ∷ edits) updates =
    let IsUpdate : RefEdit → Type 0 = λ (e : RefEdit). IsSome (new_of e.change) in
    All-cons IsUpdateValue (edit_value edit) (values_of edits) (subst IsSome (sym (new_is edit.change)) (All-head IsUpdate edit edits updates)) (given_updates edits (All-tail IsUpdate edit edits updates))

pub all_updates : (edits : List RefEdit) → All IsUpdateValue (values_of edits) → AreUpdates edits
all_updates [] updates = All-nil (λ (e : RefEdit). IsSome (new_of e.change))
all_updates (edit ∷ edits) updates =
    All-cons (λ (e : RefEdit). IsSome (new_of e.change)) edit edits (subst IsSome (new_is edit.change) (All-head IsUpdateValue (edit_value edit) (values_of edits) updates))
    (all_updates edits (All-tail IsUpdateValue (edit_value edit) (values_of edits) updates))

parent_updates : (c : ChangeValue) → IsSome (new_in c) → IsSome (new_in (parent_change c))
parent_updates (update mode forced message e new) is = is
parent_updates (delete e mode) is = is

looked_up_updates : (edit : EditValue) (name : Option (List ℕ)) → IsUpdateValue edit → IsUpdateValue (looked_up edit name)
looked_up_updates edit None is = is
looked_up_updates edit (Some name) is = parent_updates edit.change is

child_updates : (edit : EditValue) (name : Option (List ℕ)) → IsUpdateValue edit → All IsUpdateValue (child_list edit name)
child_updates edit None is = All-nil IsUpdateValue
child_updates edit (Some name) is = All-cons IsUpdateValue _ [] is (All-nil IsUpdateValue)

pub after_updates : (edits : List EditValue) (led : List (Option (List ℕ))) → All IsUpdateValue edits → All IsUpdateValue (after_by edits led)
after_updates [] led updates = All-nil IsUpdateValue
after_updates (edit ∷ edits) [] updates = All-nil IsUpdateValue
after_updates (edit ∷ edits) (name ∷ led) updates =
    All-cons IsUpdateValue (looked_up edit name) (after_by edits led) (looked_up_updates edit name (All-head IsUpdateValue edit edits updates)) (after_updates edits led (All-tail IsUpdateValue edit edits updates))

pub children_updates : (edits : List EditValue) (led : List (Option (List ℕ))) → All IsUpdateValue edits → All IsUpdateValue (children_by edits led)
children_updates [] led updates = All-nil IsUpdateValue
children_updates (edit ∷ edits) [] updates = All-nil IsUpdateValue
children_updates (edit ∷ edits) (name ∷ led) updates =
    All-append IsUpdateValue (child_list edit name) (children_by edits led) (child_updates edit name (All-head IsUpdateValue edit edits updates)) (children_updates edits led (All-tail IsUpdateValue edit edits updates))
