-- The edits that commands ask for.
use Rattle.std.specs.Prelude.{◌≡◌, ◌⊎◌, ℕ, List, [], ◌∷◌, ◌++◌, Bool, false, Option, Some, None}
use Rattle.gix_ref_hash.specs.Ids.{null_id}
use Rattle.gix_ref_name.specs.NameGrammar.{full_error}
use Rattle.gix_ref_target.specs.Targets.{TargetValue}
use Rattle.gix_ref_target.specs.Targets.TargetValue.{object_id, symbolic_name}
use Rattle.gix_ref_name.specs.declared.name.error.Error.{Error as NameError}
use Rattle.gix_ref_hash.specs.declared.hash.Kind.{Kind}
use Rattle.gix_ref_hash.specs.declared.hash.ObjectId.{ObjectId}
use Rattle.gix_ref_edits.specs.RefEdits.{name_of, new_of, mode_of, is_forced, message_of, expected_of, matched}
use Rattle.gix_ref_edits.specs.declared.transaction.PreviousValue.{PreviousValue}
use Rattle.gix_ref_edits.specs.declared.transaction.PreviousValue.TheVariants.{Any, MustNotExist}
use Rattle.gix_ref_edits.specs.declared.transaction.LogChange.{LogChange}
use Rattle.gix_ref_edits.specs.declared.transaction.RefEdit.{RefEdit}
use Rattle.gix_ref_edits.specs.declared.transaction.RefLog.TheVariants.{AndReference}
use Rattle.gix_ref_program.specs.Words.{Asked, Update, Symbolic, Delete}
use Rattle.gix_ref_program.specs.declared.refusal.Refusal.{Refusal}
use Rattle.gix_ref_program.specs.declared.refusal.Refusal.TheVariants as refusals

-- what an update with this OLD expects: nothing; with the null id, that there is no reference; else this target
abbrev pub IsExpected : Kind → Option ObjectId → PreviousValue → Type 0
IsExpected kind None expected = expected ≡ Any
IsExpected kind (Some old) expected =
    ((old ≡ null_id kind) × (expected ≡ MustNotExist))
    ⊎ ((old ≡ null_id kind → ⊥) × (matched expected ≡ Some (object_id old)))

-- the message of the log lines: the TEXT of `--message`, or none
abbrev pub message_text : Option (List ℕ) → List ℕ
message_text None = []
message_text (Some text) = text

-- the change of the log: with the reference, made by no force, and with this message
pub record IsLogChange (message : Option (List ℕ)) (log : LogChange) : Type 0 where
  pub mode : log.mode ≡ AndReference
  pub not_forced : log.force_create_reflog ≡ false
  pub message_is : log.message.items ≡ message_text message

-- the edit that gives a reference, or with `deref` the one that it leads to, this target
pub record IsEditOf (name : List ℕ) (deref : Bool) (message : Option (List ℕ))
    (target : TargetValue) (expected : PreviousValue) (edit : RefEdit) : Type 0 where
  pub full : full_error name ≡ None
  pub name_is : name_of edit ≡ name
  pub new : new_of edit.change ≡ Some target
  pub mode : mode_of edit.change ≡ AndReference
  pub not_forced : is_forced edit.change ≡ false
  pub message_is : message_of edit.change ≡ message_text message
  pub deref_is : edit.deref ≡ deref
  pub expects : expected_of edit.change ≡ expected

-- and the one of an update with this OLD
pub record IsUpdateOf (kind : Kind) (message : Option (List ℕ)) (deref : Bool) (name : List ℕ)
    (id : ObjectId) (old : Option ObjectId) (edit : RefEdit) : Type 0 where
  pub expected : PreviousValue
  pub is_expected : IsExpected kind old expected
  pub is_edit : IsEditOf name deref message (object_id id) expected edit

-- the edit that deletes a reference, or with `deref` the one that it leads to, with its log
pub record IsDeletionEdit (name : List ℕ) (deref : Bool) (expected : PreviousValue)
    (edit : RefEdit) : Type 0 where
  pub full : full_error name ≡ None
  pub name_is : name_of edit ≡ name
  pub deletes : new_of edit.change ≡ None
  pub mode : mode_of edit.change ≡ AndReference
  pub deref_is : edit.deref ≡ deref
  pub expects : expected_of edit.change ≡ expected

-- and the one of a deletion with this OLD
pub record IsDeletionOf (kind : Kind) (deref : Bool) (name : List ℕ) (old : Option ObjectId)
    (edit : RefEdit) : Type 0 where
  pub expected : PreviousValue
  pub is_expected : IsExpected kind old expected
  pub is_edit : IsDeletionEdit name deref expected edit

-- the edit that a command asks for
abbrev pub IsAskedFor : Kind → (message : Option (List ℕ)) → Asked → RefEdit → Type 0
IsAskedFor kind message (Update deref name id old) edit =
    IsUpdateOf kind message deref name id old edit
IsAskedFor kind message (Symbolic name target) edit =
    IsEditOf name false message (symbolic_name target) Any edit
IsAskedFor kind message (Delete deref name old) edit = IsDeletionOf kind deref name old edit
IsAskedFor kind message asked edit = ⊥

-- the rule that its first wrong name breaks
abbrev pub BreaksRule : Asked → NameError → Type 0
BreaksRule (Update deref name id old) error = full_error name ≡ Some error
BreaksRule (Symbolic name target) error = (full_error name ≡ Some error)
    ⊎ ((full_error name ≡ None) × (full_error target ≡ Some error))
BreaksRule (Delete deref name old) error = full_error name ≡ Some error
BreaksRule asked error = ⊥

-- why a word gives no full name
abbrev pub IsNoName : List ℕ → Refusal → Type 0
IsNoName name (refusals.Name error) = full_error name ≡ Some error
IsNoName name refusals.Memory = Unit {0}
IsNoName name refusal = ⊥

-- why there is no edit
abbrev pub NoEdit : Asked → Refusal → Type 0
NoEdit asked (refusals.Name error) = BreaksRule asked error
NoEdit asked refusals.Memory = Unit {0}
NoEdit asked refusal = ⊥

-- these edits are those that the commands ask for, one by one
abbrev pub AreAskedFor : Kind → (message : Option (List ℕ)) → List Asked → List RefEdit → Type 0
AreAskedFor kind message [] [] = Unit {0}
AreAskedFor kind message [] (edit ∷ edits) = ⊥
AreAskedFor kind message (asked ∷ all) [] = ⊥
AreAskedFor kind message (asked ∷ all) (edit ∷ edits) = IsAskedFor kind message asked edit
    × AreAskedFor kind message all edits

-- there is no edit of one of the commands, for this reason; there is one of each before it
pub record NoEditAmong (kind : Kind) (message : Option (List ℕ)) (all : List Asked)
    (refusal : Refusal) : Type 0 where
  pub before : List Asked
  pub asked : Asked
  pub rest : List Asked
  pub all_are : all ≡ before ++ asked ∷ rest
  pub edits : List RefEdit
  pub are_asked_for : AreAskedFor kind message before edits
  pub none : NoEdit asked refusal

-- why there are no edits that these commands ask for: there is none of one of them; or there was no memory
abbrev pub NoEditsFor : Kind → (message : Option (List ℕ)) → List Asked → Refusal → Type 0
NoEditsFor kind message all refusal = (refusal ≡ refusals.Memory)
    ⊎ NoEditAmong kind message all refusal
