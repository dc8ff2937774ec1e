-- The edits that commands ask for (`git update-ref --stdin`).
use Rattle.std.specs.Prelude.{◌≡◌, ◌≢◌, ◌⊎◌, ℕ, List, Bool, true, false, Option, Some, None}
use Rattle.gix_ref_hash.specs.Ids.{null_id}
use Rattle.gix_ref_hash.specs.declared.hash.Kind.{Kind}
use Rattle.gix_ref_hash.specs.declared.hash.ObjectId.{ObjectId}
use Rattle.gix_ref_name.specs.NameGrammar.{full_error}
use Rattle.gix_ref_target.specs.Targets.{TargetValue, target_value}
use Rattle.gix_ref_target.specs.Targets.TargetValue.{object_id, symbolic_name}
use Rattle.gix_ref_edits.specs.RefEdits.{name_of, new_of, mode_of, is_forced, message_of, expected_of}
use Rattle.gix_ref_edits.specs.declared.transaction.Change.{Change}
use Rattle.gix_ref_edits.specs.declared.transaction.PreviousValue.{PreviousValue}
use Rattle.gix_ref_edits.specs.declared.transaction.PreviousValue.TheVariants.{Any, MustNotExist, MustExistAndMatch, ExistingMustMatch}
use Rattle.gix_ref_edits.specs.declared.transaction.RefEdit.{RefEdit}
use Rattle.gix_ref_edits.specs.declared.transaction.RefLog.{RefLog}
use Rattle.gix_ref_edits.specs.declared.transaction.RefLog.TheVariants.{AndReference, Only}
use Rattle.gix_ref_session.specs.Commands.{Ask, Update, Create, Delete, Verify, SymrefUpdate, SymrefCreate, SymrefDelete, SymrefVerify, OldAsk, OldName, OldId}
use Rattle.gix_ref_session.specs.declared.fatal.Fatal.{Fatal}
use Rattle.gix_ref_session.specs.declared.fatal.Fatal.TheVariants as fatals
use Rattle.gix_ref_session.specs.declared.session.Session.{Session}

-- that there is no reference: one that is there would have to have the null id
abbrev pub IsAbsence : Kind → PreviousValue → Type 0
IsAbsence kind (ExistingMustMatch target) = target_value target ≡ object_id (null_id kind)
IsAbsence kind expected = ⊥

-- that the reference is there with this target
abbrev pub IsMatch : TargetValue → PreviousValue → Type 0
IsMatch value (MustExistAndMatch target) = target_value target ≡ value
IsMatch value expected = ⊥

-- what OLD expects: nothing without one; with the null id, that there is no reference; else this id
abbrev pub IsExpected : Kind → Option ObjectId → PreviousValue → Type 0
IsExpected kind None expected = expected ≡ Any
IsExpected kind (Some old) expected =
    ((old ≡ null_id kind) × IsAbsence kind expected)
    ⊎ ((old ≢ null_id kind) × IsMatch (object_id old) expected)

-- and what `ref OLD-TARGET` or `oid OLD-OID` does
abbrev pub IsExpectedTarget : Kind → Option OldAsk → PreviousValue → Type 0
IsExpectedTarget kind None expected = expected ≡ Any
IsExpectedTarget kind (Some (OldName name)) expected = IsMatch (symbolic_name name) expected
IsExpectedTarget kind (Some (OldId id)) expected = IsExpected kind (Some id) expected

-- an update to this target, whose log line has the message of the session
pub record IsUpdateTo (session : Session) (mode : RefLog) (target : TargetValue)
    (Expects : PreviousValue → Type 0) (change : Change) : Type 0 where
  pub new : new_of change ≡ Some target
  pub mode_is : mode_of change ≡ mode
  pub forced : is_forced change ≡ session.create_reflog
  pub message : message_of change ≡ session.message.now
  pub expects : Expects (expected_of change)

-- a deletion of a reference and its log
pub record IsDeletion (Expects : PreviousValue → Type 0) (change : Change) : Type 0 where
  pub deletes : new_of change ≡ None
  pub mode_is : mode_of change ≡ AndReference
  pub expects : Expects (expected_of change)

-- The check that there is no reference of this name: an edit of its log alone, to a symbolic target, of which no line is due. One
-- that leads to itself counts as none.
abbrev pub IsAbsenceCheck : Session → (name : List ℕ) → Change → Type 0
IsAbsenceCheck session name change =
    IsUpdateTo session Only (symbolic_name name) (λ expected. expected ≡ MustNotExist) change

-- the check of an id: an edit of the log alone, to what has to be there already
abbrev pub IsCheck : Session → (name : List ℕ) → Option ObjectId → Change → Type 0
IsCheck session name None change = IsAbsenceCheck session name change
IsCheck session name (Some id) change =
    ((id ≡ null_id session.object_hash) × IsAbsenceCheck session name change)
    ⊎ ((id ≢ null_id session.object_hash)
    × IsUpdateTo session Only (object_id id) (IsMatch (object_id id)) change)

-- the change that is asked of a reference
abbrev pub IsChangeOf : Session → (name : List ℕ) → Ask → Change → Type 0
IsChangeOf session name (Update new old) change =
    ((new ≡ null_id session.object_hash)
    × IsDeletion (IsExpected session.object_hash old) change)
    ⊎ ((new ≢ null_id session.object_hash) × IsUpdateTo session AndReference (object_id new)
    (IsExpected session.object_hash old) change)
IsChangeOf session name (Create new) change = IsUpdateTo session AndReference (object_id new)
    (IsAbsence session.object_hash) change
IsChangeOf session name (Delete old) change = IsDeletion (IsExpected session.object_hash old) change
IsChangeOf session name (Verify old) change = IsCheck session name old change
IsChangeOf session name (SymrefUpdate target old) change = IsUpdateTo session AndReference
    (symbolic_name target) (IsExpectedTarget session.object_hash old) change
IsChangeOf session name (SymrefCreate target) change = IsUpdateTo session AndReference
    (symbolic_name target) (IsAbsence session.object_hash) change
IsChangeOf session name (SymrefDelete None) change = IsDeletion (λ expected. expected ≡ Any) change
IsChangeOf session name (SymrefDelete (Some old)) change =
    IsDeletion (IsMatch (symbolic_name old)) change
IsChangeOf session name (SymrefVerify None) change = IsAbsenceCheck session name change
IsChangeOf session name (SymrefVerify (Some old)) change = IsUpdateTo session Only
    (symbolic_name old) (IsMatch (symbolic_name old)) change

-- commands for symbolic references are of these themselves
abbrev pub follows : Ask → Bool → Bool
follows (SymrefUpdate target old) deref = false
follows (SymrefCreate target) deref = false
follows (SymrefDelete old) deref = false
follows (SymrefVerify old) deref = false
follows ask deref = deref

-- The names in what is asked of a reference of this name: its own, and those of targets.

abbrev pub IsOldNameIn : Option OldAsk → (text : List ℕ) → Type 0
IsOldNameIn (Some (OldName name)) text = text ≡ name
IsOldNameIn old text = ⊥

abbrev pub IsTargetIn : Ask → (text : List ℕ) → Type 0
IsTargetIn (SymrefUpdate target old) text = (text ≡ target) ⊎ IsOldNameIn old text
IsTargetIn (SymrefCreate target) text = text ≡ target
IsTargetIn (SymrefDelete (Some old)) text = text ≡ old
IsTargetIn (SymrefVerify (Some old)) text = text ≡ old
IsTargetIn ask text = ⊥

-- why a text gives no full name: there is no memory, or it breaks a rule
abbrev pub IsNoName : (text : List ℕ) → Fatal → Type 0
IsNoName text fatals.Memory = Unit {0}
IsNoName text (fatals.Name error) = full_error text ≡ Some error
IsNoName text fatal = ⊥

-- why a command gives no change: there is no memory, or one of its names breaks a rule
pub record IsNoChange (name : List ℕ) (ask : Ask) (fatal : Fatal) : Type 0 where
  pub text : List ℕ
  pub named : (text ≡ name) ⊎ IsTargetIn ask text
  pub breaks : IsNoName text fatal

-- a symbolic reference that is to be deleted or checked is not followed
abbrev pub NeedsNoDeref : Ask → Type 0
NeedsNoDeref (SymrefDelete old) = Unit {0}
NeedsNoDeref (SymrefVerify old) = Unit {0}
NeedsNoDeref ask = ⊥

-- why a command gives no edit
abbrev pub IsNoEdit : (deref : Bool) → (name : List ℕ) → Ask → Fatal → Type 0
IsNoEdit deref name ask fatal = ((fatal ≡ fatals.Deref) × (deref ≡ true) × NeedsNoDeref ask)
    ⊎ IsNoChange name ask fatal

-- the edit that a command asks for
pub record IsEditOf (session : Session) (deref : Bool) (name : List ℕ) (ask : Ask)
    (edit : RefEdit) : Type 0 where
  pub direct : deref ≡ true → NeedsNoDeref ask → ⊥
  pub full : full_error name ≡ None
  pub name_is : name_of edit ≡ name
  pub change : IsChangeOf session name ask edit.change
  pub deref_is : edit.deref ≡ follows ask deref
