-- Whether what is prepared is what was asked for: each update is of the reference that it names. It is not where `HEAD` led to the branch
-- of an update, and was switched before it was locked.
use Rattle.std.specs.Prelude.{◌≡◌, ◌⊎◌, ℕ, List, [], ◌∷◌, true}
use Rattle.gix_ref_name.specs.Names.{full_bytes}
use Rattle.gix_ref_edits.specs.RefEdits.{name_of}
use Rattle.gix_ref_edits.specs.declared.transaction.RefEdit.{RefEdit}
use Rattle.gix_ref_session.specs.Leading.{updates}
use Rattle.gix_ref_session.specs.declared.fatal.Fatal.{Fatal}
use Rattle.gix_ref_session.specs.declared.fatal.Fatal.TheVariants as fatals

-- an edit of this name is held
abbrev pub IsHeld : (held : List RefEdit) → (name : List ℕ) → Type 0
IsHeld [] name = ⊥
IsHeld (edit ∷ held) name = (name_of edit ≡ name) ⊎ IsHeld held name

-- an edit is no update to an object, or one of a reference that is held
abbrev pub IsNamed : (held : List RefEdit) → RefEdit → Type 0
IsNamed held edit = updates edit.change ≡ true → IsHeld held (name_of edit)

-- it is an update of a reference that is not held
abbrev pub IsUnnamed : (held : List RefEdit) → RefEdit → Type 0
IsUnnamed held edit = (updates edit.change ≡ true) × (IsHeld held (name_of edit) → ⊥)

-- each update is of the reference that it names
abbrev pub AreNamed : (held edits : List RefEdit) → Type 0
AreNamed held [] = Unit {0}
AreNamed held (edit ∷ edits) = IsNamed held edit × AreNamed held edits

-- the update of this name is not
abbrev pub IsSwitched : (held edits : List RefEdit) → (name : List ℕ) → Type 0
IsSwitched held [] name = ⊥
IsSwitched held (edit ∷ edits) name =
    (IsUnnamed held edit × (name_of edit ≡ name)) ⊎ IsSwitched held edits name

-- so it is with this error; or there was no memory to look
abbrev pub IsSwitchedFor : (held edits : List RefEdit) → Fatal → Type 0
IsSwitchedFor held edits (fatals.Switched name) = IsSwitched held edits (full_bytes name)
IsSwitchedFor held edits fatals.Memory = Unit {0}
IsSwitchedFor held edits fatal = ⊥
