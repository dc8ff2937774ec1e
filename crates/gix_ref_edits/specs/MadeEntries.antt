-- Entries of lists of edits: those made for children, and entries whose edit was changed.
use Rattle.std.specs.Prelude.{◌≡◌, ℕ, ◌+◌, List, [], ◌∷◌, ◌++◌, Option, Some, None, map}
use Rattle.std.specs.List.{FoldsTo}
use Rattle.gix_ref_edits.specs.declared.transaction.RefEdit.{RefEdit}
use Rattle.gix_ref_edits.specs.EditValues.{EditValue, edit_value}
use Rattle.gix_ref_edits.specs.SplitLists.{referent}

-- the edits of entries
abbrev pub edits_of : {T : Type 0} → (T → RefEdit) → List T → List EditValue
edits_of edit_of = map (λ entry. edit_value (edit_of entry))

-- an entry that was made for the child of the edit at a place of the list
pub record MadeEntry (T : Type 0) : Type 0 where
  pub place : ℕ
  pub child : RefEdit
  pub entry : T

-- These calls of a maker of entries were made, in order.
abbrev pub Makes : {M T : Type 0} → (M → ℕ → RefEdit → T → M → Type 0) → M →
    List (MadeEntry T) → M → Type 0
Makes step = FoldsTo (λ before made after. step before made.place made.child made.entry after)

-- whatever a maker is called with, the entry has the edit that it was given
abbrev pub KeepsEdits : {M T : Type 0} → (T → RefEdit) → (M → ℕ → RefEdit → T → M → Type 0) → Type 0
KeepsEdits {M} {T} edit_of step =
    (before : M) (place : ℕ) (child : RefEdit) (entry : T) (after : M) →
    step before place child entry after
    → edit_value (edit_of entry) ≡ edit_value child

-- the same entry, with some edit
abbrev pub IsSameButEdit : {T : Type 0} → (T → RefEdit → T) → T → T → Type 0
IsSameButEdit with_edit before after = (edit : RefEdit) × (after ≡ with_edit before edit)

-- the places of the edits that have a child, where the first of them is at `at`
abbrev pub place_list : ℕ → Option (List ℕ) → List ℕ
place_list at None = []
place_list at (Some name) = at ∷ []

unfoldable pub parent_places : (List ℕ → Option (List ℕ)) → ℕ → List EditValue → List ℕ
parent_places find at [] = []
parent_places find at (edit ∷ edits) = place_list at
    (referent find edit.name edit.deref) ++ parent_places find (at + 1) edits
