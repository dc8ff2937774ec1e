-- Edits that keep what references have.
use Rattle.std.specs.Prelude.{◌≡◌, List, [], ◌∷◌, false, Some}
use Rattle.gix_ref_target.specs.Targets.TargetValue.{object_id}
use Rattle.gix_ref_edits.specs.RefEdits.{expected_of, matched, mode_of, new_of}
use Rattle.gix_ref_edits.specs.declared.transaction.RefEdit.{RefEdit}
use Rattle.gix_ref_edits.specs.declared.transaction.RefLog.TheVariants.{AndReference}
use Rattle.gix_ref_pack.specs.declared.pack.Loose.{Loose}

-- An edit that gives a loose reference the object that it has, expects it there, and follows no symbolic reference.
pub record KeepsObject (l : Loose) (edit : RefEdit) : Type 0 where
  pub name : edit.name ≡ l.name
  pub new : new_of edit.change ≡ Some (object_id l.id)
  pub expects : matched (expected_of edit.change) ≡ Some (object_id l.id)
  pub of_reference : mode_of edit.change ≡ AndReference
  pub direct : edit.deref ≡ false

-- one for each of these references, in their order
abbrev pub AreKeptFor : List Loose → List RefEdit → Type 0
AreKeptFor [] [] = Unit {0}
AreKeptFor [] (edit ∷ edits) = ⊥
AreKeptFor (l ∷ loose) [] = ⊥
AreKeptFor (l ∷ loose) (edit ∷ edits) = KeepsObject l edit × AreKeptFor loose edits
