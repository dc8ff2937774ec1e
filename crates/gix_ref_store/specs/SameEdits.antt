-- Edits that are handed back.
use Rattle.std.specs.Prelude.{◌≡◌, List, map}
use Rattle.gix_ref_edits.specs.EditValues.{edit_value}
use Rattle.gix_ref_edits.specs.declared.transaction.RefEdit.{RefEdit}

-- the same edits, in order: with equal names, messages, expectations and targets
abbrev pub AreSameEdits : List RefEdit → List RefEdit → Type 0
AreSameEdits edits others = map edit_value others ≡ map edit_value edits
