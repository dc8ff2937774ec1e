-- The edits of a transaction as the plan of a commit has them.
use Rattle.std.specs.Prelude.{List, map}
use Rattle.gix_ref_theory.specs.Edits as plan
use Rattle.gix_ref_edits.specs.declared.transaction.RefEdit.{RefEdit}
use Rattle.gix_ref_transaction.specs.CarriedEdits.{edit_of}

abbrev pub planned : List RefEdit → List plan.Edit
planned edits = map edit_of edits
