-- Lists of composed edits, one edit longer.
use Rattle.std.proofs.Common.{List, [], ◌∷◌, ◌++◌}
use Rattle.gix_ref_edits.specs.declared.transaction.RefEdit.{RefEdit}
use Rattle.gix_ref_store.specs.ComposedEdits.{AreComposedEdits, IsComposedEdit}

pub composed_more : (given asked : List RefEdit) (edit other : RefEdit) → AreComposedEdits given asked → IsComposedEdit edit other → AreComposedEdits (given ++ edit ∷ []) (asked ++ other ∷ [])
composed_more [] [] edit other are is = (is, tt)
composed_more [] (b ∷ asked) edit other are is = absurd are
composed_more (a ∷ given) [] edit other are is = absurd are
composed_more (a ∷ given) (b ∷ asked) edit other are is = (are.0, composed_more given asked edit other are.1 is)
