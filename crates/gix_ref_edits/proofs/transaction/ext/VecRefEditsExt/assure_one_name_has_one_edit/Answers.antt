use Rattle.gix_ref_edits.proofs.transaction.ext.VecRefEditsExt.assure_one_name_has_one_edit.Goals as goal

pub returns-clause-single : goal.returns-clause-single
returns-clause-single g c = rw c.deref.ensures.value at c.assure_single_names.ensures.single
