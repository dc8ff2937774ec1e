use Rattle.gix_ref_edits.proofs.transaction.ext.VecRefEditsExt.pre_process.Goals as goal

pub returns-clause-single : goal.returns-clause-single
returns-clause-single g c = rw c.deref.ensures.value at c.in_ok-assure_single_names.ensures.single
