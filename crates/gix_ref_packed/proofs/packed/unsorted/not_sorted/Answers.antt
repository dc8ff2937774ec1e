use Rattle.std.proofs.Common.{subst}
use Rattle.gix_ref_packed.specs.Buffers.{IsStuck}
use Rattle.gix_ref_packed.proofs.AreRecords.{passed_records}
use Rattle.gix_ref_packed.proofs.OrderLemmas.{not_stuck}
use Rattle.gix_ref_packed.proofs.packed.unsorted.not_sorted.Goals as goal

pub returns-in-Iter-clause-no_change : goal.returns-in-Iter-clause-no_change
returns-in-Iter-clause-no_change c = λ k first t pass stuck. let rs = passed_records k t pass in absurd (not_stuck k first _ t rs.0 rs.1 (subst (IsStuck k first t) c.in-Iter.is stuck))
