use Rattle.std.proofs.Common.{rules}
use Rattle.std.proofs.lemmas.Result.{err_from_is_err_and}
use Rattle.gix_ref_transaction.proofs.Faults.{told_fault}
use Rattle.gix_ref_transaction.proofs.prepare.packed_lock.refuse_stale_lock.Goals as goal

pub returns-in_err-kind-clause-refused : goal.returns-in_err-kind-clause-refused
returns-in_err-kind-clause-refused g c =
    let told = err_from_is_err_and c.from_residual.result c.from_residual.ensures.1 in
    rw (told.1, told.2) (record {
      cause = search rules;
      kept = search rules;
      counted = told_fault _ _ _ c.in_err-kind.ensures.count.0;
    })
