use Rattle.std.proofs.Common.{◌⊎◌, inl, inr}
use Rattle.gix_ref_files.proofs.Moments.{loses_weaken}
use Rattle.gix_ref_packed.specs.OpenFiles.{HasReadFault}
use Rattle.gix_ref_store.specs.Store.{files_of}
use Rattle.gix_ref_program.specs.Writes.{IsKept}
use Rattle.gix_ref_program.proofs.Writing.{keeps_all}
use Rattle.gix_ref_session.specs.Transactions.{IsTransactionLoss}
use Rattle.gix_ref_session.proofs.session.close.Goals as goal

pub returns-in-Abort-clause-lost : goal.returns-in-Abort-clause-lost
returns-in-Abort-clause-lost g c h good rests =
    let F = g.F.Files in
    let store = c.args.store.now in
    keeps_all F.means (files_of store) (λ T. IsKept F.means (files_of store) T ⊎ IsTransactionLoss F.honest F.means F.faults c.args.session.now.committer (HasReadFault g.F.Reader.ReadAt.faults) c.args.edits.now store T) (λ T is. inl is)

pub returns-in-End-clause-lost : goal.returns-in-End-clause-lost
returns-in-End-clause-lost g c h good rests =
    let F = g.F.Files in
    let store = c.args.store.now in
    keeps_all F.means (files_of store) (λ T. IsKept F.means (files_of store) T ⊎ IsTransactionLoss F.honest F.means F.faults c.args.session.now.committer (HasReadFault g.F.Reader.ReadAt.faults) c.args.edits.now store T) (λ T is. inl is)

pub returns-in-Prepare-clause-lost : goal.returns-in-Prepare-clause-lost
returns-in-Prepare-clause-lost g c h good rests = loses_weaken (c.settle.ensures.lost h good rests) (λ T loss. inr loss)
