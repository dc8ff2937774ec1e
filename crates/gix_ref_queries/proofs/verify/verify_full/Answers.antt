use Rattle.std.proofs.Common.{subst, List, ℕ}
use Rattle.gix_ref_name.specs.Names.{full_bytes, full_ref_bytes}
use Rattle.gix_ref_queries.specs.Answers.{EndVerified}
use Rattle.gix_ref_queries.proofs.Ends.{verified}
use Rattle.gix_ref_queries.proofs.verify.verify_full.Goals as goal

pub returns-clause-answers : goal.returns-clause-answers
returns-clause-answers g c =
    let F = g.F.Files in
    let a = c.in_ok-answer.answer in
    let done = c.follow-end.result in
    verified g.F.Reader.ReadAt F.honest F.means F.faults c.args.store.now (full_bytes c.in_ok-owned.owned) (full_bytes done.name) (full_ref_bytes c.args.name) done.end a c.in_ok-owned.ensures c.follow-end.ensures.ends c.follow-end.ensures.seen c.follow-end.ensures.failed
    (subst (λ (n : List ℕ). EndVerified done.end n a) c.to_path.ensures.bytes c.in_ok-answer.ensures)
