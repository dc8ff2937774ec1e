use Rattle.gix_ref_packed.specs.OpenFiles.{HasReadFault}
use Rattle.gix_ref_store.specs.CommitResult.{left_of}
use Rattle.gix_ref_session.proofs.Committing.{commit_ends, commit_leaves, commit_loses}
use Rattle.gix_ref_session.proofs.try_once.commit.Goals as goal

pub returns-clause-ends : goal.returns-clause-ends
returns-clause-ends g c old edits from =
    let F = g.F.Files in
    commit_ends F.honest F.means F.faults old c.args.prepared.store.now c.commit.new.self.0 edits c.args.prepared.plan.packed c.args.prepared.plan.edits.items from
    c.args.session.now.committer (HasReadFault g.F.Reader.ReadAt.faults) c.commit.result c.result_of.result c.result_of.ensures c.commit.ensures.committed c.commit.ensures.failed c.commit.ensures.safe c.commit.ensures.kept c.commit.ensures.same

pub returns-clause-safe : goal.returns-clause-safe
returns-clause-safe g c =
    let F = g.F.Files in
    record {
      leaves = λ old edits from h. commit_leaves F.honest F.means F.faults old c.args.prepared.store.now c.commit.new.self.0 edits c.args.prepared.plan.packed c.args.prepared.plan.edits.items from
          c.args.session.now.committer (left_of c.commit.result) c.commit.ensures.safe h;
      lost = λ old edits from h good at_rest. commit_loses F.honest F.means F.faults old c.args.prepared.store.now c.commit.new.self.0 edits c.args.prepared.plan.packed c.args.prepared.plan.edits.items from
          c.args.session.now.committer (left_of c.commit.result) c.commit.ensures.safe h good at_rest;
    }
