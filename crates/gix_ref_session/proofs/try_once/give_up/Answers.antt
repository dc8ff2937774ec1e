use Rattle.gix_ref_transaction.specs.OwnLocks.{paths_of}
use Rattle.gix_ref_session.proofs.Committing.{given_up, given_up_leaves, given_up_loses}
use Rattle.gix_ref_session.proofs.try_once.give_up.Goals as goal

pub returns-clause-ends : goal.returns-clause-ends
returns-clause-ends g c old edits from =
    let F = g.F.Files in
    given_up F.honest F.means F.faults old c.args.prepared.store.now c.rollback-given_up.new.self.0 edits c.args.prepared.plan.packed c.args.prepared.plan.edits.items from
    (paths_of c.rollback-given_up.result.locks_left.items) c.rollback-given_up.ensures.rolled

pub returns-clause-safe : goal.returns-clause-safe
returns-clause-safe g c committer =
    let F = g.F.Files in
    let left = paths_of c.rollback-given_up.result.locks_left.items in
    record {
      leaves = λ old edits from h. given_up_leaves F.honest F.means F.faults old c.args.prepared.store.now c.rollback-given_up.new.self.0 edits c.args.prepared.plan.packed c.args.prepared.plan.edits.items from
          committer left c.rollback-given_up.ensures.rolled h;
      lost = λ old edits from h good at_rest. given_up_loses F.honest F.means F.faults old c.args.prepared.store.now c.rollback-given_up.new.self.0 edits c.args.prepared.plan.packed c.args.prepared.plan.edits.items from
          committer left c.rollback-given_up.ensures.rolled h;
    }
