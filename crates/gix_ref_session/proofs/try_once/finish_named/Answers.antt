use Rattle.std.proofs.Common.{inl, inr, refl}
use Rattle.gix_ref_session.proofs.try_once.finish_named.Goals as goal

pub returns-in-Ok-clause-ends : goal.returns-in-Ok-clause-ends
returns-in-Ok-clause-ends g c old edits from =
    let plan = c.args.prepared.plan in
    inr (record { begun = record { mid = c.args.prepared.store.now; packed = plan.packed; held = plan.edits.items; prepared = from }; named = c.in-Ok.ensures }, c.finish.ensures.ends old edits from)

pub returns-in-Err-clause-ends : goal.returns-in-Err-clause-ends
returns-in-Err-clause-ends g c old edits from =
    let plan = c.args.prepared.plan in
    inl (record {
      fatal = c.in-Err.fatal;
      is = refl;
      why = record {
        begun = record { mid = c.args.prepared.store.now; packed = plan.packed; held = plan.edits.items; prepared = from };
        why = c.in-Err.ensures;
        back = c.give_up.ensures.ends old edits from;
      };
      input = refl;
      output = refl;
    })

pub returns-in-Err-clause-safe : goal.returns-in-Err-clause-safe
returns-in-Err-clause-safe g c = c.give_up.ensures.safe c.args.session.now.committer
