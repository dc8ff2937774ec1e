use Rattle.gix_ref_files.proofs.Meeting.{fewer_after}
use Rattle.std.proofs.Common.{rules, refl, subst}
use Rattle.gix_ref_files.specs.Lock.{MakesLock, lock_of}
use Rattle.gix_ref_files.specs.declared.files.Create.{Create}
use Rattle.gix_ref_files.proofs.Moments.{weaken}
use Rattle.gix_ref_transaction.proofs.Locking.{readying_adds, acquiring_adds, made_new, standing_there, blocked_there}
use Rattle.gix_ref_transaction.proofs.edit.Edit.take.Goals as goal

pub returns-in-Ok-Made-clause-taken : goal.returns-in-Ok-Made-clause-taken
returns-in-Ok-Made-clause-taken g c h =
    let F = g.F.Files in
    let place = c.args.self.now.lock in
    let old = (F.means c.args.files.now).tree in
    let new = (F.means c.take_lock.new.files).tree in
    record {
      made = made_new old place (lock_of place) refl new (subst (λ (create : Create). MakesLock old place new create) c.in-Ok-Made.field-0-is (c.in-Ok-Made.ensures.answer h));
      whole = search rules;
    }

pub returns-in-Ok-Made-clause-takes : goal.returns-in-Ok-Made-clause-takes
returns-in-Ok-Made-clause-takes g c =
    let place = c.args.self.now.lock in
    record {
      leaves = λ h. weaken (c.take_lock.ensures.leaves h) (acquiring_adds (g.F.Files.means c.args.files.now).tree place (lock_of place) refl);
      passes = c.take_lock.ensures.passes;
      no_fewer = fewer_after c.take_lock.result _ _ c.take_lock.ensures.count.0;
    }

pub returns-in-Ok-Standing-clause-refused : goal.returns-in-Ok-Standing-clause-refused
returns-in-Ok-Standing-clause-refused g c =
    let F = g.F.Files in
    let place = c.args.self.now.lock in
    let old = (F.means c.args.files.now).tree in
    let new = (F.means c.take_lock.new.files).tree in
    record {
      cause = λ h. c.standing.ensures.reported old (lock_of place) (standing_there old place (lock_of place) refl new (subst (λ (create : Create). MakesLock old place new create) c.in-Ok-Standing.field-0-is (c.in-Ok-Standing.ensures.answer h))).0;
      kept = λ h. (standing_there old place (lock_of place) refl new (subst (λ (create : Create). MakesLock old place new create) c.in-Ok-Standing.field-0-is (c.in-Ok-Standing.ensures.answer h))).1;
      counted = search rules;
    }

pub returns-in-Ok-Standing-clause-takes : goal.returns-in-Ok-Standing-clause-takes
returns-in-Ok-Standing-clause-takes g c =
    let place = c.args.self.now.lock in
    record {
      leaves = λ h. weaken (c.take_lock.ensures.leaves h) (acquiring_adds (g.F.Files.means c.args.files.now).tree place (lock_of place) refl);
      passes = c.take_lock.ensures.passes;
      no_fewer = fewer_after c.take_lock.result _ _ c.take_lock.ensures.count.0;
    }

pub returns-in-Ok-Blocked-clause-refused : goal.returns-in-Ok-Blocked-clause-refused
returns-in-Ok-Blocked-clause-refused g c =
    let F = g.F.Files in
    let place = c.args.self.now.lock in
    let old = (F.means c.args.files.now).tree in
    let new = (F.means c.take_lock.new.files).tree in
    record {
      cause = λ h. c.blocked.ensures.reported old (lock_of place) (blocked_there old place (lock_of place) refl new (subst (λ (create : Create). MakesLock old place new create) c.in-Ok-Blocked.field-0-is (c.in-Ok-Blocked.ensures.answer h))).0;
      kept = λ h. (blocked_there old place (lock_of place) refl new (subst (λ (create : Create). MakesLock old place new create) c.in-Ok-Blocked.field-0-is (c.in-Ok-Blocked.ensures.answer h))).1;
      counted = search rules;
    }

pub returns-in-Ok-Blocked-clause-takes : goal.returns-in-Ok-Blocked-clause-takes
returns-in-Ok-Blocked-clause-takes g c =
    let place = c.args.self.now.lock in
    record {
      leaves = λ h. weaken (c.take_lock.ensures.leaves h) (acquiring_adds (g.F.Files.means c.args.files.now).tree place (lock_of place) refl);
      passes = c.take_lock.ensures.passes;
      no_fewer = fewer_after c.take_lock.result _ _ c.take_lock.ensures.count.0;
    }

pub returns-in-Err-clause-refused : goal.returns-in-Err-clause-refused
returns-in-Err-clause-refused g c =
    let place = c.args.self.now.lock in
    record {
      cause = search rules;
      kept = λ h. readying_adds (g.F.Files.means c.args.files.now).tree place (lock_of place) refl (g.F.Files.means c.take_lock.new.files).tree (c.in-Err.ensures.answer h);
      counted = search rules;
    }

pub returns-in-Err-clause-takes : goal.returns-in-Err-clause-takes
returns-in-Err-clause-takes g c =
    let place = c.args.self.now.lock in
    record {
      leaves = λ h. weaken (c.take_lock.ensures.leaves h) (acquiring_adds (g.F.Files.means c.args.files.now).tree place (lock_of place) refl);
      passes = c.take_lock.ensures.passes;
      no_fewer = fewer_after c.take_lock.result _ _ c.take_lock.ensures.count.0;
    }
