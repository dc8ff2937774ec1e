use Rattle.std.proofs.Common.{rules, refl, inl, inr, ⊎_elim, subst, ◌≡◌, ◌⊎◌, [], ◌∷◌}
use Rattle.std.proofs.lemmas.Result.{err_from_is_err_and}
use Rattle.gix_ref_files.specs.Lock.{MakesLock, lock_of}
use Rattle.gix_ref_files.specs.Tree.{Path, Tree}
use Rattle.gix_ref_files.specs.declared.files.Create.{Create}
use Rattle.gix_ref_files.specs.declared.files.Create.TheVariants as create
use Rattle.gix_ref_files.proofs.Meeting.{fewer_after}
use Rattle.gix_ref_files.proofs.Moments.{weaken}
use Rattle.gix_ref_transaction.specs.Causes.{IsInTheWay}
use Rattle.gix_ref_transaction.specs.OwnLocks.{AddsLocks}
use Rattle.gix_ref_transaction.proofs.Adds.{clash}
use Rattle.gix_ref_transaction.proofs.Locking.{acquiring_adds, blocked_there, made_new, readying_adds, standing_there}
use Rattle.gix_ref_transaction.proofs.Faults.{told_fault}
use Rattle.gix_ref_transaction.proofs.PackedLocks.{no_some}
use Rattle.gix_ref_transaction.proofs.prepare.packed_lock.take_lock.Goals as goal

-- something is in the way of the lock
way_there : (old new : Tree) (lock : Path) (made : Create) → (made ≡ create.Standing) ⊎ (made ≡ create.Blocked) → MakesLock old lock new made → IsInTheWay old (lock_of lock) × AddsLocks [] (lock_of lock ∷ []) old new
way_there old new lock made (inl standing) makes =
    let there = standing_there old lock (lock_of lock) refl new (subst (λ (x : Create). MakesLock old lock new x) standing makes) in (inl there.0, there.1)
way_there old new lock made (inr blocked) makes =
    let there = blocked_there old lock (lock_of lock) refl new (subst (λ (x : Create). MakesLock old lock new x) blocked makes) in (inr there.0, there.1)

pub returns-in-Made-clause-taken : goal.returns-in-Made-clause-taken
returns-in-Made-clause-taken g c =
    let old = (g.F.Files.means c.args.files.now).tree in
    let new = (g.F.Files.means c.take_lock.new.files).tree in
    record {
      same = refl;
      free = λ h way.
          let made = made_new old c.args.lock (lock_of c.args.lock) refl new (subst (λ (x : Create). MakesLock old c.args.lock new x) c.in-Made.is (c.in_ok-take_lock.ensures.answer h)) in
          ⊎_elim (λ some. no_some some made.free) (λ blocked. clash blocked made.way) way;
      takes = λ h.
          let made = made_new old c.args.lock (lock_of c.args.lock) refl new (subst (λ (x : Create). MakesLock old c.args.lock new x) c.in-Made.is (c.in_ok-take_lock.ensures.answer h)) in
          (made.free, made.empty, acquiring_adds old c.args.lock (lock_of c.args.lock) refl new (c.take_lock.ensures.leaves h).tree);
      whole = search rules;
    }

pub returns-in-Made-clause-takes : goal.returns-in-Made-clause-takes
returns-in-Made-clause-takes g c = record {
  leaves = λ h. weaken (c.take_lock.ensures.leaves h) (acquiring_adds (g.F.Files.means c.args.files.now).tree c.args.lock (lock_of c.args.lock) refl);
  passes = c.take_lock.ensures.passes;
  no_fewer = fewer_after c.take_lock.result _ _ c.take_lock.ensures.count.0;
}

pub returns-in-Standing-clause-refused : goal.returns-in-Standing-clause-refused
returns-in-Standing-clause-refused g c =
    let old = (g.F.Files.means c.args.files.now).tree in
    let new = (g.F.Files.means c.take_lock.new.files).tree in
    record {
      cause = λ h. inr ((way_there old new c.args.lock _ c.in-Standing.is (c.in_ok-take_lock.ensures.answer h)).0, refl);
      kept = λ h. (way_there old new c.args.lock _ c.in-Standing.is (c.in_ok-take_lock.ensures.answer h)).1;
      counted = search rules;
    }

pub returns-in-Standing-clause-takes : goal.returns-in-Standing-clause-takes
returns-in-Standing-clause-takes g c = record {
  leaves = λ h. weaken (c.take_lock.ensures.leaves h) (acquiring_adds (g.F.Files.means c.args.files.now).tree c.args.lock (lock_of c.args.lock) refl);
  passes = c.take_lock.ensures.passes;
  no_fewer = fewer_after c.take_lock.result _ _ c.take_lock.ensures.count.0;
}

pub returns-in_err-take_lock-clause-refused : goal.returns-in_err-take_lock-clause-refused
returns-in_err-take_lock-clause-refused g c =
    let told = err_from_is_err_and c.from_residual.result c.from_residual.ensures.1 in
    rw (told.1, told.2) (record {
      cause = search rules;
      kept = λ h. readying_adds (g.F.Files.means c.args.files.now).tree c.args.lock (lock_of c.args.lock) refl (g.F.Files.means c.take_lock.new.files).tree (c.in_err-take_lock.ensures.answer h);
      counted = told_fault _ _ _ c.in_err-take_lock.ensures.count.0;
    })

pub returns-in_err-take_lock-clause-takes : goal.returns-in_err-take_lock-clause-takes
returns-in_err-take_lock-clause-takes g c = record {
  leaves = λ h. weaken (c.take_lock.ensures.leaves h) (acquiring_adds (g.F.Files.means c.args.files.now).tree c.args.lock (lock_of c.args.lock) refl);
  passes = c.take_lock.ensures.passes;
  no_fewer = fewer_after c.take_lock.result _ _ c.take_lock.ensures.count.0;
}
