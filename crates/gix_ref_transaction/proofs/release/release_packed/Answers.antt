use Rattle.std.proofs.Common.{rules, ◌≡◌, ◌≤◌, ◌+◌, inl, inr, ⊎_elim, ℕ, List, [], true, Option, map, sym, ◌∙◌, subst, Vec, Global}
use Rattle.gix_ref_files.specs.Tree.{Path}
use Rattle.gix_ref_transaction.specs.OwnLocks.{is_in, paths_of, times}
use Rattle.gix_ref_files.specs.Lock.{lock_of}
use Rattle.gix_ref_transaction.specs.PrepareSteps.{packed_places}
use Rattle.gix_ref_transaction.proofs.Adds.{in_here}
use Rattle.gix_ref_transaction.proofs.PackedRelease.{one_removes}
use Rattle.gix_ref_transaction.proofs.Removals.{one_leaves}
use Rattle.gix_ref_transaction.proofs.Removing.{one_more_once, path_cases, path_left}
use Rattle.gix_ref_transaction.proofs.release.release_packed.Goals as goal

pub returns-then-not-remove_lock-clause-releases : goal.returns-then-not-remove_lock-clause-releases
returns-then-not-remove_lock-clause-releases g c = record {
  leaves = λ h. one_leaves (map lock_of (packed_places c.args.packed)) _ (g.F.Files.means c.args.files.now) (g.F.Files.means c.remove_lock.new.files)
      (subst (λ (p : Option Path). is_in (map lock_of (packed_places p)) c.path.result.now ≡ true) (sym c.in-Some.is) (in_here (lock_of c.in-Some.lock) c.path.result.now [] (sym c.path.ensures))) (c.remove_lock.ensures.passes h);
  passes = λ h. one_removes (map lock_of (packed_places c.args.packed)) _ (g.F.Files.means c.args.files.now) (g.F.Files.means c.remove_lock.new.files)
      (subst (λ (p : Option Path). is_in (map lock_of (packed_places p)) c.path.result.now ≡ true) (sym c.in-Some.is) (in_here (lock_of c.in-Some.lock) c.path.result.now [] (sym c.path.ensures))) (c.remove_lock.ensures.passes h);
  no_fewer = c.remove_lock.ensures.no_fewer;
}

pub returns-else-not-remove_lock-clause-releases : goal.returns-else-not-remove_lock-clause-releases
returns-else-not-remove_lock-clause-releases g c = record {
  leaves = λ h. one_leaves (map lock_of (packed_places c.args.packed)) _ (g.F.Files.means c.args.files.now) (g.F.Files.means c.remove_lock.new.files)
      (subst (λ (p : Option Path). is_in (map lock_of (packed_places p)) c.path.result.now ≡ true) (sym c.in-Some.is) (in_here (lock_of c.in-Some.lock) c.path.result.now [] (sym c.path.ensures))) (c.remove_lock.ensures.passes h);
  passes = λ h. one_removes (map lock_of (packed_places c.args.packed)) _ (g.F.Files.means c.args.files.now) (g.F.Files.means c.remove_lock.new.files)
      (subst (λ (p : Option Path). is_in (map lock_of (packed_places p)) c.path.result.now ≡ true) (sym c.in-Some.is) (in_here (lock_of c.in-Some.lock) c.path.result.now [] (sym c.path.ensures))) (c.remove_lock.ensures.passes h);
  no_fewer = c.remove_lock.ensures.no_fewer;
}

pub returns-then-not-remove_lock-clause-named : goal.returns-then-not-remove_lock-clause-named
returns-then-not-remove_lock-clause-named g c =
    let left = c.args.left.now.items in
    let lock = lock_of c.in-Some.lock in
    let is = c.push_reserved.ensures.items in
    record {
      ours = λ q named. ⊎_elim (λ before. inl before)
          (λ here. inr (subst (λ (p : Option Path). is_in (map lock_of (packed_places p)) q ≡ true) (sym c.in-Some.is) (in_here lock q [] (sym c.into_parts.ensures.path ∙ here))))
          (path_cases left c.into_parts.result.1 q (subst (λ (l : List (Vec ℕ Global)). is_in (paths_of l) q ≡ true) is named));
      kept = λ q before. subst (λ (l : List (Vec ℕ Global)). is_in (paths_of l) q ≡ true) (sym is) (path_left left c.into_parts.result.1 q before);
      once = λ q. subst (λ (p : Option Path). times q (paths_of c.push_reserved.new.self.items) ≤ times q (paths_of left) + times q (map lock_of (packed_places p))) (sym c.in-Some.is)
          (one_more_once q left c.push_reserved.new.self.items c.into_parts.result.1 lock is c.into_parts.ensures.path);
      len = search rules;
      room = search rules;
      counted = search rules;
    }
