use Rattle.gix_ref_files.proofs.Meeting.{no_fewer_starts, no_fewer_joins}
use Rattle.gix_ref_transaction.proofs.Faults.{risen_by_none_left}
use Rattle.std.proofs.Common.{◌≡◌, ⊎_elim, ℕ, List, map, refl, sym, ◌∙◌, ap, arith, Vec, Global}
use Rattle.std.specs.Prelude.{bytes_eq}
use Rattle.gix_ref_files.specs.Lock.{lock_of}
use Rattle.gix_ref_transaction.specs.OwnLocks.{paths_of, is_in, times}
use Rattle.gix_ref_transaction.specs.PrepareSteps.{lock_paths, packed_places}
use Rattle.gix_ref_transaction.proofs.Adds.{any_left, any_right, clash}
use Rattle.gix_ref_transaction.proofs.PackedRelease.{both_leave, both_remove}
use Rattle.gix_ref_transaction.proofs.Removing.{times_append}
use Rattle.gix_ref_transaction.proofs.release.release_all.Goals as goal

pub returns-clause-releases : goal.returns-clause-releases
returns-clause-releases g c =
    let xs = map lock_of (packed_places c.args.packed) in
    let ys = lock_paths c.args.edits.items in
    let old = g.F.Files.means c.args.files.now in
    let mid = g.F.Files.means c.release_packed.new.files in
    let new = g.F.Files.means c.release_locks.new.files in
    let first = c.release_packed.ensures.releases in
    let second = c.release_locks.ensures.releases in
    record {
      leaves = λ h. both_leave xs ys old mid new (first.leaves h) (second.leaves h);
      passes = λ h. both_remove xs ys old mid new (first.passes h) (second.passes h);
      no_fewer = no_fewer_joins first.no_fewer second.no_fewer;
    }

pub returns-clause-named : goal.returns-clause-named
returns-clause-named g c =
    let xs = map lock_of (packed_places c.args.packed) in
    let ys = lock_paths c.args.edits.items in
    let first = c.release_packed.ensures.named in
    let second = c.release_locks.ensures.named in
    let no_locks = c.requires.room.no_locks in
    record {
      ours = λ q named. ⊎_elim
          (λ sooner. ⊎_elim
          (λ before. clash (ap (λ (l : List (Vec ℕ Global)). is_in (paths_of l) q) (sym no_locks) ∙ before) refl)
          (λ mine. any_left (λ p. bytes_eq p q) xs ys mine) (first.ours q sooner))
          (λ own. any_right (λ p. bytes_eq p q) xs ys own) (second.ours q named);
      once = λ q.
          let none : times q (paths_of c.args.remains.left.items) ≡ 0 = ap (λ (l : List (Vec ℕ Global)). times q (paths_of l)) no_locks in
          omega (arith, none, first.once q, second.once q, times_append q xs ys);
      named = second.counted (g.F.Files.faults c.args.files.now)
          (first.counted (g.F.Files.faults c.args.files.now) (risen_by_none_left c.args.remains.left (g.F.Files.faults c.args.files.now) (g.F.Files.faults c.args.files.now) no_locks (no_fewer_starts (g.F.Files.faults c.args.files.now))));
    }
