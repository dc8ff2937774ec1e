use Rattle.std.proofs.Common.{⊎_elim, map, refl, sym}
use Rattle.std.specs.Prelude.{bytes_eq}
use Rattle.gix_ref_files.specs.Lock.{lock_of}
use Rattle.gix_ref_transaction.specs.OwnLocks.{paths_of}
use Rattle.gix_ref_transaction.specs.PrepareSteps.{held_locks, lock_paths, packed_places}
use Rattle.gix_ref_transaction.proofs.Adds.{any_cases}
use Rattle.gix_ref_store.proofs.PreparedLosses.{removing_loses}
use Rattle.gix_ref_store.proofs.Releasing.{all_gone, paths_risen}
use Rattle.gix_ref_store.proofs.file.transaction.Prepared+F+Plan+T.rollback.Goals as goal

pub returns-clause-rolled : goal.returns-clause-rolled
returns-clause-rolled g c =
    let F = g.F.Files in
    let plan = c.args.self.plan in
    let held = plan.edits.items in
    let e = c.release_all-remains.ensures in
    let left = c.release_all-remains.result.left.items in
    let now = F.means c.release_all-remains.new.files in
    record {
      gone = λ h q within out. ⊎_elim (λ mine. e.packed_gone h q mine out)
          (λ own. all_gone held plan.edits.len (paths_of left) now.tree (sym plan.edits.ok.0) (e.gone h) q own out)
          (any_cases (λ r. bytes_eq r q) (map lock_of (packed_places plan.packed)) (lock_paths held) within);
      ours = e.named.ours;
      once = e.named.once;
      named = paths_risen c.release_all-remains.result.left (F.faults c.args.self.store.now.files) (F.faults c.release_all-remains.new.files) e.named.named;
      leaves = e.releases.leaves;
      removes = e.releases.passes;
      lost = λ h places own. removing_loses F.means _ _ (held_locks plan.packed held) places (e.releases.passes h) own;
      same = record { dirs = refl; namespace = refl; of_kind = refl; reflogs = refl; composes = refl; prohibits = refl; threshold = refl };
    }
