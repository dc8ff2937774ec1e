use Rattle.std.proofs.Common.{◌≡◌, ◌≤◌, ◌<◌, ◌+◌, ◌⊎◌, ℕ, List, ◌++◌, true, false, reverse, vec_len}
use Rattle.std.specs.Vec.{vec_capacity}
use Rattle.gix_ref_files.specs.Files.{disk_of, Passes, HasRisenBy, FaultCounts, NoFewer}
use Rattle.gix_ref_files.specs.Tree.{Path, is_file}
use Rattle.gix_ref_transaction.specs.CommitRenames.{lock_at, log_at, path_in, place_at, stays_at}
use Rattle.gix_ref_transaction.specs.PrepareSteps.{lock_paths, updates}
use Rattle.gix_ref_transaction.specs.OwnLocks.{paths_of, is_in, times}
use Rattle.gix_ref_transaction.specs.declared.edit.Edit.{Edit}
use Rattle.gix_ref_transaction.proofs.Removals.{RemovesOn}
use Rattle.gix_ref_transaction.proofs.release.release_each.Given as goal

-- a lock that is not among the rest is gone, renamed or left
abbrev pub invariant-loop-edit : goal.invariant-loop-edit
invariant-loop-edit g l =
    let means = g.F.Files.means in
    let faults = g.F.Files.faults in
    let first = means l.fn.files in
    let now = means l.files in
    let all = l.fn.edits.items in
    let before = paths_of l.fn.remains.left.items in
    let left = paths_of l.remains.left.items in
    record {
      no_fewer : NoFewer (faults l.fn.files) (faults l.files);
      counted : (base : FaultCounts) → HasRisenBy (vec_len l.fn.remains.left) base (faults l.fn.files) → HasRisenBy (vec_len l.remains.left) base (faults l.files);
      room : vec_len l.edits + vec_len l.remains.left ≤ vec_capacity l.remains.left;
      room_for_edits : vec_len l.edits + vec_len l.remains.edits ≤ vec_capacity l.remains.edits;
      len : vec_len l.remains.left + vec_len l.edits ≤ vec_len l.fn.remains.left + vec_len l.fn.edits;
      room_left : vec_capacity l.remains.left ≡ vec_capacity l.fn.remains.left;
      bound : vec_len l.edits ≤ vec_len l.fn.edits;
      renamed : ((k : ℕ) → k < vec_len l.fn.edits → stays_at all l.done k ≡ false) → l.files ≡ l.fn.files;
      front : (tail : List Edit) × (all ≡ l.edits.items ++ tail) × (l.remains.edits.items ≡ l.fn.remains.edits.items ++ reverse (updates tail));
      place : l.done < vec_len l.fn.edits → vec_len l.edits ≤ l.done → l.remains.place.items ≡ place_at all l.done;
      log : l.done < vec_len l.fn.edits → vec_len l.edits ≤ l.done → l.remains.log.items ≡ path_in (log_at all l.done);
      ours : (q : Path) → is_in left q ≡ true → (is_in before q ≡ true) ⊎ (is_in (lock_paths all) q ≡ true);
      kept : (q : Path) → is_in before q ≡ true → is_in left q ≡ true;
      once : (q : Path) → times q left + times q (lock_paths l.edits.items) ≤ times q before + times q (lock_paths all);
      gone : g.F.Files.honest → (k : ℕ) → vec_len l.edits ≤ k → k < vec_len l.fn.edits → stays_at all l.done k ≡ true → is_in left (lock_at all k) ≡ false → is_file (now.tree (lock_at all k)) ≡ false;
      removes : g.F.Files.honest → Passes first now (RemovesOn (lock_paths all) (disk_of first));
    }

abbrev pub decreases-loop-edit : goal.decreases-loop-edit
decreases-loop-edit g l = vec_len l.edits
