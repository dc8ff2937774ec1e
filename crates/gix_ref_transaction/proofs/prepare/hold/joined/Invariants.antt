use Rattle.std.proofs.Common.{◌≡◌, ◌≤◌, ◌+◌, ◌++◌, take, vec_len, length}
use Rattle.std.specs.Vec.{vec_capacity}
use Rattle.std.specs.Vec.Iter.{into_iter_items, into_iter_len}
use Rattle.std.specs.Iterator.Adapters.{zip_first, zip_second}
use Rattle.gix_ref_transaction.specs.Parents.{parents_in}
use Rattle.gix_ref_transaction.specs.PrepareSteps.{updates, place_paths}
use Rattle.gix_ref_transaction.proofs.prepare.hold.joined.Given as goal

-- what is left joins what was taken, and there is room for it
abbrev pub invariant-loop-update : goal.invariant-loop-update
invariant-loop-update l = record {
  asked : l.fn.split.edits.items ≡ updates l.edits.items ++ into_iter_items (zip_first l.update-iterator);
  places : l.fn.locks.items ≡ place_paths l.edits.items ++ into_iter_items (zip_second l.update-iterator);
  parents : parents_in l.edits.items ≡ take (length l.edits.items) l.fn.split.parents.items;
  updates_left : into_iter_len (zip_first l.update-iterator) + vec_len l.edits ≡ vec_len l.fn.split.edits;
  locks_left : into_iter_len (zip_second l.update-iterator) + vec_len l.edits ≡ vec_len l.fn.locks;
  room : vec_len l.fn.split.edits ≤ vec_capacity l.edits;
}
