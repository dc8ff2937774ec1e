use Rattle.std.proofs.Common.{◌≡◌, ◌<◌, ◌≤◌, ℕ, get_or}
use Rattle.gix_ref_transaction.specs.CarriedEdits.{IsCarried}
use Rattle.gix_ref_transaction.specs.Parents.{parents_in}
use Rattle.gix_ref_transaction.specs.PrepareSteps.{effects_of, ids_in, place_paths, puts_in, seen_files, value_of}
use Rattle.gix_ref_transaction.specs.declared.edit.Edit.{Edit}
use Rattle.gix_ref_transaction.proofs.prepare.carry.record_old_values.Given as goal

-- those that were seen carry what was found, and the others are as they were
abbrev pub invariant-loop-edit : goal.invariant-loop-edit
invariant-loop-edit l = record {
  places : place_paths l.edits ≡ place_paths l.fn.edits;
  parents : parents_in l.edits ≡ parents_in l.fn.edits;
  files : seen_files l.edits ≡ seen_files l.fn.edits;
  effects : effects_of l.edits ≡ effects_of l.fn.edits;
  ids : ids_in l.edits ≡ ids_in l.fn.edits;
  puts : puts_in l.edits ≡ puts_in l.fn.edits;
  carried : (k : ℕ) (d : Edit) → k < l.edit-index → IsCarried (get_or l.fn.edits k d).update (value_of (get_or l.fn.edits k d).found) (get_or l.edits k d).update;
  rest : (k : ℕ) (d : Edit) → l.edit-index ≤ k → get_or l.edits k d ≡ get_or l.fn.edits k d;
}
