use Rattle.std.proofs.Common.{◌≤◌, length}
use Rattle.gix_ref_edits.specs.internal.Rounds.{HasRounds}
use Rattle.gix_ref_edits.proofs.transaction.ext.rounds.extend_with_splits.Given as goal

abbrev pub invariant-loop-round : goal.invariant-loop-round
invariant-loop-round g l = record {
  may_find : goal.F-IsAlwaysCallable g l.find;
  may_make : goal.M-IsAlwaysCallable g l.make_entry;
  within : l.first ≤ length l.edits.items;
  rounds : HasRounds (goal.F-step g) (goal.M-step g) g.T.EditEntry.edit_of g.T.EditEntry.with_edit l._round (l.fn.find, l.fn.make_entry) l.fn.edits.items l.edits.items l.first (l.find, l.make_entry);
}
