use Rattle.std.proofs.Common.{◌≡◌, take, drop}
use Rattle.gix_ref_edits.specs.internal.Rounds.{HasSplitLevel}
use Rattle.gix_ref_edits.proofs.transaction.ext.rounds.split_level.Given as goal

abbrev pub invariant-loop-place : goal.invariant-loop-place
invariant-loop-place g l = record {
  may_find : goal.F-IsAlwaysCallable g l.find;
  may_make : goal.M-IsAlwaysCallable g l.make_entry;
  so_far : HasSplitLevel (goal.F-step g) (goal.M-step g) g.T.EditEntry.edit_of g.T.EditEntry.with_edit l.fn.at (l.fn.find, l.fn.make_entry) (take l.place l.fn.level) (take l.place l.level) l.children.items (l.find, l.make_entry);
  rest : drop l.place l.level ≡ drop l.place l.fn.level;
}
