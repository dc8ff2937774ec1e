use Rattle.std.proofs.Common.{◌≡◌, ◌≤◌, ◌<◌, ℕ, get_or}
use Rattle.gix_ref_files.specs.ReadOnly.{OnlyReads}
use Rattle.gix_ref_transaction.specs.declared.edit.Edit.{Edit}
use Rattle.gix_ref_transaction.specs.CommitRenames.{SeesItsLog}
use Rattle.gix_ref_reflog.specs.AskedEdits.{all_but_logs}
use Rattle.gix_ref_reflog.specs.internal.LineSteps.{log_rules}
use Rattle.gix_ref_reflog.specs.internal.SeenLogs.{due_paths, IsBounded}
use Rattle.gix_ref_reflog.specs.internal.Decided.{AreDecidedBefore}
use Rattle.gix_ref_reflog.proofs.decide.decide_logs.Given as goal

-- the logs of the edits before this one are decided, and the others are as they were
abbrev pub invariant-loop-i : goal.invariant-loop-i
invariant-loop-i g l = record {
  but_logs : all_but_logs l.edits ≡ all_but_logs l.fn.edits;
  rest : (k : ℕ) (d : Edit) → l.i ≤ k → get_or l.edits k d ≡ get_or l.fn.edits k d;
  reads : OnlyReads g.F.Files.honest g.F.Files.means g.F.Files.faults l.fn.files l.files;
  there : g.F.Files.honest → (k : ℕ) (d : Edit) → k < l.i → SeesItsLog (g.F.Files.means l.fn.files).tree (get_or l.edits k d);
  bounded : IsBounded l.due;
  decided : g.F.Files.honest → AreDecidedBefore (log_rules l.rules) (g.F.Files.means l.fn.files).tree l.fn.edits l.i l.edits (due_paths l.due);
}
