use Rattle.std.proofs.Common.{◌≡◌, [], All, vec_len}
use Rattle.gix_ref_theory.specs.OnRealTrees.{view_of}
use Rattle.gix_ref_edits.specs.RefEdits.{AreUpdates}
use Rattle.gix_ref_edits.specs.SplitLists.{after_round, first_levels, level}
use Rattle.gix_ref_transaction.specs.Causes.{AllValid}
use Rattle.gix_ref_transaction.specs.Parents.{first_parents, level_parents}
use Rattle.gix_ref_transaction.specs.PrepareSteps.{setting_of}
use Rattle.gix_ref_transaction.specs.Splits.{name_led_to, values_of, CanFollow}
use Rattle.gix_ref_files.specs.ReadOnly.{OnlyReads}
use Rattle.gix_ref_transaction.specs.internal.SplitRounds.{IsValidValue, IsSoundValue, IsUpdateValue}
use Rattle.gix_ref_transaction.proofs.prepare.split.split_in_rounds.Given as goal

-- so many levels had their rounds, and the next one is yet to have its own
abbrev pub invariant-loop-round : goal.invariant-loop-round
invariant-loop-round g l =
    let s = setting_of l.settings in
    let kind = l.settings.kind in
    let find = name_led_to s (view_of (g.F.Files.means l.fn.files).tree) in
    let given = values_of l.fn.edits.items in
    record {
      done : g.F.Files.honest → values_of l.done.edits.items ≡ after_round find (first_levels find given l._round);
      next : g.F.Files.honest → values_of l.level.edits.items ≡ level find given l._round;
      done_parents : g.F.Files.honest → l.done.parents.items ≡ first_parents find given l._round;
      next_parents : g.F.Files.honest → l.level.parents.items ≡ level_parents find given l._round;
      done_len : vec_len l.done.parents ≡ vec_len l.done.edits;
      next_len : vec_len l.level.parents ≡ vec_len l.level.edits;
      can_follow : g.F.Files.honest → All (CanFollow s) (first_levels find given l._round);
      reads : OnlyReads g.F.Files.honest g.F.Files.means g.F.Files.faults l.fn.files l.files;
      valid : AllValid s kind [] l.fn.edits.items → All (IsValidValue s kind) (values_of l.done.edits.items) × All (IsSoundValue s kind) (values_of l.level.edits.items);
      updates : AreUpdates l.fn.edits.items → All IsUpdateValue (values_of l.done.edits.items) × All IsUpdateValue (values_of l.level.edits.items);
    }
