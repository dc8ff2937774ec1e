use Rattle.std.proofs.Common.{◌≡◌, take, vec_len, All}
use Rattle.gix_ref_theory.specs.OnRealTrees.{view_of}
use Rattle.gix_ref_transaction.specs.PrepareSteps.{setting_of}
use Rattle.gix_ref_transaction.specs.Splits.{name_led_to, values_of, CanFollow}
use Rattle.gix_ref_files.specs.ReadOnly.{OnlyReads}
use Rattle.gix_ref_transaction.specs.internal.SplitRounds.{led_to, led_by}
use Rattle.gix_ref_transaction.proofs.prepare.split.follow_all.Given as goal

-- the edits that were seen could be looked up, and lead there
abbrev pub invariant-loop-edit : goal.invariant-loop-edit
invariant-loop-edit g l =
    let s = setting_of l.settings in
    let seen = values_of (take l.edit-index l.edits) in
    record {
      len : vec_len l.names ≡ l.edit-index;
      reads : OnlyReads g.F.Files.honest g.F.Files.means g.F.Files.faults l.fn.files l.files;
      led : g.F.Files.honest → led_to l.names.items ≡ led_by (name_led_to s (view_of (g.F.Files.means l.fn.files).tree)) seen;
      can_follow : All (CanFollow s) seen;
    }
