use Rattle.std.proofs.Common.{rules, subst, sym, ◌∙◌}
use Rattle.gix_ref_edits.specs.SplitLists.{IsSplitList}
use Rattle.gix_ref_theory.specs.OnRealTrees.{view_of}
use Rattle.gix_ref_transaction.specs.PrepareSteps.{setting_of}
use Rattle.gix_ref_transaction.specs.Splits.{name_led_to, values_of}
use Rattle.gix_ref_transaction.proofs.SplitLemmas.{direct_can, direct_parents, direct_split, direct_values}
use Rattle.gix_ref_files.proofs.ReadOnly.{reads_none}
use Rattle.gix_ref_transaction.proofs.prepare.split.split_edits.Goals as goal

pub returns-in-Ok-clause-split : goal.returns-in-Ok-clause-split
returns-in-Ok-clause-split g c =
    let s = setting_of c.args.settings.now in
    let find = name_led_to s (view_of (g.F.Files.means c.args.files.now).tree) in
    let given = values_of c.args.edits.items in
    let direct = direct_values c.args.edits.items (rw c.deref.ensures.value at c.if-none_follow.ensures) in
    record {
      is = λ h. subst (λ edits. IsSplitList find given (values_of edits.items)) (sym c.in-Ok.ensures.edits) (direct_split find s given direct);
      parents = λ h. c.in-Ok.ensures.parents ∙ direct_parents find s given direct 4;
      len = c.in-Ok.ensures.len;
      can_follow = λ h. direct_can find s given direct;
      valid = search rules;
      updates = search rules;
    }

pub returns-in-Ok-clause-reads : goal.returns-in-Ok-clause-reads
returns-in-Ok-clause-reads g c = reads_none g.F.Files.honest g.F.Files.means g.F.Files.faults c.args.files.now

pub returns-in-Err-clause-reads : goal.returns-in-Err-clause-reads
returns-in-Err-clause-reads g c = reads_none g.F.Files.honest g.F.Files.means g.F.Files.faults c.args.files.now
