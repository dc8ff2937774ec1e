use Rattle.std.proofs.Common.{◌≡◌, ◌<◌, ◌≤◌, ⊎_elim, inl, inr, All, length, arith, subst, sym, ◌∙◌, ap, rules, [], ◌∷◌, ◌++◌, take}
use Rattle.std.proofs.lemmas.List.{take_all}
use Rattle.std.proofs.lemmas.List.Elements.{All-push}
use Rattle.std.proofs.lemmas.Result.{err_from_is_err_and}
use Rattle.std.specs.Option.{option_map}
use Rattle.gix_ref_name.specs.Names.{full_bytes}
use Rattle.gix_ref_files.specs.Tree.{Tree}
use Rattle.gix_ref_theory.specs.OnRealTrees.{view_of}
use Rattle.gix_ref_edits.specs.EditValues.{edit_value}
use Rattle.gix_ref_edits.specs.RefEdits.{name_of}
use Rattle.gix_ref_edits.specs.SplitLists.{referent}
use Rattle.gix_ref_transaction.specs.PrepareSteps.{setting_of}
use Rattle.gix_ref_transaction.specs.Splits.{name_led_to, values_of, CanFollow}
use Rattle.gix_ref_transaction.specs.internal.SplitRounds.{led_by, led_to}
use Rattle.gix_ref_transaction.proofs.SplitLemmas.{first_misnamed, led_more, values_more}
use Rattle.gix_ref_files.proofs.ReadOnly.{reads_more}
use Rattle.gix_ref_transaction.proofs.prepare.split.follow_all.Goals as goal

pub returns-in_err-name-clause-refused : goal.returns-in_err-name-clause-refused
returns-in_err-name-clause-refused g c =
    let s = setting_of c.args.settings.now in
    let edits = c.args.edits.now in
    let i = c.loop-edit.edit-index in
    let lt : i < length edits = omega arith in
    let told = err_from_is_err_and c.from_residual-in_err-name.result c.from_residual-in_err-name.ensures.1 in
    rw (told.1, told.2)
    (⊎_elim (λ outside. inl outside)
    (λ bad. inr (first_misnamed s edits i c.edit-item.result _ lt c.edit-item.is c.loop-edit.invariant.can_follow bad.0 bad.1))
    c.in_err-name.ensures.refused)

pub loop-edit-preserved : goal.loop-edit-preserved
loop-edit-preserved g c =
    let F = g.F.Files in
    let x = c.loop-edit.invariant in
    let s = setting_of c.args.settings.now in
    let edits = c.args.edits.now in
    let edit = c.edit-item.result in
    let i = c.loop-edit.edit-index in
    let lt : i < length edits = omega arith in
    let seen = values_more edits i edit lt c.edit-item.is in
    let here = c.in_ok-name.ensures in
    let pushed : c.push.new.self.items ≡ c.loop-edit.names.items ++ c.in_ok-name.name ∷ [] = search rules in
    record {
      len = search rules;
      reads = reads_more F.honest F.means F.faults c.args.files.now c.loop-edit.files c.follow.new.files x.reads here.reads;
      led = λ h.
          let lead : Tree → _ = λ T. name_led_to s (view_of T) in
          let find = lead (F.means c.args.files.now).tree in
          let told : option_map full_bytes c.in_ok-name.name ≡ referent find (name_of edit) edit.deref = here.led h ∙ ap (λ (T : Tree). referent (lead T) (name_of edit) edit.deref) (x.reads.leaves h).tree in
          ap led_to pushed ∙ (led_more find c.loop-edit.names.items c.in_ok-name.name (values_of (take i edits)) (edit_value edit) (x.led h) told ∙ ap (led_by find) (sym seen));
      can_follow = subst (All (CanFollow s)) (sym seen) (All-push (CanFollow s) _ (edit_value edit) x.can_follow here.can_follow);
    }

pub returns-clause-can_follow : goal.returns-clause-can_follow
returns-clause-can_follow g c =
    let le : length c.args.edits.now ≤ c.loop-edit.edit-index = omega arith in
    subst (λ l. All (CanFollow (setting_of c.args.settings.now)) (values_of l)) (take_all c.loop-edit.edit-index c.args.edits.now le) c.loop-edit.invariant.can_follow
