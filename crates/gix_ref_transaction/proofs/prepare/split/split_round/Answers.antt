use Rattle.std.proofs.Common.{rules, Option, ◌∙◌, ap, arith, length}
use Rattle.std.specs.Option.{option_map}
use Rattle.std.proofs.lemmas.List.{length-map}
use Rattle.gix_ref_name.specs.Names.{full_bytes}
use Rattle.gix_ref_name.specs.declared.name.FullName.{FullName}
use Rattle.gix_ref_edits.specs.EditValues.{edit_value}
use Rattle.gix_ref_theory.specs.OnRealTrees.{view_of}
use Rattle.gix_ref_transaction.specs.PrepareSteps.{setting_of}
use Rattle.gix_ref_transaction.specs.Splits.{name_led_to, values_of}
use Rattle.gix_ref_transaction.specs.internal.SplitRounds.{after_by, children_by, led_to, parents_by}
use Rattle.gix_ref_transaction.proofs.SplitLemmas.{after_by_is, children_by_is, parents_by_is}
use Rattle.gix_ref_transaction.proofs.prepare.split.split_round.Goals as goal

pub returns-clause-over : goal.returns-clause-over
returns-clause-over g c =
    let find = name_led_to (setting_of c.args.settings.now) (view_of (g.F.Files.means c.args.files.now).tree) in
    let given = c.args.edits.now.items in
    let edits = values_of given in
    let names = c.in_ok-names.names in
    record {
      round = λ h. record {
        changed = c.in_ok-children.ensures.after ∙ (ap (after_by edits) (rw c.deref.ensures.value at (c.in_ok-names.ensures.led h)) ∙ after_by_is find edits);
        split = c.in_ok-children.ensures.children ∙ (ap (children_by edits) (rw c.deref.ensures.value at (c.in_ok-names.ensures.led h)) ∙ children_by_is find edits);
      };
      parents = λ h. c.in_ok-children.ensures.parents ∙ (ap (parents_by c.args.first) (rw c.deref.ensures.value at (c.in_ok-names.ensures.led h)) ∙ parents_by_is find c.args.first edits);
      len = search rules;
      by = record {
        led = led_to names.items;
        len = omega (
          arith,
          length-map names.items (λ (name : Option FullName). option_map full_bytes name),
          length-map given edit_value,
          names.ok,
          c.in_ok-names.ensures.len,
          ap length c.deref.ensures.value,
        );
        changed = c.in_ok-children.ensures.after;
        split = c.in_ok-children.ensures.children;
      };
      can_follow = search rules;
    }
