use Rattle.std.proofs.Common.{◌≡◌, ◌<◌, ◌+◌, ◌++◌, length, vec_len, arith, ap, ◌∙◌, sym, append-nil, rules}
use Rattle.std.proofs.lemmas.List.{map-append}
use Rattle.std.specs.Option.{option_map}
use Rattle.gix_ref_name.specs.Names.{full_bytes}
use Rattle.gix_ref_edits.specs.EditValues.{edit_value}
use Rattle.gix_ref_edits.specs.SplitLists.{looked_up, child_list}
use Rattle.gix_ref_edits.proofs.OneEntry.{rest_of}
use Rattle.gix_ref_transaction.specs.Splits.{values_of}
use Rattle.gix_ref_transaction.specs.internal.SplitRounds.{child_values}
use Rattle.gix_ref_transaction.proofs.SplitLemmas.{after_more, children_more, parent_is, parent_of, parents_more}
use Rattle.gix_ref_transaction.proofs.prepare.split.split_all.Goals as goal
use Rattle.gix_ref_transaction.proofs.prepare.split.split_all.Goals.{in-Some+in_ok-push-in-Some+in_ok-push-in-Some-2, in-None}

pub loop-i-preserved : goal.loop-i-preserved
loop-i-preserved c =
    let x = c.loop-i.invariant in
    let i = c.loop-i.i in
    let start = c.args.edits.now.items in
    let now = c.loop-i.edits.items in
    let names = c.args.names.items in
    let left = c.loop-i.names.items in
    let edit = c.index_mut-in-loop-i.result.now in
    let edit_is = c.index_mut-in-loop-i.ensures.value in
    let name = c.index_mut.result.now in
    let lt : i < length start = omega arith in
    let lt' : i < length now = omega (arith, x.edits_len) in
    let named : i < length names = omega (arith, c.requires) in
    let kids : values_of c.match-branch-2.children.items ≡ values_of c.loop-i.children.items ++ child_values c.in_ok-child.field-0 =
    elim c.match-branch-2.branch [
      | in-Some+in_ok-push-in-Some+in_ok-push-in-Some-2 w ↦ ap (λ v. values_of v.items) w.children-is ∙ (ap values_of w.in_ok-push-in-Some.ensures.items
          ∙ (map-append edit_value c.loop-i.children.items _ ∙ ap (λ o. values_of c.loop-i.children.items ++ child_values o) (sym w.in-Some.is)))
      | in-None w ↦ ap (λ v. values_of v.items) w.children-is ∙ (sym (append-nil (values_of c.loop-i.children.items)) ∙ ap (λ o. values_of c.loop-i.children.items ++ child_values o) (sym w.in-None.is))
    ] in
    let first = c.args.first in
    let more : c.match-branch-2.parents.items ≡ c.loop-i.parents.items ++ parent_of (first + i) c.in_ok-child.field-0 =
    elim c.match-branch-2.branch [
      | in-Some+in_ok-push-in-Some+in_ok-push-in-Some-2 w ↦ ap (λ v. v.items) w.parents-is ∙ (w.in_ok-push-in-Some-2.ensures.items ∙ ap (λ o. c.loop-i.parents.items ++ parent_of (first + i) o) (sym w.in-Some.is))
      | in-None w ↦ ap (λ v. v.items) w.parents-is ∙ (sym (append-nil c.loop-i.parents.items) ∙ ap (λ o. c.loop-i.parents.items ++ parent_of (first + i) o) (sym w.in-None.is))
    ] in
    let as_many : vec_len c.match-branch-2.parents ≡ vec_len c.match-branch-2.children =
    elim c.match-branch-2.branch [
      | in-Some+in_ok-push-in-Some+in_ok-push-in-Some-2 w ↦ ap vec_len w.parents-is ∙ (omega (arith, x.len, w.in_ok-push-in-Some.ensures.len, w.in_ok-push-in-Some-2.ensures.len) ∙ sym (ap vec_len w.children-is))
      | in-None w ↦ ap vec_len w.parents-is ∙ (x.len ∙ sym (ap vec_len w.children-is))
    ] in
    let child = c.in_ok-child.ensures.child ∙ ap (λ n. child_list (edit_value edit) (option_map full_bytes n)) c.take-name.ensures.value in
    record {
      edits_len = search rules;
      names_len = search rules;
      after = after_more start now names left i edit c.split_edit.new.edit name lt lt' named x.edits_left x.names_left edit_is c.index_mut.ensures.value
          (c.in_ok-child.ensures.after ∙ ap (λ n. looked_up (edit_value edit) (option_map full_bytes n)) c.take-name.ensures.value) x.after;
      children = kids ∙ children_more start now names left i edit c.split_edit.new.edit name lt lt' named x.edits_left x.names_left edit_is c.index_mut.ensures.value (values_of c.loop-i.children.items) (child_values c.in_ok-child.field-0)
          child x.children;
      parents = more ∙ parents_more start now names left i edit c.split_edit.new.edit name lt lt' named x.edits_left x.names_left edit_is c.index_mut.ensures.value first c.loop-i.parents.items (parent_of (first + i) c.in_ok-child.field-0)
          (parent_is (first + i) (edit_value edit) c.in_ok-child.field-0 (option_map full_bytes name) child) x.parents;
      len = as_many;
      edits_left = rest_of now start i c.split_edit.new.edit lt' lt x.edits_left;
      names_left = rest_of left names i _ (omega (arith, x.names_len, named)) named x.names_left;
    }
