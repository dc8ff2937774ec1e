use Rattle.std.proofs.Common.{inl, inr, ◌∙◌, ap, subst, ◌++◌}
use Rattle.gix_ref_name.specs.Namespaces.{expanded}
use Rattle.gix_ref_name.proofs.PartialNames.{IsPath, rules_of, first_component, last_component}
use Rattle.gix_ref_name.proofs.Expanding.{keeps_none, keeps_more, begins_more, begins_test, ends_test, value_more, value_last}
use Rattle.gix_ref_name.proofs.namespace.expansion.expand.Goals as goal

pub loop-component-init : goal.loop-component-init
loop-component-init c = record {
  value = ap (λ v. v ++ expanded c.to_partial_path-rest.result.now) c.new-bytes.ensures.items;
  begins = inl c.new-bytes.ensures.items;
  keeps = keeps_none _ c.new-bytes.ensures.items;
  path = (rules_of _ c.to_partial_path-rest.ensures.valid).0;
}

pub loop-component-preserved : goal.loop-component-preserved
loop-component-preserved c =
    let was = c.loop-component.invariant in
    let cut = c.in-Some.ensures in
    let grown = c.in_ok-push_component.ensures in
    let parts = first_component c.in-Some.component.now c.in-Some.after.now cut.none (subst IsPath cut.whole was.path) in
    record {
      value = value_more _ _ _ c.in-Some.component.now _ _ cut.none cut.whole grown was.value;
      begins = inr (begins_more _ _ c.in-Some.component.now was.begins grown);
      keeps = keeps_more _ _ c.in-Some.component.now was.keeps parts.0 grown;
      path = parts.1;
    }

pub invariant_of-result : goal.invariant_of-result
invariant_of-result c =
    let was = c.loop-component.invariant in
    let rest = c.loop-component.rest.now in
    let grown = c.in_ok-push_component-2.ensures in
    record {
      begins = begins_test _ (begins_more _ _ rest was.begins grown);
      ends = ends_test _ _ rest grown;
      keeps = keeps_more _ _ rest was.keeps (last_component rest c.in_default.ensures was.path) grown;
    }

pub returns : goal.returns
returns c =
    let was = c.loop-component.invariant in
    value_last _ _ c.loop-component.rest.now _ c.in_default.ensures c.in_ok-push_component-2.ensures was.value ∙ ap expanded c.to_partial_path-rest.ensures.bytes
