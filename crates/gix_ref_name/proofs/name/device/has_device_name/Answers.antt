use Rattle.std.proofs.Common.{sym, ◌∙◌}
use Rattle.gix_ref_name.proofs.DeviceLemmas.{device_first, device_rest, device_alone}
use Rattle.gix_ref_name.proofs.name.device.has_device_name.Goals as goal

pub returns-then-is_device_name : goal.returns-then-is_device_name
returns-then-is_device_name c =
    device_first _ c.in-Some.component.now c.in-Some.after.now c.is_device_name.result c.in-Some.ensures.whole c.in-Some.ensures.none c.is_device_name.ensures c.if-is_device_name.true
    ∙ c.loop-component.invariant

pub loop-component-preserved : goal.loop-component-preserved
loop-component-preserved c =
    device_rest _ c.in-Some.component.now c.in-Some.after.now c.is_device_name.result c.in-Some.ensures.whole c.in-Some.ensures.none c.is_device_name.ensures c.if-is_device_name.false
    ∙ c.loop-component.invariant

pub returns : goal.returns
returns c = c.is_device_name-2.ensures ∙ sym (device_alone c.loop-component.rest.now c.in_default.ensures) ∙ c.loop-component.invariant
