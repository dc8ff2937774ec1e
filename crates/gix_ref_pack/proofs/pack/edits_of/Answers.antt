use Rattle.std.proofs.Common.{◌∙◌, sym}
use Rattle.gix_ref_pack.specs.KnownObjects.{is_known}
use Rattle.gix_ref_pack.specs.declared.pack.Loose.{Loose}
use Rattle.gix_ref_pack.proofs.Choosing.{kept_filter_more}
use Rattle.gix_ref_pack.proofs.pack.edits_of.Goals as goal

pub loop-name-preserved-in-Continue-1 : goal.loop-name-preserved-in-Continue-1
loop-name-preserved-in-Continue-1 c =
    let objects = c.args.objects.now in
    rw c.in_ok-push.ensures.items
    (kept_filter_more (λ (r : Loose). is_known objects r.id) c.loop-name.yielded c.loop-name.edits.items c.in-Some.field-0 c.same_object.result c.loop-name.invariant (sym c.has.ensures ∙ c.if-has.true) c.same_object.ensures)
