use Rattle.gix_ref_packed_text.proofs.OneReading.{no_end, no_id}
use Rattle.gix_ref_packed_text.proofs.packed.decode.record_line.take_peeled.Goals as goal

pub returns-in_default-after_newline : goal.returns-in_default-after_newline
returns-in_default-after_newline c =
    no_end c.args.kind c.args.text.now c.in-Some.line.now c.in-Some-split_id.object.now c.in-Some-split_id.after.now c.in-Some.ensures c.in-Some-split_id.ensures.0 c.in-Some-split_id.ensures.1 c.in_default-after_newline.ensures

pub returns-in_default-split_id : goal.returns-in_default-split_id
returns-in_default-split_id c = no_id c.args.kind c.args.text.now c.in-Some.line.now c.in-Some.ensures c.in_default-split_id.ensures
